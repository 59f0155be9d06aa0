-- Where the walk through a raw list stands, and which operations it has still to give, in the order that elongating gives them. Assumes nothing.
use Rattle.std.specs.Prelude.{ℕ, ◌+◌, ◌-◌, ◌/◌, ◌≤◌, ◌<◌, ◌*◌, ◌≡◌, true, false, List, [], ◌∷◌, ◌++◌, length, eqb, ltb}
use Rattle.raw_lists.specs.declared.Raw.{Raw}
use Rattle.raw_lists.specs.Raws.{raw_at, raws_from}
use Rattle.elongate.specs.declared.Place.{Place}
use Rattle.elongate.specs.declared.Place.TheVariants.{Deletes, Inserts}
use Rattle.elongate.specs.declared.Step.{Step}
use Rattle.elongate.specs.declared.Step.TheVariants.{Take, Skip, End}
use Rattle.elongate.specs.Elongated.{parts, arranged}

-- "A raw operation is a kind and its tokens": its kind
abbrev pub kind_of : Raw → ℕ
kind_of r = r.kind

-- "all inserts": those of a list without a retain
unfoldable pub inserts_of : List Raw → List Raw
inserts_of [] = []
inserts_of (r ∷ rs) = elim (eqb r.kind 0) [ true ↦ inserts_of rs | false ↦ r ∷ inserts_of rs ]

-- the operations from place i on
abbrev pub on_from : List ℕ → ℕ → List Raw
on_from xs i = raws_from xs i (length xs / 3 - i)

-- the retain at the end of a stretch, and what comes behind it, arranged
unfoldable pub behind : List ℕ → ℕ → List Raw
behind xs e = elim (ltb e (length xs / 3)) [ true ↦ raw_at xs e ∷ arranged kind_of (on_from xs (e + 1)) | false ↦ [] ]

-- what a place has still to give
unfoldable pub left : List ℕ → Place → List Raw
left xs (Deletes start at) =
    (parts kind_of (on_from xs at)).deletes
    ++ (inserts_of (raws_from xs start (at - start)) ++ ((parts kind_of (on_from xs at)).inserts ++ (parts kind_of (on_from xs at)).rest))
left xs (Inserts at end) = inserts_of (raws_from xs at (end - at)) ++ behind xs end

-- how many steps it has at most still to go
abbrev pub work : ℕ → Place → ℕ
work n (Deletes start at) = (at - start) + 3 * (n - at) + 2
work n (Inserts at end) = (end - at) + 3 * (n - end) + 1

-- a place lies in the list
abbrev pub Lies : ℕ → Place → Type 0
Lies n (Deletes start at) = (start ≤ at) × (at ≤ n)
Lies n (Inserts at end) = (at ≤ end) × (end ≤ n)

-- what a step gives: an operation and the place behind it; a place only; or nothing is left
abbrev pub Gives : List ℕ → Place → Step → Type 0
Gives xs p (Take r q) = (left xs p ≡ r ∷ left xs q) × ((work (length xs / 3) q < work (length xs / 3) p) × Lies (length xs / 3) q)
Gives xs p (Skip q) = (left xs p ≡ left xs q) × ((work (length xs / 3) q < work (length xs / 3) p) × Lies (length xs / 3) q)
Gives xs p End = left xs p ≡ []

-- the statement of a step
pub record Stepped (xs : List ℕ) (p : Place) (s : Step) : Type 0 where
  pub gives : Gives xs p s
