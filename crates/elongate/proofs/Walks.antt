-- The steps of the walk: each gives the first of what is left, or leaves it.
-- By the kind of the operation at the place. Assumes nothing.
use Prim.Native.Nat.{ℕ, zero, suc, ◌+◌, ◌-◌, ◌/◌, ◌≤◌, ◌<◌}
use mathlib.Core.Path.{◌≡◌, refl, ◌∙◌, ap}
use mathlib.Core.List.{List, [], ◌∷◌, ◌++◌, append_assoc, append-nil}
use native.Mathlib.Omega.{arith}
use native.Mathlib.Nat.{sub-zero}
use native.Mathlib.Decide.{ℕ_discrete}
use lib.ListN.{length}
use borrow.Author.Tests.{eq-eqb, ne_eqb, lt-ltb, le-ltb}
use Rattle.raw_lists.specs.declared.Raw.{Raw}
use Rattle.raw_lists.specs.Raws.{raw_at, raws_from, raws_of}
use Rattle.raw_lists.proofs.Lists.{from_more, from_none}
use Rattle.elongate.specs.declared.Place.{Place}
use Rattle.elongate.specs.declared.Place.TheVariants.{Deletes, Inserts}
use Rattle.elongate.specs.declared.Step.{Step}
use Rattle.elongate.specs.declared.Step.TheVariants.{Take, Skip, End}
use Rattle.elongate.specs.Elongated.{parts, arranged}
use Rattle.elongate.specs.Places.{kind_of, inserts_of, on_from, behind, left, work, Lies, Stepped}

-- one more at the end
from_last : (xs : List ℕ) (i k : ℕ) → raws_from xs i (suc k) ≡ raws_from xs i k ++ (raw_at xs (i + k) ∷ [])
unfolding raws_from
from_last xs i zero = let e : i + 0 ≡ i = omega arith in rw e
from_last xs i (suc k) =
    let e : i + 1 + k ≡ i + suc k = omega arith in
    ap (λ (rs : List Raw). raw_at xs i ∷ rs) (from_last xs (i + 1) k ∙ rw e)

inserts_append : (rs ss : List Raw) → inserts_of (rs ++ ss) ≡ inserts_of rs ++ inserts_of ss
unfolding inserts_of
inserts_append [] ss = refl
inserts_append (r ∷ rs) ss =
    elim (ℕ_discrete r.kind 0) [
      | yes k ↦ rw (eq-eqb r.kind 0 k, inserts_of) (inserts_append rs ss)
      | no k ↦ rw (ne_eqb r.kind 0 k, inserts_of) (ap (λ (q : List Raw). r ∷ q) (inserts_append rs ss))
    ]

-- the first operation of a list, by its kind

module _ (r : Raw) (rs : List Raw) where
  pub parts_retain : r.kind ≡ 2 → parts kind_of (r ∷ rs) ≡ record { deletes = []; inserts = []; rest = r ∷ arranged kind_of rs }
  unfolding parts
  parts_retain h = rw (eq-eqb r.kind 2 h, parts)

  pub parts_delete : r.kind ≡ 0 → parts kind_of (r ∷ rs)
      ≡ record { deletes = r ∷ (parts kind_of rs).deletes; inserts = (parts kind_of rs).inserts; rest = (parts kind_of rs).rest }
  unfolding parts
  parts_delete h = rw (ne_eqb r.kind 2 (λ e. omega arith), eq-eqb r.kind 0 h, parts)

  pub parts_insert : (r.kind ≡ 2 → ⊥) → (r.kind ≡ 0 → ⊥) → parts kind_of (r ∷ rs)
      ≡ record { deletes = (parts kind_of rs).deletes; inserts = r ∷ (parts kind_of rs).inserts; rest = (parts kind_of rs).rest }
  unfolding parts
  parts_insert h g = rw (ne_eqb r.kind 2 h, ne_eqb r.kind 0 g, parts)

  inserts_skip : r.kind ≡ 0 → inserts_of (r ∷ rs) ≡ inserts_of rs
  unfolding inserts_of
  inserts_skip h = rw (eq-eqb r.kind 0 h, inserts_of)

  inserts_take : (r.kind ≡ 0 → ⊥) → inserts_of (r ∷ rs) ≡ r ∷ inserts_of rs
  unfolding inserts_of
  inserts_take h = rw (ne_eqb r.kind 0 h, inserts_of)

module _ (xs : List ℕ) (start at : ℕ) (lies : start ≤ at) where
  -- the inserts walked over, with one more operation
  over : inserts_of (raws_from xs start (at + 1 - start)) ≡ inserts_of (raws_from xs start (at - start)) ++ inserts_of (raw_at xs at ∷ [])
  over =
      let e : at + 1 - start ≡ suc (at - start) = omega arith in
      let f : start + (at - start) ≡ at = omega arith in
      rw (e, from_last xs start (at - start), f) (inserts_append (raws_from xs start (at - start)) (raw_at xs at ∷ []))

  pub ends_stretch : length xs / 3 ≤ at → at ≤ length xs / 3 → Stepped xs (Deletes start at) (Skip (Inserts start at))
  unfolding left behind parts
  ends_stretch h g =
      let e : on_from xs at ≡ [] = from_none xs at (length xs / 3) h in
      record { gives = (rw (e, le-ltb at (length xs / 3) h, behind), (omega arith, (lies, g))) }

  module _ (r : Raw) (h : at < length xs / 3) (e : r ≡ raw_at xs at) where
    rest : List Raw
    rest = on_from xs (at + 1)

    here : on_from xs at ≡ r ∷ rest
    unfolding rest
    here = rw e (from_more xs at (length xs / 3) h)

    pub meets_retain : r.kind ≡ 2 → Stepped xs (Deletes start at) (Skip (Inserts start at))
    unfolding left behind rest
    meets_retain k =
        record {
          gives = (
            rw (here, parts_retain r rest k, lt-ltb at (length xs / 3) h, behind)
                (ap (λ (q : Raw). inserts_of (raws_from xs start (at - start)) ++ (q ∷ arranged kind_of rest)) e),
            (omega arith, (lies, omega arith)),
          );
        }

    pub takes_delete : r.kind ≡ 0 → Stepped xs (Deletes start at) (Take r (Deletes start (at + 1)))
    unfolding left rest inserts_of
    takes_delete k =
        let z : inserts_of (raw_at xs at ∷ []) ≡ [] = rw (← e) (inserts_skip r [] k) in
        let q : inserts_of (raws_from xs start (at + 1 - start)) ≡ inserts_of (raws_from xs start (at - start)) = over ∙ rw (z, append-nil) in
        record { gives = (rw (here, parts_delete r rest k, q), (omega arith, (omega arith, omega arith))) }

    pub skips_insert : (r.kind ≡ 2 → ⊥) → (r.kind ≡ 0 → ⊥) → Stepped xs (Deletes start at) (Skip (Deletes start (at + 1)))
    unfolding left rest inserts_of
    skips_insert k j =
        let z : inserts_of (raw_at xs at ∷ []) ≡ r ∷ [] = rw (← e) (inserts_take r [] j) in
        record { gives = (rw (here, parts_insert r rest k j, over, z, append_assoc), (omega arith, (omega arith, omega arith))) }

module _ (xs : List ℕ) (at end : ℕ) (l : end ≤ length xs / 3) where
  module _ (r : Raw) (h : at < end) (e : r ≡ raw_at xs at) where
    now : inserts_of (raws_from xs at (end - at)) ≡ inserts_of (r ∷ raws_from xs (at + 1) (end - (at + 1)))
    now = rw (from_more xs at end h, e)

    pub skips_delete : r.kind ≡ 0 → Stepped xs (Inserts at end) (Skip (Inserts (at + 1) end))
    unfolding left
    skips_delete k = record { gives = (rw (now, inserts_skip r (raws_from xs (at + 1) (end - (at + 1))) k), (omega arith, (omega arith, l))) }

    pub takes_insert : (r.kind ≡ 0 → ⊥) → Stepped xs (Inserts at end) (Take r (Inserts (at + 1) end))
    unfolding left
    takes_insert k =
        record { gives = (rw (now, inserts_take r (raws_from xs (at + 1) (end - (at + 1))) k), (omega arith, (omega arith, l))) }

  pub takes_retain : (r : Raw) → end ≤ at → at ≤ end → end < length xs / 3 → r ≡ raw_at xs end → Stepped xs (Inserts at end) (Take r (Deletes (end + 1) (end + 1)))
  unfolding left behind inserts_of
  takes_retain r h g w e =
      record {
        gives = (
          rw (from_none xs at end h, lt-ltb end (length xs / 3) w, behind, from_none xs (end + 1) (end + 1) (omega arith), e),
          (omega arith, (omega arith, omega arith)),
        );
      }

  pub gives_none : end ≤ at → length xs / 3 ≤ end → Stepped xs (Inserts at end) End
  unfolding left behind inserts_of
  gives_none h w = record { gives = rw (from_none xs at end h, le-ltb end (length xs / 3) w, behind) }

-- the walk begins with all of the list, arranged
pub walk_begins : (xs : List ℕ) → left xs (Deletes 0 0) ≡ arranged kind_of (raws_of xs)
unfolding left raws_of inserts_of
walk_begins xs = rw (from_none xs 0 0 (omega arith), sub-zero)

-- what a step that was taken, or not, says

module _ {xs : List ℕ} {p : Place} {s : Step} (h : Stepped xs p s) where
  pub took : {r : Raw} {q : Place} → s ≡ Take r q → (left xs p ≡ r ∷ left xs q) × ((work (length xs / 3) q < work (length xs / 3) p) × Lies (length xs / 3) q)
  took e = (rw e at h).gives

  pub ended : s ≡ End → left xs p ≡ []
  ended e = (rw e at h).gives
