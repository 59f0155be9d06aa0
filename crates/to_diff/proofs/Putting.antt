-- Shown: one item put at its place.
-- How: by cases on whether a retain was held back.
use Prim.Native.Nat.{ℕ, zero, suc, ◌+◌, ◌-◌, ◌*◌, ◌≤◌}
use mathlib.Core.Path.{◌≡◌, refl, sym, ap}
use mathlib.Core.List.{List, [], ◌∷◌, append-nil}
use native.Mathlib.Omega.{arith}
use native.Mathlib.Nat.{add-zero}
use lib.ListN.{length, take, take-append-drop}
use lib.IntN.{ℤ, pos}
use Rattle.room.specs.Placed.{placed, Put}
use Rattle.edit_format.specs.Items.{Keep}
use Rattle.edit_format.specs.Records.{record_of, records_from, records_of}
use Rattle.to_diff.specs.Writes.{keeps, Kept, Inserted}

-- none was held back
pub kept_none : (n place : ℕ) (d : List ℤ) → n ≡ 0 → Kept n place d d place
unfolding keeps records_of records_from placed
kept_none n place d e =
    record {
      next = rw e (omega arith);
      stands = rw (e, add-zero (place * 3), append-nil (take (place * 3) d)) (sym (take-append-drop (place * 3) d));
    }

kept_some : (n : ℕ) → (n ≡ 0 → ⊥) → keeps n ≡ Keep n ∷ []
unfolding keeps
kept_some zero h = absurd (h refl)
kept_some (suc n) h = refl

pub kept_long : (n place m : ℕ) → (n ≡ 0 → ⊥) → (place + length (keeps n)) * 3 ≤ m → place * 3 + 3 ≤ m
kept_long n place m h f = let e = ap length (kept_some n h) in omega arith

pub kept_one : (n place : ℕ) (d d' : List ℤ) → (n ≡ 0 → ⊥) → d' ≡ placed d (place * 3) (pos 0 ∷ pos n ∷ pos 0 ∷ []) → Kept n place d d' (place + 1)
unfolding records_of records_from record_of
kept_one n place d d' h e = record { next = rw (kept_some n h); stands = rw (kept_some n h) e }

-- an insert's item, behind its text
pub inserted : (s : List ℕ) (place at : ℕ) (d d' : List ℤ) (e e' : List ℕ) (r : ℕ) → Put s e at e' r → d' ≡ placed d (place * 3) (pos 1 ∷ pos at ∷ pos (r - at) ∷ [])
    → Inserted s place at d d' e e' r
unfolding record_of
inserted s place at d d' e e' r p f =
    let l : r - at ≡ length s = omega (arith, p.next) in
    record { next = p.next; spelt = p.stands; stands = rw l at f }
