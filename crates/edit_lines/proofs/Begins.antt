-- A key compared with the bytes at a place.
-- By induction on the key. Assumes nothing.
use mathlib.Core.Path.{◌≡◌, refl, sym, ap, ◌∙◌}
use mathlib.Core.Bool.{Bool, true, ◌&&◌}
use mathlib.Core.List.{List, [], ◌∷◌}
use Prim.Native.Nat.{ℕ, ◌+◌, ◌-◌, ◌≤◌, zero-le}
use native.Mathlib.Omega.{arith}
use native.Mathlib.Decide.{ℕ_discrete}
use lib.ListN.{length, take, drop, length-drop}
use lib.Seq.{take-length}
use lib.Dec.{eqb}
use borrow.Author.Tests.{eq-eqb, ne_eqb}
use Rattle.room.proofs.Bools.{and_right}
use Rattle.room.proofs.Choices.{no_way}
use Rattle.std.specs.List.{starts_with}
use Rattle.edit_format.specs.Tests.{begins}

-- bytes that begin with a key are as long as the key
pub long : (k s : List ℕ) → begins k s ≡ true → length k ≤ length s
unfolding begins
long [] s e = zero-le
long (k ∷ ks) [] e = no_way e
long (k ∷ ks) (x ∷ xs) e = (let h : length ks ≤ length xs = long ks xs (and_right (eqb x k) (begins ks xs) e) in omega arith)

-- so a key that stands at a place ends in the bytes
pub room_after : (k p : List ℕ) (at : ℕ) → at ≤ length p → begins k (drop at p) ≡ true → at + length k ≤ length p
room_after k p at h e = let w = rw length-drop at (long k _ e) in omega arith

-- the key is compared as std compares it
turned : (a b : ℕ) → eqb a b ≡ eqb b a
turned a b = elim (ℕ_discrete a b) [
  | yes e ↦ eq-eqb a b e ∙ sym (eq-eqb b a (sym e))
  | no e ↦ ne_eqb a b e ∙ sym (ne_eqb b a (λ z. e (sym z)))
]

begins_as : (k s : List ℕ) → starts_with eqb s k ≡ begins k s
unfolding begins
begins_as [] s = refl
begins_as (k ∷ ks) [] = refl
begins_as (k ∷ ks) (x ∷ xs) = rw (turned k x) (ap (λ (t : Bool). eqb x k && t) (begins_as ks xs))

take-all : (s : List ℕ) {n : ℕ} → length s ≡ n → take n s ≡ s
take-all s e = rw (sym e) (take-length s)

pub begins_here : (k p : List ℕ) (at : ℕ) → starts_with eqb (take (length p - at) (drop at p)) k ≡ begins k (drop at p)
begins_here k p at = rw (take-all (drop at p) (length-drop at p)) (begins_as k (drop at p))
