-- Shown: the parts of a room after a run of values was put at a place of it: before it, behind it, and up to its end.
-- How: list arithmetic over `take` and `drop`, for values of any type.
use Prim.Native.Nat.{ℕ, zero, suc, ◌+◌, ◌-◌, ◌≤◌}
use mathlib.Core.Path.{◌≡◌, sym, ◌∙◌, ap}
use mathlib.Core.List.{List, [], ◌∷◌, ◌++◌}
use native.Mathlib.Omega.{arith}
use native.Mathlib.Nat.{sub-zero}
use lib.ListN.{length, take, drop, length-append}
use lib.Seq.{slice, take-append-le, drop-append-le, take_at, drop_at, length-take-le, take-take, take-nil, drop-drop}
use Rattle.room.specs.Placed.{placed}

-- a part, as the code takes it
pub drop_take : {A : Type 0} (f t : ℕ) (l : List A) → drop f (take t l) ≡ take (t - f) (drop f l)
drop_take zero t l = rw sub-zero
drop_take (suc f) zero l = let e : 0 - suc f ≡ 0 = omega arith in rw e
drop_take (suc f) (suc t) [] = sym (take-nil (suc t - suc f))
drop_take (suc f) (suc t) (x ∷ l) = let e : suc t - suc f ≡ t - f = omega arith in rw e (drop_take f t l)

module _ {A : Type 0} (d : List A) (at : ℕ) (s : List A) (h : at + length s ≤ length d) where
  front : length (take at d) ≡ at
  front = length-take-le at d (omega arith)

  head : length (take at d ++ s) ≡ at + length s
  head = rw (length-append, front)

  pub placed_before : (a b : ℕ) → b ≤ at → slice a b (placed d at s) ≡ slice a b d
  unfolding placed
  placed_before a b l =
      ap (drop a)
      (take-append-le b (take at d ++ s) (drop (at + length s) d) (omega (arith, head))
      ∙ (take-append-le b (take at d) s (omega (arith, front)) ∙ take-take b at d l))

  drop_same : (a : ℕ) → at + length s ≤ a → drop a (placed d at s) ≡ drop a d
  unfolding placed
  drop_same a l =
      let k : ℕ = a - (at + length s) in
      let e : a ≡ (at + length s) + k = omega arith in
      rw e
      (sym (drop-drop k (at + length s) (take at d ++ s ++ drop (at + length s) d))
      ∙ (ap (drop k) (drop_at (take at d ++ s) (drop (at + length s) d) (at + length s) head) ∙ drop-drop k (at + length s) d))

  pub placed_behind : (a b : ℕ) → at + length s ≤ a → slice a b (placed d at s) ≡ slice a b d
  placed_behind a b l = rw (drop_take a b (placed d at s), drop_take a b d) (ap (take (b - a)) (drop_same a l))

  pub placed_holds : (a b : ℕ) → a ≤ at → b ≡ at + length s → slice a b (placed d at s) ≡ slice a at d ++ s
  unfolding placed
  placed_holds a b l e =
      rw e
      (ap (drop a) (take_at (take at d ++ s) (drop (at + length s) d) (at + length s) head)
      ∙ drop-append-le a (take at d) s (omega (arith, front)))
