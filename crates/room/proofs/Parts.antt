-- A part of a list is at most as long as it may be.
-- By the length of what is taken. Assumes nothing.
use mathlib.Core.List.{List}
use Prim.Native.Nat.{ℕ, ◌+◌, ◌-◌, ◌≤◌}
use native.Mathlib.Omega.{arith}
use lib.ListN.{length, take, drop, length-take}

pub part_most : {A : Type 0} (s : List A) (at e n : ℕ) → e ≤ at + n → length (take (e - at) (drop at s)) ≤ n
part_most s at e n h = omega (arith, length-take (e - at) (drop at s))
