-- A step is 1 from its number on, 0 before it, and never more.
-- By which of the two it is. Assumes nothing.
use mathlib.Core.Path.{◌≡◌}
use Prim.Native.Nat.{ℕ, ◌≤◌, ◌<◌}
use native.Mathlib.Decide.{dec_lt}
use native.Mathlib.Omega.{arith}
use borrow.Author.Tests.{le-leb, lt-leb}
use Rattle.numbers.specs.Steps.{step}

pub step_yes : (x n : ℕ) → n ≤ x → 1 ≡ step x n
unfolding step
step_yes x n h = rw (le-leb n x h)

pub step_no : (x n : ℕ) → x < n → 0 ≡ step x n
unfolding step
step_no x n h = rw (lt-leb n x h)

pub step_most : (x n : ℕ) → step x n ≤ 1
step_most x n = elim (dec_lt x n) [ yes h ↦ omega (arith, step_no x n h) | no h ↦ omega (arith, step_yes x n (omega arith)) ]
