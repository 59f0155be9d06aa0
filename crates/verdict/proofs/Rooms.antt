-- Tests of rooms, one after another, by quotients: a room of six numbers for each part, one of two, then others.
-- Each quotient tells what the product would. Assumes nothing.
use Prim.Native.Nat.{ℕ, ◌*◌, ◌/◌, ◌≤◌, ◌<◌}
use mathlib.Core.Path.{◌≡◌}
use mathlib.Core.Bool.{Bool, false, ◌&&◌}
use native.Mathlib.Omega.{arith}
use lib.Dec.{leb}
use borrow.Author.Tests.{le-leb, lt-leb}

pub first_short : (n o : ℕ) (t : Bool) → o / 6 < n → false ≡ leb (n * 6) o && t
first_short n o t h = rw (lt-leb (n * 6) o (omega arith))

module _ (n o m s : ℕ) (t : Bool) (h : n ≤ o / 6) where
  pub second_short : s / 2 < m → false ≡ leb (n * 6) o && (leb (m * 2) s && t)
  second_short k = rw (le-leb (n * 6) o (omega arith), lt-leb (m * 2) s (omega arith))

  pub both_enough : (r : Bool) → m ≤ s / 2 → r ≡ t → r ≡ leb (n * 6) o && (leb (m * 2) s && t)
  both_enough r k e = rw (le-leb (n * 6) o (omega arith), le-leb (m * 2) s (omega arith)) e
