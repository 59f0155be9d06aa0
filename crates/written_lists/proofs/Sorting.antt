-- Shown: the whole cursors of a slice are those of its even part.
-- How: a cursor's two numbers lie in that part.
use Prim.Native.Nat.{ℕ, zero, suc, ◌+◌, ◌*◌, ◌/◌, ◌≤◌}
use mathlib.Core.Path.{◌≡◌, refl}
use mathlib.Core.List.{List}
use native.Mathlib.Omega.{arith}
use lib.ListN.{length, take}
use lib.Seq.{get_or-take, length-take-le}
use Rattle.records.specs.Cursors.{cursors_from, cursors_of}
use Rattle.records.proofs.CursorLaws.{length_of_lem}

from_take : (xs : List ℕ) (n i k : ℕ) → (i + k) * 2 ≤ n → cursors_from (take n xs) i k ≡ cursors_from xs i k
unfolding cursors_from
from_take xs n i zero h = refl
from_take xs n i (suc k) h =
    rw (get_or-take n xs (i * 2) 0 (omega arith), get_or-take n xs (i * 2 + 1) 0 (omega arith), from_take xs n (i + 1) k (omega arith))

pub of_take : (xs : List ℕ) → cursors_of (take (length xs / 2 * 2) xs) ≡ cursors_of xs
unfolding cursors_of
of_take xs =
    let e : length (take (length xs / 2 * 2) xs) / 2 ≡ length xs / 2 = rw (length-take-le (length xs / 2 * 2) xs (omega arith)) (omega arith) in
    rw e (from_take xs (length xs / 2 * 2) 0 (length xs / 2) (omega arith))

-- and that part is as long as they are
pub even_part : (xs : List ℕ) → length (take (length xs / 2 * 2) xs) ≡ length xs / 2 * 2
even_part xs = length-take-le (length xs / 2 * 2) xs (omega arith)

pub even_fits : (xs m : List ℕ) → length (cursors_of xs) * 2 ≤ length m → length (take (length xs / 2 * 2) xs) ≤ length m
even_fits xs m h = omega (arith, even_part xs, length_of_lem xs, h)
