-- A run put into a room behind another.
-- List arithmetic over `take` and `drop`, for values of any type. Assumes nothing.
use Prim.Native.Nat.{ℕ, ◌+◌, ◌≤◌}
use mathlib.Core.Path.{◌≡◌, ◌∙◌}
use mathlib.Core.List.{List, ◌++◌}
use native.Mathlib.Omega.{arith}
use lib.ListN.{length}
use Rattle.room.specs.Placed.{placed}
use Rattle.room.proofs.Placing.{placed_more}

-- a room with a run and the rest put behind it is the room with both
pub goes_on : {A : Type 0} (d d' s t x : List A) (a b : ℕ) → d' ≡ placed d a s → b ≡ a + length s → a + length s ≤ length d → placed d a (s ++ t) ≡ x
    → placed d' b t ≡ x
goes_on d d' s t x a b e f h g = rw (e, f) (placed_more d a s t (omega arith) ∙ g)
