-- What a step of the builder does to its position and to the room.
-- Assumes nothing.
use Rattle.std.specs.Prelude.{◌≡◌, ℕ, ◌+◌, List, length, take, drop, min}
use Rattle.room.specs.Placed.{placed}

-- "retain and delete past the end stop at the end"
abbrev pub stop_at : ℕ → ℕ → ℕ → ℕ
stop_at len at n = min (at + n) len

-- the next n of the original were put at a place of the room d, and the position is past them
pub record Retained (original : List ℕ) (position n : ℕ) (d : List ℕ) (at : ℕ) (d' : List ℕ) (r : ℕ) : Type 0 where
  pub moved : r ≡ stop_at (length original) position n
  pub stands : d' ≡ placed d at (take n (drop position original))
