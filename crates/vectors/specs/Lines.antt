-- What a reader of a line promises a caller's loop. Assumes nothing.
use Rattle.std.specs.Prelude.{ℕ, ◌<◌, ◌≤◌, List, length}
use Rattle.vectors.specs.declared.number.Line.{Line}

-- a line was read: what was put fits the room, and within the bytes the offset grows
pub record Read {A : Type 0} (bytes : List ℕ) (room : List A) (at : ℕ) (r : Line A) : Type 0 where
  pub fits : length r.numbers.now ≤ length room
  pub grows : at < length bytes → at < r.next
