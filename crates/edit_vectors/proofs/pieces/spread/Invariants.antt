-- `spread` puts no more than the room has, and ends.
-- How: the place stays within the room; each piece leaves a shorter line.
use Rattle.std.proofs.Common.{length, ◌≡◌, ◌≤◌}
use Rattle.edit_vectors.proofs.pieces.spread.Given as goal

abbrev pub invariant-times : goal.invariant-times
invariant-times l = (l.n ≤ length l.room) × (length l.room ≡ length l.fn.room)

abbrev pub invariant-pieces : goal.invariant-pieces
invariant-pieces l = (l.n ≤ length l.room) × (length l.room ≡ length l.fn.room)

abbrev pub decreases-pieces : goal.decreases-pieces
decreases-pieces l = length l.rest
