-- `put_short` puts all of src at the place.
-- The loop's invariant and its ways are those of Copying.
use Rattle.room.proofs.Copying.{Copying}
use Rattle.room.proofs.put_short.Given as goal

abbrev pub invariant-put : goal.invariant-put
invariant-put g l = Copying l.src l.initial.out l.at l.out l.i
