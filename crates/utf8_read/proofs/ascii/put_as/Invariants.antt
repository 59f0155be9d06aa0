-- `put_as` puts each value of a run as another.
-- The others of the values so far stand in the room.
use Rattle.utf8_read.proofs.Runs.{Filled}
use Rattle.utf8_read.proofs.ascii.put_as.Given as goal

abbrev pub invariant-put : goal.invariant-put
invariant-put g l = Filled (goal.F-post g l.f) l.src l.initial.out l.at l.out l.i
