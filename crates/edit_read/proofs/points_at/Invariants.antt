-- Shown: `points_at` meets its contract.
-- How: loop `points` keeps `SoFar`, and each way through it is a law of proofs/Adding.antt.
use Rattle.edit_read.proofs.Adding.{SoFar}
use Rattle.edit_read.proofs.points_at.Given as goal

abbrev pub invariant-points : goal.invariant-points
invariant-points l = SoFar l.bytes l.at l.added l.count l.i
