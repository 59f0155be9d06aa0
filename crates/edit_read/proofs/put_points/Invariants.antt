-- Shown: `put_points` meets its contract.
-- How: loop `points` keeps `Putting`, and each way through it is a law of proofs/Filling.antt.
use Prim.Native.Nat.{◌-◌}
use lib.ListN.{length}
use Rattle.edit_read.proofs.Filling.{Putting}
use Rattle.edit_read.proofs.put_points.Given as goal

abbrev pub invariant-points : goal.invariant-points
invariant-points l = Putting l.bytes l.fn.from.next l.fn.from.start l.initial.text l.text l.start l.at

abbrev pub decreases-points : goal.decreases-points
decreases-points l = length l.initial.text - l.start
