-- `one_by_one` goes on by good sequences to a place or to a bad one.
-- The place is one that good sequences reach: by an ASCII byte, and by one sequence.
use Prim.Native.Nat.{◌-◌}
use Rattle.utf8_read.specs.Window.{Reached}
use Rattle.utf8_read.proofs.one_by_one.Given as goal

abbrev pub invariant-one : goal.invariant-one
invariant-one l = Reached l.bytes l.from l.at

abbrev pub decreases-one : goal.decreases-one
decreases-one l = l.until - l.at
