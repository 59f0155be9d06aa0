-- `run` goes on by windows that fit and comes back to the last first byte.
-- The invariant is a stretch of bytes that fit; both kinds of window make it longer.
use Prim.Native.Nat.{◌-◌}
use lib.ListN.{length}
use Rattle.utf8_read.specs.Window.{Stretch}
use Rattle.utf8_read.proofs.run.Given as goal

abbrev pub invariant-run : goal.invariant-run
invariant-run l = Stretch l.bytes l.at l.e

abbrev pub decreases-run : goal.decreases-run
decreases-run l = length l.bytes - l.e
