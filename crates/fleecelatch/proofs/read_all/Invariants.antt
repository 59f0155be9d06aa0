-- `read_all` tells how many bytes it put at the start of the buffer: never more than the buffer has.
use Rattle.std.proofs.Common.{length, ◌-◌, ◌≤◌}
use Rattle.fleecelatch.proofs.read_all.Given as goal

abbrev pub invariant-read : goal.invariant-read
invariant-read l = l.count ≤ length l.bytes

abbrev pub decreases-read : goal.decreases-read
decreases-read l = length l.bytes - l.count
