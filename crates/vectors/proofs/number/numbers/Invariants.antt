-- `numbers` stays within the bytes and the room. The loop's invariant: what was put fits, and the offset only grows.
use Rattle.std.proofs.Common.{◌-◌, ◌≤◌, length}
use Rattle.vectors.proofs.number.numbers.Given as goal

abbrev pub invariant-line : goal.invariant-line
invariant-line g l = (l.count ≤ length l.room) × (l.at ≤ l.next)

abbrev pub decreases-line : goal.decreases-line
decreases-line g l = length l.bytes - l.next
