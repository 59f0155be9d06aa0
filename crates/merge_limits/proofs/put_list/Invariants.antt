-- `put_list` does not wrap. The loop's invariant: inserts and the others are within what a list has of them.
use Rattle.std.proofs.Common.{◌≤◌}
use Rattle.merge_limits.proofs.put_list.Given as goal

abbrev pub invariant-operations : goal.invariant-operations
invariant-operations l = (l.inserted ≤ 2048) × (l.tiled ≤ l.i)
