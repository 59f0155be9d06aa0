-- `sum_of` does not wrap. The loop's invariant: the sum stays below the prime.
use Rattle.std.proofs.Common.{◌≤◌}
use Rattle.merge_limits.proofs.sum_of.Given as goal

abbrev pub invariant-numbers : goal.invariant-numbers
invariant-numbers l = l.sum ≤ 4294967290
