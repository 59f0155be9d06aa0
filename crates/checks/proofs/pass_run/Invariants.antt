-- `pass_run` tells that a run's tokens are good, and their text up to the cap.
-- The loop keeps `Running`, whose ways are in Passing.
use Rattle.std.proofs.Common.{◌+◌}
use Rattle.records.proofs.EachLaws.{ReadsTokens}
use Rattle.checks.proofs.Passing.{Running}
use Rattle.checks.proofs.pass_run.Given as goal

abbrev pub invariant-run : goal.invariant-run
invariant-run l = record {
  reads : ReadsTokens l.tokens.spans.now l.tokens.keys.now (l.first + l.count) l.t-iterator;
  runs : Running l.tokens.spans.now l.tokens.keys.now l.n l.first l.count (l.first + l.count) l.t-iterator.next l.sum;
}
