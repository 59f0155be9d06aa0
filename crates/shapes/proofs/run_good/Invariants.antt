-- `run_good` tells whether the tokens of a run are good.
-- The loop keeps `Looking`, whose ways are in Shapely.
use Rattle.std.proofs.Common.{◌+◌}
use Rattle.records.proofs.EachLaws.{ReadsTokens}
use Rattle.shapes.proofs.Shapely.{Looking}
use Rattle.shapes.proofs.run_good.Given as goal

abbrev pub invariant-run : goal.invariant-run
invariant-run l = record {
  reads : ReadsTokens l.tokens.spans.now l.tokens.keys.now (l.first + l.count) l.t-iterator;
  looks : Looking l.tokens.spans.now l.tokens.keys.now l.n l.first l.count (l.first + l.count) l.t-iterator.next;
}
