-- `run_text` sums the text of a run of tokens, up to the cap.
-- The loop keeps `Adding`, whose ways are in Sums.
use Rattle.std.proofs.Common.{◌+◌}
use Rattle.records.proofs.EachLaws.{ReadsTokens}
use Rattle.sizes.proofs.Sums.{Adding}
use Rattle.sizes.proofs.run_text.Given as goal

abbrev pub invariant-run : goal.invariant-run
invariant-run l = record {
  reads : ReadsTokens l.tokens.spans.now l.tokens.keys.now (l.first + l.count) l.t-iterator;
  adds : Adding l.tokens.spans.now l.tokens.keys.now l.n l.first l.count (l.first + l.count) l.t-iterator.next l.sum;
}
