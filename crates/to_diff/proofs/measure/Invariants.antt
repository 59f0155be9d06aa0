-- Shown: `measure` counts the items and the text of a list's diff.
-- How: the loop keeps `Counting`; each way through a turn is a law of proofs/Measuring.antt.
use Rattle.records.proofs.EachLaws.{ReadsOperations}
use Rattle.to_diff.proofs.Measuring.{Counting}
use Rattle.to_diff.proofs.measure.Given as goal

abbrev pub invariant-operations : goal.invariant-operations
invariant-operations l = record {
  reads : ReadsOperations l.operations l.operation-iterator;
  counts : Counting l.lent.text.now l.lent.tokens.spans.now l.lent.tokens.keys.now l.operations l.operation-iterator.next l.found l.size l.joins;
}
