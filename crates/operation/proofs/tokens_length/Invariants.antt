-- Shown: `tokens_length` answers the sum of the tokens' lengths.
-- How: loop `sum` keeps `Counting`, and each way through it is a law of proofs/Sums.antt.
use Rattle.std.proofs.Common.{◌+◌, ◌≤◌}
use Rattle.operation.proofs.Sums.{ReadsLengths, Counting}
use Rattle.operation.specs.Views.{of_spans}
use Rattle.operation.proofs.tokens_length.Given as goal

abbrev pub invariant-sum : goal.invariant-sum
invariant-sum l = record {
  reads : ReadsLengths l.spans (l.first + l.count) l.length-iterator;
  low : l.first ≤ l.length-iterator.next;
  sums : Counting (of_spans l.spans) l.first l.count l.total l.length-iterator.next;
}
