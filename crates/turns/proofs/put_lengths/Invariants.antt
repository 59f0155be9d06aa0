-- Shown: `put_lengths` puts `lengths_of` at its place.
-- How: the copy of a run, as in crate room; the value of each turn is the run's.
use Rattle.std.proofs.Common.{◌≡◌, ◌+◌}
use Rattle.std.specs.Iterator.Adapters.{enumerate_source, enumerate_count}
use Rattle.room.proofs.Copying.{Copying}
use Rattle.operation.specs.Views.{of_spans}
use Rattle.operation.proofs.Sums.{ReadsLengths}
use Rattle.merging.specs.Lent.{lengths_of}
use Rattle.turns.proofs.put_lengths.Given as goal

abbrev pub invariant-lengths : goal.invariant-lengths
invariant-lengths l = record {
  reads : ReadsLengths l.spans (l.first + l.count) (enumerate_source l.i-iterator);
  here : l.first + enumerate_count l.i-iterator ≡ (enumerate_source l.i-iterator).next;
  copies : Copying (lengths_of (of_spans l.spans) l.first l.count) l.initial.work l.at l.work (enumerate_count l.i-iterator);
}
