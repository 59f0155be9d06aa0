-- `write_history` puts the history of a list.
-- The loop's invariant and its ways are those of Histories.
use Rattle.std.proofs.Common.{◌≡◌}
use Rattle.std.specs.Iterator.Adapters.{enumerate_source, enumerate_count}
use Rattle.records.proofs.EachLaws.{ReadsOperations}
use Rattle.written_lists.proofs.Histories.{Telling}
use Rattle.merging.specs.Lent.{lent_in}
use Rattle.written_lists.proofs.write_history.Given as goal

abbrev pub invariant-history : goal.invariant-history
invariant-history l = record {
  reads : ReadsOperations l.operations (enumerate_source l.i-iterator);
  here : enumerate_count l.i-iterator ≡ (enumerate_source l.i-iterator).next;
  keeps : Telling (lent_in l.lent) l.operations l.initial.history l.initial.out l.history l.out (enumerate_source l.i-iterator).next l.at;
}
