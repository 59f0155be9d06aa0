-- `write_all` puts the text and the history of a list.
-- The loop keeps the invariants of Texts and of Histories.
use Rattle.std.proofs.Common.{◌≡◌}
use Rattle.std.specs.Iterator.Adapters.{enumerate_source, enumerate_count}
use Rattle.records.proofs.EachLaws.{ReadsOperations}
use Rattle.written_lists.proofs.Histories.{Telling}
use Rattle.written_lists.proofs.Texts.{Writing}
use Rattle.merging.specs.Lent.{lent_in}
use Rattle.written_lists.proofs.write_all.Given as goal

abbrev pub invariant-all : goal.invariant-all
invariant-all l = record {
  reads : ReadsOperations l.operations (enumerate_source l.i-iterator);
  here : enumerate_count l.i-iterator ≡ (enumerate_source l.i-iterator).next;
  text : Writing (lent_in l.lent) l.operations l.initial.out l.out (enumerate_source l.i-iterator).next l.at;
  history : Telling (lent_in l.lent) l.operations l.initial.history l.initial.history_text l.history l.history_text
      (enumerate_source l.i-iterator).next l.told;
}
