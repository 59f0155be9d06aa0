-- `write_text` puts the text of a list.
-- The loop's invariant and its ways are those of Texts.
use Rattle.records.proofs.EachLaws.{ReadsOperations}
use Rattle.written_lists.proofs.Texts.{Writing}
use Rattle.merging.specs.Lent.{lent_in}
use Rattle.written_lists.proofs.write_text.Given as goal

abbrev pub invariant-text : goal.invariant-text
invariant-text l = record {
  reads : ReadsOperations l.operations l.o-iterator;
  keeps : Writing (lent_in l.lent) l.operations l.initial.out l.out l.o-iterator.next l.at;
}
