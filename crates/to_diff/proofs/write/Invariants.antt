-- Shown: `write` writes a list's diff into its rooms.
-- How: the loop keeps `Taking`; each way through a turn is a law of proofs/Writing.antt.
use Rattle.records.proofs.EachLaws.{ReadsOperations}
use Rattle.to_diff.proofs.Writing.{Taking}
use Rattle.to_diff.proofs.write.Given as goal

abbrev pub invariant-operations : goal.invariant-operations
invariant-operations l = record {
  reads : ReadsOperations l.operations l.o-iterator;
  takes : Taking l.lent.text.now l.lent.tokens.spans.now l.lent.tokens.keys.now l.operations l.initial.room l.initial.out l.o-iterator.next l.kept l.place
      l.at l.room l.out;
}
