-- `pass_list` sums up a list, and gives no pass where it may have found something to refuse.
-- The loop keeps `Passing`, whose ways are in the file of that name.
use Rattle.checks.proofs.Passing.{Passing}
use Rattle.records.proofs.EachLaws.{ReadsOperations}
use Rattle.checks.proofs.pass_list.Given as goal

abbrev pub invariant-pass : goal.invariant-pass
invariant-pass l = record {
  reads : ReadsOperations l.operations l.o-iterator;
  passes : Passing l.limits l.n l.m l.tokens.spans.now l.tokens.keys.now l.operations l.o-iterator.next l.at l.claimed l.inserted l.retained;
}
