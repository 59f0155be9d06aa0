-- The loop's invariant is Paired of Pairs, at the one place of both lists.
use Rattle.std.proofs.Common.{◌≡◌}
use Rattle.std.specs.Iterator.Adapters.{zip_first, zip_second}
use Rattle.records.proofs.EachLaws.{ReadsOperations}
use Rattle.merging.specs.Lent.{lent_in}
use Rattle.order.proofs.Pairs.{Paired}
use Rattle.order.proofs.stream_priority.Given as goal

abbrev pub invariant-pairs : goal.invariant-pairs
invariant-pairs l = record {
  lefts : ReadsOperations l.left (zip_first l.x-iterator);
  rights : ReadsOperations l.right (zip_second l.x-iterator);
  even : (zip_second l.x-iterator).next ≡ (zip_first l.x-iterator).next;
  pairs : Paired (lent_in l.lent) l.left l.right l.at (zip_first l.x-iterator).next;
}
