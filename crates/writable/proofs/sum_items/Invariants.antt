-- `sum_items` answers `tally_of`.
-- Loop `items` keeps `Tallying`, and each way through it is a law of proofs/Checking.antt.
use Rattle.std.proofs.Common.{length}
use Rattle.diff.proofs.Loops.{Over}
use Rattle.writable.proofs.Checking.{Tallying}
use Rattle.writable.proofs.sum_items.Given as goal

abbrev pub invariant-items : goal.invariant-items
invariant-items l = Over l.items.numbers.now (length l.items.text.now) (Tallying l.items.numbers.now l.items.text.now l.sums) l.item-iterator
