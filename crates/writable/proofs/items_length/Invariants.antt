-- `items_length` answers the length of all items' lines, held up to the cap.
-- The sum so far and what is left give the whole (proofs/Counting.antt).
use Rattle.std.proofs.Common.{length}
use Rattle.diff.proofs.Loops.{Over}
use Rattle.writable.proofs.Counting.{ItemsCount}
use Rattle.writable.proofs.items_length.Given as goal

abbrev pub invariant-items : goal.invariant-items
invariant-items l = Over l.items.numbers.now (length l.items.text.now) (ItemsCount l.items.numbers.now l.items.text.now l.sum) l.item-iterator
