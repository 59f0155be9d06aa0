-- `put_items` puts the lines of all items.
-- Loop `items` keeps `Emitting`, and each way through it is a law of proofs/Emitting.antt.
use Rattle.std.proofs.Common.{length}
use Rattle.diff.proofs.Loops.{Over}
use Rattle.edit_write.proofs.Emitting.{Emitting}
use Rattle.edit_write.proofs.put_items.Given as goal

abbrev pub invariant-items : goal.invariant-items
invariant-items l = Over l.items.numbers.now (length l.items.text.now) (Emitting l.items.numbers.now l.items.text.now l.initial.out l.at l.out l.next) l.item-iterator
