-- Where `look` answers something, neither sizes nor shapes refuse, and its sums and length are those of the items.
-- Loop `look` keeps `Looking`, and each way through it is a law of proofs/Looking.antt.
use Rattle.std.proofs.Common.{length}
use Rattle.diff.proofs.Loops.{Over}
use Rattle.writable.proofs.Looking.{Looking}
use Rattle.writable.proofs.look.Given as goal

abbrev pub invariant-look : goal.invariant-look
invariant-look l = Over l.items.numbers.now (length l.items.text.now) (Looking l.items.numbers.now l.items.text.now l.sums l.lines l.joined) l.item-iterator
