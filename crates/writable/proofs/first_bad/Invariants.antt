-- `first_bad` answers the first item that cannot be written.
-- Loop `items` keeps `Shaping`, and each way through it is a law of proofs/Checking.antt.
use Rattle.std.proofs.Common.{length}
use Rattle.diff.proofs.Loops.{Counted}
use Rattle.writable.proofs.Checking.{Shaping}
use Rattle.writable.proofs.first_bad.Given as goal

abbrev pub invariant-items : goal.invariant-items
invariant-items l = Counted l.items.numbers.now (length l.items.text.now) (Shaping l.items.numbers.now l.items.text.now l.joined) l.i-iterator
