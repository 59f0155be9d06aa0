-- `read` puts the code points of bytes into the room, or refuses 10, then 7, and writes nothing.
-- Each way by what the measure said and the room's length.
use Rattle.utf8.proofs.Ways.{counted, read_short, read_good}
use Rattle.utf8.proofs.read.Goals as goal

pub returns-then-out-count : goal.returns-then-out-count
returns-then-out-count c = read_short _ (counted _ c.in_ok-count.ensures) _ c.if-out-count.true

pub returns : goal.returns
returns c = read_good _ (counted _ c.in_ok-count.ensures) _ _ c.if-out-count.false c.fill.ensures
