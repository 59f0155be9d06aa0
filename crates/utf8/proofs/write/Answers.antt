-- `write` puts the bytes of code points into the room, or refuses 4, then 7, and writes nothing.
-- Each way by what the measure said and the room's length.
use Rattle.utf8.proofs.Ways.{measured, write_short, write_good}
use Rattle.utf8.proofs.write.Goals as goal

pub returns-then-out-width : goal.returns-then-out-width
returns-then-out-width c = write_short _ (measured _ c.in_ok-width.ensures) _ c.if-out-width.true

pub returns : goal.returns
returns c = write_good _ (measured _ c.in_ok-width.ensures) _ _ c.if-out-width.false c.spill.ensures
