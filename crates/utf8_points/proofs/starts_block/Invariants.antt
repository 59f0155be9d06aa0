-- `starts_block` counts the bytes of a block that are no tails.
-- The count so far is that of the bytes so far.
use Rattle.std.proofs.Common.{◌≡◌, take}
use Rattle.utf8_read.specs.Window.{starts}
use Rattle.utf8_points.proofs.starts_block.Given as goal

abbrev pub invariant-block : goal.invariant-block
invariant-block l = l.n ≡ starts (take l.b-index l.src)
