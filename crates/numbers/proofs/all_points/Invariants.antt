-- `all_points` tells that a block's numbers are code points.
-- While the flag stands and the bits of all together are at most 10FFFF, so is every number passed.
use Rattle.std.proofs.Common.{◌≡◌, ◌<◌, true, take}
use Rattle.numbers.specs.Points.{scalars}
use Rattle.numbers.proofs.all_points.Given as goal

abbrev pub invariant-block : goal.invariant-block
invariant-block l = l.points ≡ true → l.bits < 0x110000 → scalars (take l.x-index l.block) ≡ l.x-index
