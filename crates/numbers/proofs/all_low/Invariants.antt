-- `all_low` tells that a block's numbers are code points.
-- While the bits of all together are below the surrogates, so is every number passed.
use Rattle.std.proofs.Common.{◌≡◌, ◌<◌, take}
use Rattle.numbers.specs.Points.{scalars}
use Rattle.numbers.proofs.all_low.Given as goal

abbrev pub invariant-block : goal.invariant-block
invariant-block l = l.bits < 0xd800 → scalars (take l.x-index l.block) ≡ l.x-index
