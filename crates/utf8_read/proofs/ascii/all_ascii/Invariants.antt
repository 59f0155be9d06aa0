-- `all_ascii` finds a run of ASCII.
-- The flag says it of the values so far.
use Rattle.std.proofs.Common.{◌≡◌, ◌<◌, true, take}
use Rattle.std.specs.List.{All}
use Rattle.utf8_read.proofs.ascii.all_ascii.Given as goal

abbrev pub invariant-run : goal.invariant-run
invariant-run g l = l.ascii ≡ true → All (λ x. g.T.Unit.value x < 0x80) (take l.x-index l.run)
