-- `each_case` ends: each case goes on.
use Rattle.std.proofs.Common.{◌-◌}
use Rattle.vectors.proofs.each_case.Given as goal

abbrev pub decreases-cases : goal.decreases-cases
decreases-cases g l = l.end - l.at
