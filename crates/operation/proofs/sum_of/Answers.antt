-- Shown: `sum_of` answers the sum of lengths.
-- How: what its chain gives is the kit's sum.
use Rattle.std.specs.Prelude.{sum as total}
use Rattle.operation.proofs.Sums.{sum_is}
use mathlib.Core.Path.{◌≡◌, sym, ◌∙◌}
use Rattle.std.proofs.Common.{rules}
use Rattle.operation.proofs.sum_of.Goals as goal

pub returns : goal.returns
returns c = let e : c.sum.result ≡ total c.args.lengths.now = search rules in e ∙ sym (sum_is c.args.lengths.now)
