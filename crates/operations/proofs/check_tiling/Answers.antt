-- `check_tiling` gives refusal 2 of a list.
-- The law `tiles` of Folds makes of the fold's end the definition's verdict.
use Rattle.std.proofs.Common.{arith, ap, ◌∙◌}
use Rattle.operations.specs.Folds.{tile_end}
use Rattle.operations.proofs.Folds.{tiles}
use Rattle.operations.proofs.check_tiling.Goals as goal

pub returns : goal.returns
returns c = c.tile_end.ensures ∙ (ap tile_end c.tile_all.ensures ∙ tiles c.args.operations.now c.args.n 0 0 (omega arith))
