use Rattle.std.proofs.Common.{arith}
use borrow.Author.Tests.{ltb-true}
use Rattle.numbers.proofs.Scalar.{no_scalars, one_more, all_passed, below_both}
use Rattle.numbers.proofs.Points.{point_low}
use Rattle.numbers.proofs.all_low.Goals as goal

pub block-init : goal.block-init
block-init c = λ _. no_scalars

pub block-preserved : goal.block-preserved
block-preserved c = λ h. let o = below_both _ _ _ h in one_more _ _ (omega arith) (point_low _ o.1) (c.block.invariant o.0)

pub returns : goal.returns
returns c = λ e. all_passed _ c.block.x-index (omega arith) (c.block.invariant (ltb-true _ _ e))
