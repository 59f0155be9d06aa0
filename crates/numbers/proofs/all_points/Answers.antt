use Rattle.std.proofs.Common.{arith}
use Rattle.numbers.proofs.Scalar.{no_scalars, one_more, all_passed, below_both}
use Rattle.numbers.proofs.Points.{point_but}
use Rattle.room.proofs.Bools.{and_left, and_right}
use borrow.Author.Tests.{leb-true, eqb-false, not-true}
use Rattle.numbers.proofs.all_points.Goals as goal

pub block-init : goal.block-init
block-init c = λ _ _. no_scalars

pub block-preserved : goal.block-preserved
block-preserved c = λ t h.
    let b = below_both _ _ _ h in
    one_more _ _ (omega arith) (point_but _ (eqb-false _ _ (not-true _ (and_right c.block.points _ t))) (omega (arith, b.1))) (c.block.invariant (and_left c.block.points _ t) b.0)

pub returns : goal.returns
returns c = λ e.
    let b = leb-true c.block.bits 0x10ffff (and_right c.block.points _ e) in
    all_passed _ c.block.x-index (omega arith) (c.block.invariant (and_left c.block.points _ e) (omega (arith, b)))
