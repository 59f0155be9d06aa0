use Rattle.std.proofs.Common.{[], ◌∷◌, get_or, take, arith, length-take}
use Rattle.utf8_points.proofs.Counting.{none, at_most, one_more}
use Rattle.utf8_points.proofs.starts_block.Goals as goal

pub block-init : goal.block-init
block-init c = none

pub overflow_add-n : goal.overflow_add-n
overflow_add-n c = omega (
  arith,
  c.block.invariant,
  at_most (take c.block.b-index c.args.src.now),
  length-take c.block.b-index c.args.src.now,
  at_most (get_or c.args.src.now c.block.b-index 0 ∷ []),
)

pub block-preserved : goal.block-preserved
block-preserved c = one_more c.args.src.now c.block.b-index _ _ (omega arith) c.block.invariant c.start_of-n.ensures
