use Rattle.std.proofs.Common.{Some, sym, ap, ◌∙◌, arith}
use Rattle.edit_read.proofs.Adding.{starts, goes_on, ends, fails, is_full}
use Rattle.edit_read.proofs.points_at.Goals as goal

pub points-init : goal.points-init
points-init c = starts _ _ _ c.requires.0 c.requires.1

pub returns-in_err-next : goal.returns-in_err-next
returns-in_err-next c = rw c.from_residual.ensures (fails _ _ _ _ _ c.points.invariant (omega arith) (sym c.in_err-next.ensures))

pub points-preserved : goal.points-preserved
points-preserved c = goes_on _ _ _ _ _ c.points.invariant (omega arith) (sym c.in_ok-next.ensures ∙ ap Some c.in-More.is)

pub returns-in-Last : goal.returns-in-Last
returns-in-Last c = ends _ _ _ _ _ c.points.invariant (omega arith) (sym c.in_ok-next.ensures ∙ ap Some c.in-Last.is)

pub returns : goal.returns
returns c = is_full _ _ _ _ _ c.points.invariant (omega arith)
