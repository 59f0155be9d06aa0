use Rattle.std.proofs.lemmas.Result.{err_from_is_err_and}
use borrow.Author.Tests.{eqb-true, eqb-false, leb-true, leb-false}
use Rattle.edit_read.proofs.Judging.{no_end, other_end, more_bytes, false_original, false_result, accepts}
use Rattle.edit_read.proofs.judge_end.Goals as goal

pub returns-in_err-end : goal.returns-in_err-end
returns-in_err-end c = let p = err_from_is_err_and c.from_residual.result c.from_residual.ensures.1 in rw (p.1, p.2) (no_end c.requires c.in_err-end.ensures.0 c.in_err-end.ensures.1)

pub returns-in_err-check : goal.returns-in_err-check
returns-in_err-check c = let p = err_from_is_err_and c.from_residual-in_err-check.result c.from_residual-in_err-check.ensures.1 in rw (p.1, p.2) (other_end c.requires c.in_ok-end.ensures (eqb-false _ _ c.in_err-check.ensures.0) c.in_err-check.ensures.1)

pub returns-in_err-check-2 : goal.returns-in_err-check-2
returns-in_err-check-2 c = let p = err_from_is_err_and c.from_residual-in_err-check-2.result c.from_residual-in_err-check-2.ensures.1 in rw (p.1, p.2) (more_bytes c.requires c.in_ok-end.ensures (eqb-true _ _ c.in_ok-check.ensures) (leb-false _ _ c.in_err-check-2.ensures.0) c.in_err-check-2.ensures.1)

pub returns-in_err-check-3 : goal.returns-in_err-check-3
returns-in_err-check-3 c = let p = err_from_is_err_and c.from_residual-in_err-check-3.result c.from_residual-in_err-check-3.ensures.1 in rw (p.1, p.2) (false_original c.requires c.in_ok-end.ensures (eqb-true _ _ c.in_ok-check.ensures) (leb-true _ _ c.in_ok-check-2.ensures) (eqb-false _ _ c.in_err-check-3.ensures.0) c.in_err-check-3.ensures.1)

pub returns-in_err-check-4 : goal.returns-in_err-check-4
returns-in_err-check-4 c = let p = err_from_is_err_and c.from_residual-in_err-check-4.result c.from_residual-in_err-check-4.ensures.1 in rw (p.1, p.2) (false_result c.requires c.in_ok-end.ensures (eqb-true _ _ c.in_ok-check.ensures) (leb-true _ _ c.in_ok-check-2.ensures) (eqb-true _ _ c.in_ok-check-3.ensures) (eqb-false _ _ c.in_err-check-4.ensures.0) c.in_err-check-4.ensures.1)

pub returns : goal.returns
returns c = accepts c.requires c.in_ok-end.ensures (eqb-true _ _ c.in_ok-check.ensures) (leb-true _ _ c.in_ok-check-2.ensures) (eqb-true _ _ c.in_ok-check-3.ensures) (eqb-true _ _ c.in_ok-check-4.ensures)
