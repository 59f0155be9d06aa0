-- `judge` gives the first refusal in the paper's order, or what is left and the length. Each way is a law of Judging.
use Rattle.replay.proofs.Judging.{reached_within, used_within, too_long, long_use, point_first, record_broken, number_short, all_fine}
use Rattle.replay.specs.Answers.{edits}
use Rattle.std.proofs.lemmas.Result.{err_from_is_err_and}
use native.Mathlib.Omega.{arith}
use mathlib.Core.Logic.{inl, inr}
use mathlib.Core.Path.{sym, ap, ◌∙◌}
use Rattle.std.specs.Prelude.{Ok}
use Rattle.replay.proofs.judge.Goals.{then-original-gt65535-via-then-original-gt65535, then-original-gt65535-via-else-original-gt65535+then-count-gt8192, then-original-gt65535-via-else-original-gt65535+else-count-gt8192+then-items-gt131070}
use Rattle.replay.proofs.judge.Goals as goal

pub returns-then-original-gt65535 : goal.returns-then-original-gt65535
returns-then-original-gt65535 c = elim c.then-original-gt65535.branch [
  | then-original-gt65535-via-then-original-gt65535 w ↦ too_long _ (inl w.if-original-gt65535.true)
  | then-original-gt65535-via-else-original-gt65535+then-count-gt8192 w ↦ too_long _ (inr (inl (omega (arith, w.if-count-gt8192.true))))
  | then-original-gt65535-via-else-original-gt65535+else-count-gt8192+then-items-gt131070 w ↦ too_long _ (inr (inr w.if-items-gt131070.true))
]

pub returns-in_err-used : goal.returns-in_err-used
returns-in_err-used c = let p = err_from_is_err_and c.from_residual.result c.from_residual.ensures.1 in
    rw (p.1, p.2) (long_use _ (omega arith) (omega arith) (omega arith) (sym c.in_err-used.ensures))

pub returns-in_err-check_texts : goal.returns-in_err-check_texts
returns-in_err-check_texts c =
    let p = err_from_is_err_and c.from_residual-in_err-check_texts.result c.from_residual-in_err-check_texts.ensures.1 in
    rw (p.1, p.2) (point_first _ (omega arith) (omega arith) (omega arith) (sym c.in_ok-used.ensures) (sym c.in_err-check_texts.ensures))

pub overflow_sub-result : goal.overflow_sub-result
overflow_sub-result c = omega (arith, reached_within _ _ (sym c.in_ok-reached.ensures))

pub overflow_add-result : goal.overflow_add-result
overflow_add-result c =
    omega (arith, reached_within _ _ (sym c.in_ok-reached.ensures), used_within _ (sym c.in_ok-used.ensures ∙ ap Ok c.in_ok-used-2.was))

pub returns-in_err-used-2 : goal.returns-in_err-used-2
returns-in_err-used-2 c =
    let p = err_from_is_err_and c.from_residual-in_err-used-2.result c.from_residual-in_err-used-2.ensures.1 in
    rw (p.1, p.2) (record_broken _ (omega arith) (omega arith) (omega arith) (sym c.in_ok-used.ensures)
    (sym c.in_ok-check_texts.ensures) c.in_err-used-2.was)

pub returns-in_err-reached : goal.returns-in_err-reached
unfolding edits
returns-in_err-reached c =
    let p = err_from_is_err_and c.from_residual-in_err-reached.result c.from_residual-in_err-reached.ensures.1 in
    rw (p.1, p.2) (number_short _ (omega arith) (omega arith) (omega arith) (sym c.in_ok-used.ensures)
    (sym c.in_ok-check_texts.ensures) c.in_ok-used-2.was (sym c.in_err-reached.ensures))

pub returns : goal.returns
unfolding edits
returns c = all_fine _ (omega arith) (omega arith) (omega arith) (sym c.in_ok-used.ensures)
    (sym c.in_ok-check_texts.ensures) c.in_ok-used-2.was (sym c.in_ok-reached.ensures)
