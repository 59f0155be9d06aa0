-- `check_files` gives the first refusal before the merge's own.
-- Each way fixes the tests before it.
use borrow.Author.Tests.{le-leb, lt-leb}
use mathlib.Core.Path.{sym, ◌∙◌}
use native.Mathlib.Omega.{arith}
use lib.ListN.{length}
use Rattle.std.proofs.lemmas.Result.{err_from_is_err_and}
use Rattle.merge_files.specs.Steps.{first_of}
use Rattle.merge_files.proofs.Checking.{utf8_yes, utf8_no, first_no, second_no, third_no, reached, left_bad, right_bad, both_good}
use Rattle.merge_files.proofs.check_files.Goals as goal

pub returns-then-original-gt2048 : goal.returns-then-original-gt2048
unfolding first_of
returns-then-original-gt2048 c = rw (lt-leb (length c.args.original.now) 2048 (omega (arith, c.if-original-gt2048.true)))

pub returns-then-left-gt2048 : goal.returns-then-left-gt2048
unfolding first_of
returns-then-left-gt2048 c = rw (le-leb (length c.args.original.now) 2048 (omega (arith, c.if-original-gt2048.false)), lt-leb (length c.args.left.now) 2048 (omega (arith, c.if-left-gt2048.true)))

pub returns-then-right-gt2048 : goal.returns-then-right-gt2048
unfolding first_of
returns-then-right-gt2048 c = rw (le-leb (length c.args.original.now) 2048 (omega (arith, c.if-original-gt2048.false)), le-leb (length c.args.left.now) 2048 (omega (arith, c.if-left-gt2048.false)), lt-leb (length c.args.right.now) 2048 (omega (arith, c.if-right-gt2048.true)))

pub returns-in_err-read_length : goal.returns-in_err-read_length
returns-in_err-read_length c =
    let a = c.args in
    let n = utf8_no a.original.now _ (sym c.in_err-read_length.was ∙ c.read_length.ensures) in
    let p = err_from_is_err_and c.from_residual.result c.from_residual.ensures.1 in
    rw (p.1, p.2, n.1)
    (first_no a.original.now a.left.now a.right.now (omega (arith, c.if-original-gt2048.false)) (omega (arith, c.if-left-gt2048.false)) (omega (arith, c.if-right-gt2048.false)) n.0)

pub returns-in_err-read_length-2 : goal.returns-in_err-read_length-2
returns-in_err-read_length-2 c =
    let a = c.args in
    let o = utf8_yes a.original.now _ (sym c.in_ok-read_length.was ∙ c.read_length.ensures) in
    let n = utf8_no a.left.now _ (sym c.in_err-read_length-2.was ∙ c.read_length-2.ensures) in
    let p = err_from_is_err_and c.from_residual-in_err-read_length-2.result c.from_residual-in_err-read_length-2.ensures.1 in
    rw (p.1, p.2, n.1)
    (second_no a.original.now a.left.now a.right.now (omega (arith, c.if-original-gt2048.false)) (omega (arith, c.if-left-gt2048.false)) (omega (arith, c.if-right-gt2048.false)) o n.0)

pub returns-in_err-read_length-3 : goal.returns-in_err-read_length-3
returns-in_err-read_length-3 c =
    let a = c.args in
    let o = utf8_yes a.original.now _ (sym c.in_ok-read_length.was ∙ c.read_length.ensures) in
    let l = utf8_yes a.left.now _ (sym c.in_ok-read_length-2.was ∙ c.read_length-2.ensures) in
    let n = utf8_no a.right.now _ (sym c.in_err-read_length-3.was ∙ c.read_length-3.ensures) in
    let p = err_from_is_err_and c.from_residual-in_err-read_length-3.result c.from_residual-in_err-read_length-3.ensures.1 in
    rw (p.1, p.2, n.1)
    (third_no a.original.now a.left.now a.right.now (omega (arith, c.if-original-gt2048.false)) (omega (arith, c.if-left-gt2048.false)) (omega (arith, c.if-right-gt2048.false)) o l n.0)

pub returns-in_err-of_left : goal.returns-in_err-of_left
returns-in_err-of_left c =
    let a = c.args in
    let o = utf8_yes a.original.now _ (sym c.in_ok-read_length.was ∙ c.read_length.ensures) in
    let l = utf8_yes a.left.now _ (sym c.in_ok-read_length-2.was ∙ c.read_length-2.ensures) in
    let r = utf8_yes a.right.now _ (sym c.in_ok-read_length-3.was ∙ c.read_length-3.ensures) in
    let e =
    reached a.original.now a.left.now a.right.now (omega (arith, c.if-original-gt2048.false)) (omega (arith, c.if-left-gt2048.false)) (omega (arith, c.if-right-gt2048.false)) o l r
    in
    let p = err_from_is_err_and c.from_residual-in_err-of_left.result c.from_residual-in_err-of_left.ensures.1 in
    rw (p.1, p.2) (sym (e ∙ left_bad _ (rw c.in_err-of_left.was at c.judge.ensures)))

pub returns-in_err-of_right : goal.returns-in_err-of_right
returns-in_err-of_right c =
    let a = c.args in
    let o = utf8_yes a.original.now _ (sym c.in_ok-read_length.was ∙ c.read_length.ensures) in
    let l = utf8_yes a.left.now _ (sym c.in_ok-read_length-2.was ∙ c.read_length-2.ensures) in
    let r = utf8_yes a.right.now _ (sym c.in_ok-read_length-3.was ∙ c.read_length-3.ensures) in
    let e =
    reached a.original.now a.left.now a.right.now (omega (arith, c.if-original-gt2048.false)) (omega (arith, c.if-left-gt2048.false)) (omega (arith, c.if-right-gt2048.false)) o l r
    in
    let p = err_from_is_err_and c.from_residual-in_err-of_right.result c.from_residual-in_err-of_right.ensures.1 in
    rw (p.1, p.2) (sym (e ∙ right_bad (rw c.in_ok-of_left.was at c.judge.ensures) (rw c.in_err-of_right.was at c.judge-2.ensures)))

pub returns : goal.returns
returns c =
    let a = c.args in
    let o = utf8_yes a.original.now _ (sym c.in_ok-read_length.was ∙ c.read_length.ensures) in
    let l = utf8_yes a.left.now _ (sym c.in_ok-read_length-2.was ∙ c.read_length-2.ensures) in
    let r = utf8_yes a.right.now _ (sym c.in_ok-read_length-3.was ∙ c.read_length-3.ensures) in
    let e =
    reached a.original.now a.left.now a.right.now (omega (arith, c.if-original-gt2048.false)) (omega (arith, c.if-left-gt2048.false)) (omega (arith, c.if-right-gt2048.false)) o l r
    in
    sym (e ∙ both_good (rw c.in_ok-of_left.was at c.judge.ensures) (rw c.in_ok-of_right.was at c.judge-2.ensures))
