use Rattle.std.proofs.Common.{refl}
use Rattle.std.proofs.lemmas.Result.{err_from_is_err_and}
use borrow.Author.Tests.{eqb-true, eqb-false, leb-true, leb-false}
use Rattle.edit_format.specs.Reading.{form, original, result, key_of, several}
use Rattle.edit_read.proofs.HeadLines.{ends_in, no_form, other_form, form_read, no_original, long_original, original_read, no_result, result_read, no_items, many_items, items_read}
use Rattle.edit_read.proofs.read_header.Goals as goal

pub returns-in_err-form : goal.returns-in_err-form
returns-in_err-form c = let p = err_from_is_err_and c.from_residual.result c.from_residual.ensures.1 in rw (p.1, p.2) (no_form _ c.in_err-form.ensures.0 c.in_err-form.ensures.1)

pub returns-in_err-check : goal.returns-in_err-check
returns-in_err-check c = let p = err_from_is_err_and c.from_residual-in_err-check.result c.from_residual-in_err-check.ensures.1 in rw (p.1, p.2) (other_form _ c.in_ok-form.ensures (eqb-false _ _ c.in_err-check.ensures.0) c.in_err-check.ensures.1)

pub number_in-requires-2 : goal.number_in-requires-2
unfolding key_of several
number_in-requires-2 c = ends_in _ form _ refl c.in_ok-form.ensures

pub returns-in_err-original : goal.returns-in_err-original
returns-in_err-original c =
    let one = form_read _ c.in_ok-form.ensures (eqb-true _ _ c.in_ok-check.ensures) in
    let p = err_from_is_err_and c.from_residual-in_err-original.result c.from_residual-in_err-original.ensures.1 in rw (p.1, p.2) (no_original _ _ one c.in_err-original.ensures.0 c.in_err-original.ensures.1)

pub returns-in_err-check-2 : goal.returns-in_err-check-2
returns-in_err-check-2 c =
    let one = form_read _ c.in_ok-form.ensures (eqb-true _ _ c.in_ok-check.ensures) in
    let p = err_from_is_err_and c.from_residual-in_err-check-2.result c.from_residual-in_err-check-2.ensures.1 in rw (p.1, p.2) (long_original _ _ one c.in_ok-original.ensures (leb-false _ _ c.in_err-check-2.ensures.0) c.in_err-check-2.ensures.1)

pub number_in-requires-3 : goal.number_in-requires-3
unfolding key_of several
number_in-requires-3 c = ends_in _ original _ refl c.in_ok-original.ensures

pub returns-in_err-result : goal.returns-in_err-result
returns-in_err-result c =
    let one = form_read _ c.in_ok-form.ensures (eqb-true _ _ c.in_ok-check.ensures) in
    let two = original_read _ _ one c.in_ok-original.ensures (leb-true _ _ c.in_ok-check-2.ensures) in
    let p = err_from_is_err_and c.from_residual-in_err-result.result c.from_residual-in_err-result.ensures.1 in rw (p.1, p.2) (no_result _ _ _ two c.in_err-result.ensures.0 c.in_err-result.ensures.1)

pub number_in-requires-4 : goal.number_in-requires-4
unfolding key_of several
number_in-requires-4 c = ends_in _ (result 0) _ refl c.in_ok-result.ensures

pub returns-in_err-items : goal.returns-in_err-items
returns-in_err-items c =
    let one = form_read _ c.in_ok-form.ensures (eqb-true _ _ c.in_ok-check.ensures) in
    let two = original_read _ _ one c.in_ok-original.ensures (leb-true _ _ c.in_ok-check-2.ensures) in
    let three = result_read _ _ _ two c.in_ok-result.ensures in
    let p = err_from_is_err_and c.from_residual-in_err-items.result c.from_residual-in_err-items.ensures.1 in rw (p.1, p.2) (no_items _ _ three.0 _ three.2 c.in_err-items.ensures.0 c.in_err-items.ensures.1)

pub returns-in_err-check-3 : goal.returns-in_err-check-3
returns-in_err-check-3 c =
    let one = form_read _ c.in_ok-form.ensures (eqb-true _ _ c.in_ok-check.ensures) in
    let two = original_read _ _ one c.in_ok-original.ensures (leb-true _ _ c.in_ok-check-2.ensures) in
    let three = result_read _ _ _ two c.in_ok-result.ensures in
    let p = err_from_is_err_and c.from_residual-in_err-check-3.result c.from_residual-in_err-check-3.ensures.1 in rw (p.1, p.2) (many_items _ _ three.0 _ three.2 c.in_ok-items.ensures (leb-false _ _ c.in_err-check-3.ensures.0) c.in_err-check-3.ensures.1)

pub returns : goal.returns
returns c =
    let one = form_read _ c.in_ok-form.ensures (eqb-true _ _ c.in_ok-check.ensures) in
    let two = original_read _ _ one c.in_ok-original.ensures (leb-true _ _ c.in_ok-check-2.ensures) in
    let three = result_read _ _ _ two c.in_ok-result.ensures in
    items_read _ _ three.0 _ three.2 three.1 c.in_ok-items.ensures (leb-true _ _ c.in_ok-check-3.ensures)
