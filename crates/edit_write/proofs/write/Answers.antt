-- `write` meets its contract. Each way through it is a law of proofs/Finishing.antt.
use Rattle.edit_write.proofs.Finishing.{small, lines_are, lines_most, no_room, fits_in, whole, write_refused}
use Rattle.std.proofs.lemmas.Result.{err_from_is_err_and}
use native.Mathlib.Omega.{arith}
use Rattle.edit_write.proofs.write.Goals as goal

pub returns-in_err-sums : goal.returns-in_err-sums
returns-in_err-sums c = let p = err_from_is_err_and c.from_residual.result c.from_residual.ensures.1 in
    rw (p.1, p.2) (write_refused _ _ (rw (c.new-diff.ensures.0, c.new-diff.ensures.1) at c.in_err-sums.ensures) _)

pub overflow_add-result : goal.overflow_add-result
overflow_add-result c = omega (arith, small _ _ c.in_ok-sums.ensures)

pub file_length-requires : goal.file_length-requires
file_length-requires c = lines_most _ _ c.in_ok-sums.ensures

pub returns-then-out-file_length : goal.returns-then-out-file_length
returns-then-out-file_length c =
    let e = c.in_ok-sums.ensures in
    rw (← c.new-diff.ensures.0, ← c.new-diff.ensures.1) (no_room _ _ e _ (c.file_length.ensures _ (lines_are _ _ e)) c.if-out-file_length.true)

pub put_file-requires : goal.put_file-requires
put_file-requires c =
    let e = c.in_ok-sums.ensures in
    fits_in _ _ e c.args.out.now (c.file_length.ensures _ (lines_are _ _ e)) c.if-out-file_length.false

pub returns : goal.returns
returns c =
    let e = c.in_ok-sums.ensures in
    rw (← c.new-diff.ensures.0, ← c.new-diff.ensures.1)
    (whole _ _ e _ (c.file_length.ensures _ (lines_are _ _ e)) c.if-out-file_length.false c.put_file.ensures)
