-- `inspect` answers `checked_by`. Each way through it is a law of proofs/Checking.antt.
use Rattle.std.proofs.lemmas.Result.{err_from_is_err_and}
use Rattle.writable.proofs.Checking.{too_big, bad_point, bad_shape, all_fine}
use Rattle.writable.proofs.inspect.Goals as goal

pub returns-in_err-sums : goal.returns-in_err-sums
returns-in_err-sums c = let p = err_from_is_err_and c.from_residual.result c.from_residual.ensures.1 in
    rw (p.1, p.2) (too_big _ _ c.requires.0 c.requires.1 c.in_err-sums.ensures)

pub returns-in_err-check_text : goal.returns-in_err-check_text
returns-in_err-check_text c =
    let p = err_from_is_err_and c.from_residual-in_err-check_text.result c.from_residual-in_err-check_text.ensures.1 in
    rw (p.1, p.2) (bad_point _ _ c.requires.0 c.requires.1 c.in_ok-sums.ensures c.in_err-check_text.ensures)

pub returns-in_err-first_bad : goal.returns-in_err-first_bad
returns-in_err-first_bad c =
    let p = err_from_is_err_and c.from_residual-in_err-first_bad.result c.from_residual-in_err-first_bad.ensures.1 in
    rw (p.1, p.2) (bad_shape _ _ c.requires.0 c.requires.1 c.in_ok-sums.ensures c.in_ok-check_text.ensures c.in_err-first_bad.ensures)

pub returns : goal.returns
returns c = all_fine _ _ c.requires.0 c.requires.1 c.in_ok-sums.ensures c.in_ok-check_text.ensures c.in_ok-first_bad.ensures c.items_length.ensures
