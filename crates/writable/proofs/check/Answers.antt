-- `check` answers `checked_by`. Each way through it is a law of proofs/Checking.antt, by what the look shows or by a closer inspection.
use native.Mathlib.Omega.{arith}
use Rattle.std.proofs.lemmas.Result.{err_from_is_err_and}
use Rattle.writable.proofs.Checking.{many_items, long_text, bad_point, all_fine}
use Rattle.writable.proofs.check.Goals as goal

pub returns-then-count-gt8192 : goal.returns-then-count-gt8192
returns-then-count-gt8192 c = many_items _ _ (omega (arith, c.if-count-gt8192.true))

pub returns-then-items-gt131070 : goal.returns-then-items-gt131070
returns-then-items-gt131070 c = long_text _ _ (omega arith) c.if-items-gt131070.true

pub returns-in_err-check_text-in-Some : goal.returns-in_err-check_text-in-Some
returns-in_err-check_text-in-Some c =
    let p = err_from_is_err_and c.from_residual.result c.from_residual.ensures.1 in
    rw (p.1, p.2) (bad_point _ _ (omega arith) c.if-items-gt131070.false c.in-Some.ensures.fits c.in_err-check_text-in-Some.ensures)

pub returns-in_ok-check_text-in-Some : goal.returns-in_ok-check_text-in-Some
returns-in_ok-check_text-in-Some c = let w = c.in-Some.ensures in
    all_fine _ _ (omega arith) c.if-items-gt131070.false w.fits c.in_ok-check_text-in-Some.ensures w.good w.lines
