-- `elongate` answers and leaves its rooms as the definition says.
-- Each way is a law of Answering.
use Rattle.elongate.proofs.Answering.{ready, accepts, no_room, writes, refuses}
use Rattle.elongate.specs.Verdicts.{raw_verdict}
use Rattle.verdict.proofs.Chains.{stops, goes_on, too_big, fits}
use Rattle.std.proofs.Common.{sym, ◌∙◌}
use Rattle.std.proofs.lemmas.Result.{err_from_is_err_and}
use Rattle.elongate.proofs.elongate.Goals as goal

pub returns-then-not-raw_fits : goal.returns-then-not-raw_fits
unfolding raw_verdict
returns-then-not-raw_fits c = refuses _ _ _ _ _ _ _ _ _ _ _ (sym (too_big _ _ (sym c.raw_fits.ensures ∙ c.if-not-raw_fits.true)))

pub returns-in_err-check_text : goal.returns-in_err-check_text
unfolding raw_verdict
returns-in_err-check_text c =
    let p = err_from_is_err_and c.from_residual.result c.from_residual.ensures.1 in
    rw (p.1, p.2)
    (refuses _ _ _ _ _ _ _ _ _ _ _
    (sym (fits _ _ _ (sym c.raw_fits.ensures ∙ c.if-not-raw_fits.false) (stops _ _ _ (sym c.check_text.ensures ∙ c.in_err-check_text.was)))))

pub returns-in_err-check_raws : goal.returns-in_err-check_raws
unfolding raw_verdict
returns-in_err-check_raws c =
    let p = err_from_is_err_and c.from_residual-in_err-check_raws.result c.from_residual-in_err-check_raws.ensures.1 in
    rw (p.1, p.2)
    (refuses _ _ _ _ _ _ _ _ _ _ _
    (sym (fits _ _ _ (sym c.raw_fits.ensures ∙ c.if-not-raw_fits.false)
    (goes_on _ _ _ (sym c.check_text.ensures ∙ c.in_ok-check_text.was) (stops _ _ _ (sym c.check_raws.ensures ∙ c.in_err-check_raws.was))))))

pub returns-then-not-rooms_fit : goal.returns-then-not-rooms_fit
returns-then-not-rooms_fit c =
    refuses _ _ _ _ _ _ _ _ _ _ _
    (no_room _ _ _ _ _ _ _ _ _ (sym c.raw_fits.ensures ∙ c.if-not-raw_fits.false) (sym c.check_raws.ensures ∙ c.in_ok-check_raws.was) c.claimed-tokens.result
    c.claimed-tokens.ensures (rw c.count.ensures at (sym c.rooms_fit.ensures ∙ c.if-not-rooms_fit.true)) (sym c.check_text.ensures ∙ c.in_ok-check_text.was))

pub write-requires : goal.write-requires
write-requires c =
    ready _ _ _ _ _ _ _ _ _ (sym c.raw_fits.ensures ∙ c.if-not-raw_fits.false) (sym c.check_raws.ensures ∙ c.in_ok-check_raws.was) c.claimed-tokens.result
    c.claimed-tokens.ensures (rw c.count.ensures at (sym c.rooms_fit.ensures ∙ c.if-not-rooms_fit.false))

pub returns : goal.returns
returns c =
    writes _ _ _ _ _ _ _ _ _ (sym c.raw_fits.ensures ∙ c.if-not-raw_fits.false) (sym c.check_raws.ensures ∙ c.in_ok-check_raws.was) _ _ _ _ _
    (accepts _ _ _ _ _ _ _ _ _ (sym c.raw_fits.ensures ∙ c.if-not-raw_fits.false) (sym c.check_raws.ensures ∙ c.in_ok-check_raws.was) c.claimed-tokens.result
    c.claimed-tokens.ensures (rw c.count.ensures at (sym c.rooms_fit.ensures ∙ c.if-not-rooms_fit.false)) (sym c.check_text.ensures ∙ c.in_ok-check_text.was))
    c.write.ensures
