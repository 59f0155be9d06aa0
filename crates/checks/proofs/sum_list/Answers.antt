-- `sum_list` gives the verdict on one list, with the lengths of the texts of one that is accepted.
-- A good list leaves the texts; any other is judged check by check.
use Rattle.checks.proofs.Passing.{no_size, good_alone}
use Rattle.checks.proofs.Telling.{lengths_told}
use Rattle.verdict.proofs.Chains.{stops}
use Rattle.std.proofs.lemmas.Result.{err_from_is_err_and}
use mathlib.Core.Path.{sym, ◌∙◌}
use Rattle.checks.proofs.sum_list.Goals as goal

pub returns-then-not-lent_fits : goal.returns-then-not-lent_fits
returns-then-not-lent_fits c =
    let t = c.args.lent in
    stops _ _ _ (no_size c.args.limits t.original.now t.text.now t.tokens.spans.now t.tokens.keys.now _ _ (sym c.lent_fits.ensures ∙ c.if-not-lent_fits.true))

pub returns-in_err-check_texts : goal.returns-in_err-check_texts
returns-in_err-check_texts c =
    let t = c.args.lent in
    let g = good_alone c.args.limits t.original.now t.text.now t.tokens.spans.now t.tokens.keys.now _ _ _ (sym c.lent_fits.ensures ∙ c.if-not-lent_fits.false) c.in-Some.ensures in
    let p = err_from_is_err_and c.from_residual.result c.from_residual.ensures.1 in
    rw (p.1, p.2) (stops _ _ _ (sym g ∙ (sym c.check_texts.ensures ∙ c.in_err-check_texts.was)))

pub returns : goal.returns
returns c =
    let t = c.args.lent in
    let g = good_alone c.args.limits t.original.now t.text.now t.tokens.spans.now t.tokens.keys.now _ _ _ (sym c.lent_fits.ensures ∙ c.if-not-lent_fits.false) c.in-Some.ensures in
    lengths_told _ _ _ _ _ (sym g ∙ (sym c.check_texts.ensures ∙ c.in_ok-check_texts.was)) c.in-Some.ensures.inserted c.in-Some.ensures.text
