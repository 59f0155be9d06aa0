-- `judge_claims` gives the verdict on two lists, with the tokens that each of two accepted ones inserts: they are below the cap of their sums.
use Rattle.checks.proofs.Accepted.{left_claims, right_claims}
use Rattle.checks.proofs.Telling.{claims_told}
use mathlib.Core.Path.{sym, ◌∙◌}
use Rattle.checks.proofs.judge_claims.Goals as goal

pub returns : goal.returns
returns c =
    let t = c.args.lent in
    let v = sym c.judge_lists.ensures ∙ c.in_ok-judge_lists.was in
    claims_told _ _ _ _ _ v
    (left_claims c.args.limits t.original.now t.text.now t.tokens.spans.now t.tokens.keys.now _ _ _ _ v _ c.requires.0 c.claimed.ensures)
    (right_claims c.args.limits t.original.now t.text.now t.tokens.spans.now t.tokens.keys.now _ _ _ _ v _ c.requires.0 c.claimed-2.ensures)
