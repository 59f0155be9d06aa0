-- `judge_sums` gives the verdict on one list, with the lengths of the texts of one that is accepted: they are below the cap of their sums.
use Rattle.checks.proofs.Accepted.{inserted_known, text_known}
use Rattle.checks.proofs.Telling.{lengths_told}
use mathlib.Core.Path.{sym, ◌∙◌}
use Rattle.checks.proofs.judge_sums.Goals as goal

pub returns : goal.returns
returns c =
    let t = c.args.lent in
    let v = sym c.judge_list.ensures ∙ c.in_ok-judge_list.was in
    lengths_told _ _ _ _ _ v
    (inserted_known c.args.limits t.original.now t.text.now t.tokens.spans.now t.tokens.keys.now _ _ _ c.requires.0 v c.inserted.ensures)
    (text_known c.args.limits t.original.now t.text.now t.tokens.spans.now t.tokens.keys.now _ _ _ c.requires.0 v c.text_length.ensures)
