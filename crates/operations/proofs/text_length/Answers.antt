-- `text_length` is the capped sum of the operations' text: by Sums, for the fold of the steps.
use Rattle.std.proofs.Common.{◌≡◌, ◌∙◌, rules}
use Rattle.operations.specs.Folds.{text_all}
use Rattle.operations.proofs.Sums.{sum_all}
use Rattle.operations.proofs.text_length.Goals as goal

pub returns : goal.returns
returns c =
    let a = c.args in
    let e : c.fold.result ≡ text_all a.n a.tokens.spans.now a.tokens.keys.now a.operations.now 0 = search rules in
    e ∙ sum_all a.n a.tokens.spans.now a.tokens.keys.now a.operations.now
