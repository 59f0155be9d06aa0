-- `used_text` sums the text of all tokens that a raw list uses, up to the cap.
use Rattle.raw_lists.proofs.Lists.{total_listed}
use Rattle.raw_lists.specs.declared.Raw.{Raw}
use Rattle.raw_lists.specs.Checks.{text_by}
use Rattle.std.proofs.Common.{rules, ℕ, ◌∙◌}
use Rattle.raw_lists.proofs.used_text.Goals as goal

pub returns : goal.returns
returns c =
    let t = c.args.lent in
    let f : Raw → ℕ = text_by c.args.n t.tokens.spans.now t.tokens.keys.now t.joins.now in
    c.total_by.ensures f (λ r y h. search rules) ∙ rw (total_listed f c.args.raw.now)
