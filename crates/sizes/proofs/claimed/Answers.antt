-- `claimed` sums the tokens that a list's inserts claim, up to the cap.
use Rattle.records.proofs.EachLaws.{listed_operations}
use Rattle.sizes.specs.Texts.{claimed_by}
use Rattle.std.proofs.Common.{rules, ◌∙◌}
use Rattle.sizes.proofs.claimed.Goals as goal

pub returns : goal.returns
returns c = c.total_by.ensures claimed_by (λ o y h. search rules) ∙ rw (listed_operations c.args.operations.now)
