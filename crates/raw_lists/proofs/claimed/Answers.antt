-- `claimed` sums the tokens that a raw list claims, up to the cap.
use Rattle.raw_lists.proofs.Lists.{total_listed}
use Rattle.raw_lists.specs.Checks.{claimed_by}
use Rattle.std.proofs.Common.{rules, ◌∙◌}
use Rattle.raw_lists.proofs.claimed.Goals as goal

pub returns : goal.returns
returns c = c.total_by.ensures claimed_by (λ r y h. search rules) ∙ rw (total_listed claimed_by c.args.raw.now)
