-- `removed` sums the text that a list deletes, up to the cap.
use Rattle.records.proofs.EachLaws.{listed_operations}
use Rattle.written_lists.specs.Parts.{removed_by}
use Rattle.std.proofs.Common.{rules, ◌∙◌}
use Rattle.written_lists.proofs.removed.Goals as goal

pub returns : goal.returns
returns c = c.total_by.ensures removed_by (λ o y h. search rules) ∙ rw (listed_operations c.args.operations.now)
