-- `inserted` sums the text that a list inserts, up to the cap.
use Rattle.records.proofs.EachLaws.{listed_operations}
use Rattle.sizes.specs.Texts.{inserted_by}
use Rattle.std.proofs.Common.{rules, ◌∙◌}
use Rattle.sizes.proofs.inserted.Goals as goal

pub returns : goal.returns
returns c =
    let a = c.args in
    c.total_by.ensures (inserted_by a.n a.tokens.spans.now a.tokens.keys.now) (λ o y h. search rules) ∙ rw (listed_operations a.operations.now)
