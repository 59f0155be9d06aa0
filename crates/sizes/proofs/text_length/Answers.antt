-- `text_length` sums a list's text, up to the cap.
-- What each operation retains and inserts, summed at once, is both sums.
use Rattle.sizes.proofs.Sums.{total_both}
use Rattle.sizes.specs.Texts.{retained_by, inserted_by}
use Rattle.records.proofs.EachLaws.{listed_operations}
use mathlib.Core.Path.{◌∙◌}
use Rattle.std.proofs.Common.{rules}
use Prim.Native.Nat.{◌+◌}
use Rattle.records.specs.Operations.{operations_of}
use Rattle.sizes.proofs.text_length.Goals as goal

pub returns : goal.returns
returns c =
    let a = c.args in
    c.total_by.ensures (λ o. retained_by o + inserted_by a.n a.tokens.spans.now a.tokens.keys.now o) (λ o y h. search rules)
    ∙ rw (listed_operations a.operations.now, total_both retained_by (inserted_by a.n a.tokens.spans.now a.tokens.keys.now) (operations_of a.operations.now))
