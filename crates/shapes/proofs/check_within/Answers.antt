-- `check_within` gives refusal 5 of a list's cursors.
-- The text is below the cap, so its capped length is its length.
use Rattle.sizes.specs.Texts.{text_length}
use Rattle.records.specs.Operations.{operations_of}
use native.Mathlib.Omega.{arith}
use mathlib.Core.Path.{◌≡◌, ◌∙◌}
use Rattle.shapes.proofs.check_within.Goals as goal

pub returns : goal.returns
returns c = let e : c.text_length-end.result ≡ text_length c.args.m c.args.tokens.spans.now c.args.tokens.keys.now
    (operations_of c.args.list.operations.now) = omega (arith, c.text_length-end.ensures, c.requires) in c.check_cursors.ensures ∙ rw e
