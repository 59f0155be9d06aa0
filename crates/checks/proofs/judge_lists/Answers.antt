-- `judge_lists` gives the verdict on the two lists of a merge. The sizes and the tilings keep the texts below the cap.
use Rattle.shapes.proofs.Accepted.{text_small}
use Rattle.records.specs.Operations.{operations_of}
use Rattle.records.specs.Cursors.{cursors_of}
use Rattle.room.proofs.Bools.{and_left, and_right}
use mathlib.Core.Path.{sym, ◌∙◌}
use Rattle.checks.proofs.judge_lists.Goals as goal

pub check_within-requires : goal.check_within-requires
check_within-requires c =
    let t = c.args.lent in
    text_small c.args.limits t.original.now t.text.now t.tokens.spans.now t.tokens.keys.now (operations_of c.args.left.operations.now) (cursors_of c.args.left.cursors.now)
    c.requires.0 c.requires.1 (and_left _ _ (sym c.lists_fit.ensures ∙ c.if-not-lists_fit.false)) (sym c.check_tiling.ensures ∙ c.in_ok-check_tiling.was)

pub check_within-requires-2 : goal.check_within-requires-2
check_within-requires-2 c =
    let t = c.args.lent in
    text_small c.args.limits t.original.now t.text.now t.tokens.spans.now t.tokens.keys.now (operations_of c.args.right.operations.now) (cursors_of c.args.right.cursors.now)
    c.requires.0 c.requires.1 (and_right _ _ (sym c.lists_fit.ensures ∙ c.if-not-lists_fit.false)) (sym c.check_tiling-2.ensures ∙ c.in_ok-check_tiling-2.was)
