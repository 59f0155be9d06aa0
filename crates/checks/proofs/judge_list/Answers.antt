-- `judge_list` gives the verdict on one list. The sizes and the tiling keep the text below the cap.
use Rattle.shapes.proofs.Accepted.{text_small}
use Rattle.records.specs.Operations.{operations_of}
use Rattle.records.specs.Cursors.{cursors_of}
use mathlib.Core.Path.{sym, ◌∙◌}
use Rattle.checks.proofs.judge_list.Goals as goal

pub check_within-requires : goal.check_within-requires
check_within-requires c =
    let t = c.args.lent in
    text_small c.args.limits t.original.now t.text.now t.tokens.spans.now t.tokens.keys.now (operations_of c.args.list.operations.now) (cursors_of c.args.list.cursors.now)
    c.requires.0 c.requires.1 (sym c.list_fits.ensures ∙ c.if-not-list_fits.false) (sym c.check_tiling.ensures ∙ c.in_ok-check_tiling.was)
