-- `apply_lengths` counts what `apply` writes.
-- By the verdict, as Answering says.
use Rattle.apply.proofs.Answering.{lengths_refuse, lengths_count}
use Rattle.records.proofs.CursorLaws.{length_of_lem}
use Rattle.merging.specs.Lent.{lent_in}
use Rattle.records.specs.Cursors.{cursors_of}
use Rattle.records.specs.Operations.{operations_of}
use mathlib.Core.Path.{sym, ◌∙◌}
use Rattle.std.proofs.lemmas.Result.{err_from_is_err_and}
use Rattle.apply.proofs.apply_lengths.Goals as goal

pub returns-in_err-lengths : goal.returns-in_err-lengths
returns-in_err-lengths c = let p = err_from_is_err_and c.from_residual.result c.from_residual.ensures.1 in
    let L = lent_in c.args.lent in
    let os = operations_of c.args.list.operations.now in
    let cs = cursors_of c.args.list.cursors.now in
    rw (p.1, p.2) (lengths_refuse L os cs c.other_limits.ensures _ c.in_err-lengths.ensures)

pub returns : goal.returns
returns c = let L = lent_in c.args.lent in
    let os = operations_of c.args.list.operations.now in
    let cs = cursors_of c.args.list.cursors.now in
    lengths_count L os cs c.other_limits.ensures _ c.in_ok-lengths.ensures _ (c.count.ensures ∙ sym (length_of_lem c.args.list.cursors.now))
