-- `apply_with_all_lengths` counts what `apply_with_all` writes.
-- By the verdict, as Answering says.
use Rattle.apply.proofs.Answering.{text_small, all_refuse, all_count}
use Rattle.records.proofs.CursorLaws as cursors
use Rattle.records.proofs.OperationLaws.{length_of_lem}
use Rattle.merging.specs.Lent.{lent_in}
use Rattle.records.specs.Cursors.{cursors_of}
use Rattle.records.specs.Operations.{operations_of}
use mathlib.Core.Path.{sym, ◌∙◌}
use native.Mathlib.Omega.{arith}
use Rattle.std.proofs.lemmas.Result.{err_from_is_err_and}
use Rattle.apply.proofs.apply_with_all_lengths.Goals as goal

pub overflow_add-result : goal.overflow_add-result
overflow_add-result c = let L = lent_in c.args.lent in
    let os = operations_of c.args.list.operations.now in
    let cs = cursors_of c.args.list.cursors.now in
    omega (arith, text_small L os cs c.other_limits.ensures _ c.in_ok-lengths.ensures, c.removed-gone.ensures)

pub returns-in_err-lengths : goal.returns-in_err-lengths
returns-in_err-lengths c = let p = err_from_is_err_and c.from_residual.result c.from_residual.ensures.1 in
    let L = lent_in c.args.lent in
    let os = operations_of c.args.list.operations.now in
    let cs = cursors_of c.args.list.cursors.now in
    rw (p.1, p.2) (all_refuse L os cs c.other_limits.ensures _ c.in_err-lengths.ensures)

pub returns : goal.returns
returns c = let L = lent_in c.args.lent in
    let os = operations_of c.args.list.operations.now in
    let cs = cursors_of c.args.list.cursors.now in
    all_count L os cs c.other_limits.ensures _ c.in_ok-lengths.ensures _ _ _ (c.count.ensures ∙ sym (cursors.length_of_lem c.args.list.cursors.now))
    (c.count-2.ensures ∙ sym (length_of_lem c.args.list.operations.now)) c.removed-gone.ensures
