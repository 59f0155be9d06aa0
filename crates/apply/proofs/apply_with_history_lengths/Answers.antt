-- `apply_with_history_lengths` counts what `apply_with_history` writes.
-- By the verdict, as Answering says.
use Rattle.apply.proofs.Answering.{checks_none, text_small, told_refuse, told_count}
use Rattle.records.proofs.OperationLaws.{length_of_lem}
use Rattle.merging.specs.Lent.{lent_in}
use Rattle.records.specs.Operations.{operations_of}
use mathlib.Core.Path.{sym, ◌∙◌}
use mathlib.Core.List.{[]}
use native.Mathlib.Omega.{arith}
use Rattle.std.proofs.lemmas.Result.{err_from_is_err_and}
use Rattle.apply.proofs.apply_with_history_lengths.Goals as goal

pub overflow_add-result : goal.overflow_add-result
overflow_add-result c = let L = lent_in c.args.lent in
    let os = operations_of c.args.operations.now in
    omega (arith, text_small L os [] c.other_limits.ensures _ (checks_none L os c.other_limits.result c.in_ok-lengths.ensures), c.removed-gone.ensures)

pub returns-in_err-lengths : goal.returns-in_err-lengths
returns-in_err-lengths c = let p = err_from_is_err_and c.from_residual.result c.from_residual.ensures.1 in
    let L = lent_in c.args.lent in
    let os = operations_of c.args.operations.now in
    rw (p.1, p.2) (told_refuse L os c.other_limits.ensures _ (checks_none L os c.other_limits.result c.in_err-lengths.ensures))

pub returns : goal.returns
returns c = let L = lent_in c.args.lent in
    let os = operations_of c.args.operations.now in
    told_count L os c.other_limits.ensures _ (checks_none L os c.other_limits.result c.in_ok-lengths.ensures) _ _ (c.count.ensures ∙ sym (length_of_lem c.args.operations.now)) c.removed-gone.ensures
