-- Shown: `to_diff_lengths` answers the counts of a list's diff, or the refusal.
-- How: each way is a law of proofs/Answering.antt.
use Rattle.checks.proofs.Telling.{says_yes}
use Rattle.to_diff.proofs.Answering.{ready, lengths_refused, lengths_counted}
use Rattle.merging.specs.Lent.{lent_in}
use Rattle.records.specs.Operations.{operations_of}
use Rattle.to_diff.specs.Answers.{verdict_on}
use mathlib.Core.Path.{sym}
use Rattle.std.proofs.lemmas.Result.{err_from_is_err_and}
use Rattle.to_diff.proofs.to_diff_lengths.Goals as goal

pub measure-requires : goal.measure-requires
measure-requires c = ready c.args.lent.original.now _ _ _ _
    (says_yes (verdict_on (lent_in c.args.lent) (operations_of c.args.operations.now)) _ _ (sym c.in_ok-check.ensures))

pub returns-in_err-check : goal.returns-in_err-check
returns-in_err-check c =
    let p = err_from_is_err_and c.from_residual.result c.from_residual.ensures.1 in
    rw (p.1, p.2) (lengths_refused _ _ _ _ _ _ c.in_err-check.ensures)

pub returns : goal.returns
returns c = lengths_counted _ _ _ _ _
    (says_yes (verdict_on (lent_in c.args.lent) (operations_of c.args.operations.now)) _ _ (sym c.in_ok-check.ensures))
    c.measure.result c.measure.ensures
