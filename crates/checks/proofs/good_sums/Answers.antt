-- `good_sums` gives the sums only of a list in which there is nothing to refuse.
use Rattle.checks.proofs.Passing.{good_list}
use Rattle.checks.proofs.good_sums.Goals as goal

pub returns-in-Ok : goal.returns-in-Ok
returns-in-Ok c =
    let t = c.args.lent in
    good_list c.args.limits _ _ t.tokens.spans.now t.tokens.keys.now c.args.list.operations.now c.args.list.cursors.now c.in_ok-sums.sums _ c.requires.0 c.requires.1
    (rw c.count.ensures at c.if-limits-count.false) (rw c.count-2.ensures at c.if-limits-count-2.false) c.in_ok-sums.ensures c.check_cursors.ensures c.in-Ok.is
