use Rattle.edit_lines.proofs.Points.{judged_further}
use Rattle.edit_lines.proofs.judged_number.Goals as goal

pub digits-preserved : goal.digits-preserved
digits-preserved c = rw c.digit.ensures (judged_further c.requires c.digits.invariant c.digits-test.true c.if-b-lt48.false)
