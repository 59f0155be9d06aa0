use Rattle.edit_lines.proofs.Lines.{starts, goes_on}
use Rattle.edit_lines.proofs.judged_line.Goals as goal

pub bounds-bytes-at : goal.bounds-bytes-at
bounds-bytes-at c = starts c.requires

pub digits-preserved : goal.digits-preserved
digits-preserved c = rw c.from.ensures (goes_on c.requires c.digits.invariant c.digits-test.true)
