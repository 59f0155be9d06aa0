use Rattle.edit_list.proofs.Shifting.{begins, goes_on, ends}
use Rattle.edit_list.proofs.shift.Goals as goal

pub shift-init : goal.shift-init
shift-init c = begins _ _ _

pub shift-preserved : goal.shift-preserved
shift-preserved c = goes_on c.shift.invariant c.shift-test.true

pub returns : goal.returns
returns c = ends c.shift.invariant c.shift-test.false
