use Rattle.edit_read.proofs.Judging.{believes_yes, believes_no}
use Rattle.edit_read.proofs.believed.Goals as goal

pub returns-in-Ok : goal.returns-in-Ok
returns-in-Ok c = believes_yes _ (rw c.in-Ok.is at c.judge.ensures)

pub returns-in-Err : goal.returns-in-Err
returns-in-Err c = believes_no _ (rw c.in-Err.is at c.judge.ensures)
