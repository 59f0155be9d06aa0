-- Shown: `read_at` reads an accepted file into the rooms.
-- How: the answer of `read` is known, since the file is short and the rooms are long.
use Rattle.edit_list.proofs.Making.{read_done, read_never}
use Rattle.edit_list.proofs.read_at.Goals as goal

pub returns-in-Ok : goal.returns-in-Ok
returns-in-Ok c = read_done c.requires c.read.ensures _ c.in-Ok.is

pub returns-in-Err : goal.returns-in-Err
returns-in-Err c = absurd (read_never c.requires c.read.ensures _ c.in-Err.is)
