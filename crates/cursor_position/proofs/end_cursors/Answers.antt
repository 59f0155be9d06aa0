-- Shown: `end_cursors` puts `ended` into the room and leaves none.
-- How: what `put_on` leaves, where every index is the end.
use Rattle.cursor_position.specs.Moves.{left_of}
use Rattle.cursor_position.proofs.Going.{went_as, ended_is, none_stays}
use Rattle.std.proofs.Common.{Some, rules}
use Rattle.cursor_position.proofs.end_cursors.Goals as goal

pub returns : goal.returns
returns c = let cs = left_of c.args.cursors.now c.args.p in
    went_as (c.put_on.ensures (λ _. Some c.args.end) (search rules)) (ended_is c.args.end cs) (none_stays c.args.end cs)
