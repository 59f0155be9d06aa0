-- Shown: `move_cursors` puts `moved` into the room and leaves `behind`.
-- How: what `put_on` leaves, where an index up to the operation's end moves.
use Rattle.cursor_position.specs.Moves.{left_of}
use Rattle.cursor_position.proofs.Going.{went_as, moving, moved_is, behind_is}
use Rattle.std.proofs.Common.{rules}
use Rattle.cursor_position.proofs.move_cursors.Goals as goal

pub returns : goal.returns
returns c = let cs = left_of c.args.cursors.now c.args.p in
    went_as (c.put_on.ensures (moving c.args.t) (search rules)) (moved_is c.args.t cs) (behind_is c.args.t cs)
