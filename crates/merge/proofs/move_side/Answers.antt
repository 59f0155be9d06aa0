-- `move_side` moves the cursors of a side.
-- Where none waits, none moves.
use mathlib.Core.Path.{sym, ◌∙◌}
use Rattle.cursor_position.proofs.Waiting.{went_idle}
use Rattle.merge.proofs.move_side.Goals as goal

pub returns : goal.returns
returns c = went_idle c.args.a c.args.t _ _ c.args.p (sym c.requires.2 ∙ c.if-awaited.false)
