use Rattle.std.proofs.Common.{sym}
use Rattle.edit_format.specs.Written.{add_key}
use Rattle.edit_lines.proofs.Begins.{room_after}
use Rattle.edit_read.proofs.ItemLines.{add_off, add_fails, add_fits}
use Rattle.edit_read.proofs.add_line.Goals as goal

pub returns-then-not-has_key : goal.returns-then-not-has_key
returns-then-not-has_key c = add_off _ _ (sym c.if-not-has_key.ensures)

pub points_at-requires : goal.points_at-requires
points_at-requires c = (room_after add_key _ _ c.requires.next (sym c.if-not-has_key.ensures), c.requires.text)

pub returns-in_err-count : goal.returns-in_err-count
returns-in_err-count c = rw c.from_residual.ensures (add_fails _ _ (sym c.if-not-has_key.ensures) c.in_err-count.ensures)

pub returns : goal.returns
returns c = add_fits _ _ c.requires (sym c.if-not-has_key.ensures) c.in_ok-count.ensures
