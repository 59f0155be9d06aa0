-- `misfits` finds a window whose bytes all fit.
-- The flag says it of the bytes so far.
use Rattle.std.proofs.Common.{◌≡◌, ◌+◌, false}
use Rattle.utf8_read.specs.Window.{Local}
use Rattle.utf8_read.proofs.misfits.Given as goal

abbrev pub invariant-window : goal.invariant-window
invariant-window l = l.bad ≡ false → Local l.bytes (l.j + 3) (l.j + l.k + 3)
