-- Shown: `judged_line` reads the number of a line that was judged.
-- How: loop `digits` keeps `Reads`, and each way through it is a law of proofs/Lines.antt.
use Prim.Native.Nat.{◌-◌}
use lib.ListN.{length}
use Rattle.edit_lines.proofs.Lines.{Reads}
use Rattle.edit_lines.proofs.judged_line.Given as goal

abbrev pub invariant-digits : goal.invariant-digits
invariant-digits l = Reads l.bytes l.at l.n l.i

abbrev pub decreases-digits : goal.decreases-digits
decreases-digits l = length l.bytes - l.i
