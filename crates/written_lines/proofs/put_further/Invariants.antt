-- `put_further` puts code points, a space before each.
-- What is put, and what the points left will put, is all of it (Emitting).
use Rattle.written_lines.proofs.Emitting.{Pointing}
use Rattle.written_lines.proofs.put_further.Given as goal

abbrev pub invariant-points : goal.invariant-points
invariant-points l = Pointing l.text l.initial.out l.at l.out l.next l.c-index
