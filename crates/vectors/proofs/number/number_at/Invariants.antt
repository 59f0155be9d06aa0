-- What is read as the number's length stays within what is left of the bytes.
use Rattle.std.proofs.Common.{◌≤◌, length}
use Rattle.vectors.proofs.number.number_at.Given as goal

abbrev pub invariant-loop-i : goal.invariant-loop-i
invariant-loop-i l = l.length ≤ length l.rest
