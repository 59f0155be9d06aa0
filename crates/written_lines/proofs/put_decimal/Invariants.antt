-- `put_decimal` puts a number's digits, the last first.
-- The loop keeps `Digiting`, whose ways are in Numbers.
use Rattle.written_lines.proofs.Numbers.{Digiting}
use Rattle.written_lines.proofs.put_decimal.Given as goal

abbrev pub invariant-digits : goal.invariant-digits
invariant-digits l = Digiting l.initial.out l.at l.n l.out l.left l.place

abbrev pub decreases-digits : goal.decreases-digits
decreases-digits l = l.left
