-- Shown: `judged_number` meets its contract.
-- How: loop `digits` keeps `Digits`, and each way through it is a law of proofs/Points.antt.
use Rattle.edit_lines.proofs.Points.{Digits}
use Rattle.edit_lines.proofs.judged_number.Given as goal

abbrev pub invariant-digits : goal.invariant-digits
invariant-digits l = Digits l.bytes l.at l.k l.n
