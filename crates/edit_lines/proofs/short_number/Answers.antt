use Rattle.std.proofs.Common.{arith}
use Rattle.edit_lines.proofs.Points.{further}
use Rattle.edit_lines.proofs.short_number.Goals as goal

pub digits-preserved : goal.digits-preserved
digits-preserved c = rw c.hex_value-digit.ensures (further c.digits.invariant c.digits-test.true (omega (arith, c.hex_value-digit.ensures)) (λ z. omega arith) c.if-n-gt69631.false)
