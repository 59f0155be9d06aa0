use Rattle.written_lines.proofs.Numbers.{starts, ends_behind, before, goes_on, ends}
use Rattle.std.proofs.Common.{arith}
use Rattle.written_lines.proofs.put_decimal.Goals as goal

pub digits-init : goal.digits-init
digits-init c = starts _ _ _ (omega (arith, c.width.ensures))

pub digits-preserved : goal.digits-preserved
digits-preserved c = rw c.decimal_byte.ensures (goes_on c.digits.invariant c.requires c.digits-test.true)

pub returns : goal.returns
returns c = rw c.decimal_byte-2.ensures (ends c.digits.invariant c.requires c.digits-test.false (omega (arith, c.width.ensures)))

pub overflow_sub-place : goal.overflow_sub-place
overflow_sub-place c = omega (arith, c.width.ensures, ends_behind c.args.at c.args.n)

pub overflow_sub-place-in-digits : goal.overflow_sub-place-in-digits
overflow_sub-place-in-digits c = before c.digits.invariant c.requires c.digits-test.true
