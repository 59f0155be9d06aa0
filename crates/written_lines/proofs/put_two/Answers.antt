-- Shown: `put_two` meets its contract.
-- How: one digit is stored; two are the last two (proofs/Emitting.antt).
use Rattle.written_lines.proofs.Emitting.{one_put, two_hex, two_in}
use Rattle.written_lines.proofs.Numbers.{one_digit}
use native.Mathlib.Omega.{arith}
use Rattle.written_lines.proofs.put_two.Goals as goal

pub bounds-out-at : goal.bounds-out-at
bounds-out-at c = omega (arith, one_digit 16 _ c.if-c-lt16.true)

pub returns-then-c-lt16 : goal.returns-then-c-lt16
returns-then-c-lt16 c = rw c.hex_byte.ensures (one_put 16 _ _ _ c.if-c-lt16.true c.requires.1)

pub put_pair-requires : goal.put_pair-requires
put_pair-requires c = two_in _ c.if-c-lt16.false c.requires.0 _ _ c.requires.1

pub returns : goal.returns
returns c = rw (two_hex _ c.if-c-lt16.false c.requires.0) c.put_pair.ensures
