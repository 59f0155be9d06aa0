use Rattle.std.proofs.Common.{arith}
use Rattle.utf8_read.proofs.Judging.{by_plain, by_one}
use Rattle.utf8_read.proofs.one_by_one.Goals as goal

pub one-preserved-then-bytes-at-lt128 : goal.one-preserved-then-bytes-at-lt128
one-preserved-then-bytes-at-lt128 c = by_plain c.one.invariant (omega arith) c.if-bytes-at-lt128.true

pub overflow_add-at-in-Some : goal.overflow_add-at-in-Some
overflow_add-at-in-Some c = omega (arith, by_one c.one.invariant c.in-Some.ensures.0 c.in-Some.ensures.1)

pub one-preserved : goal.one-preserved
one-preserved c = by_one c.one.invariant c.in-Some.ensures.0 c.in-Some.ensures.1
