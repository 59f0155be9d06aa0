use Rattle.std.proofs.Common.{◌-◌, arith, sym, ◌∙◌}
use Rattle.utf8_read.proofs.Judging.{came}
use Rattle.utf8_read.proofs.back.Goals as goal

pub returns-then-not-is_tail : goal.returns-then-not-is_tail
returns-then-not-is_tail c = came c.requires (c.back.p - 1) (omega arith) (omega arith) (sym c.is_tail.ensures ∙ c.if-not-is_tail.true)
