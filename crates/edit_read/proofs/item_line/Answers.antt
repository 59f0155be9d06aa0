use Rattle.std.proofs.Common.{arith}
use Rattle.edit_format.specs.Reading.{keeping, dropping, adding}
use Rattle.edit_read.proofs.ItemLines.{kind_keep, kind_drop, kind_add, cut_off, as_kind}
use Rattle.edit_read.proofs.item_line.Goals as goal

pub returns-in_err-get : goal.returns-in_err-get
returns-in_err-get c = rw c.from_residual.ensures (cut_off _ _ c.in_err-get.ensures.lookup.3)

pub returns-in-107 : goal.returns-in-107
returns-in-107 c = let b = c.in_ok-get.ensures.lookup.3 in as_kind _ _ keeping b.0 (rw (← b.1 0) (kind_keep _ c.in-107.is)) c.part_line.ensures

pub returns-in-100 : goal.returns-in-100
returns-in-100 c = let b = c.in_ok-get.ensures.lookup.3 in as_kind _ _ dropping b.0 (rw (← b.1 0) (kind_drop _ c.in-100.is)) c.part_line-in-100.ensures

pub returns-in_default : goal.returns-in_default
returns-in_default c = let b = c.in_ok-get.ensures.lookup.3 in as_kind _ _ adding b.0 (rw (← b.1 0) (kind_add c.in_ok-get.field-0.now (λ z. omega (arith, z)) (λ z. omega (arith, z)))) c.add_line.ensures
