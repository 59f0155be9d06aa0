use Rattle.std.proofs.Common.{◌≡◌, ◌+◌}
use Rattle.std.proofs.lemmas.Result.{err_from_is_err_and}
use Rattle.refusal.specs.declared.Refusal.TheVariants.{Line as BadLine}
use Rattle.edit_read.proofs.Judging.{fails}
use Rattle.edit_read.proofs.judge_items.Goals as goal

pub returns-in_err-s : goal.returns-in_err-s
returns-in_err-s c =
    let p = err_from_is_err_and c.from_residual.result c.from_residual.ensures.1 in
    let v = rw c.in_err-s.ensures.ok_part at c.in_err-s.ensures.value in
    let e : c.in_err-s.field-0.0 ≡ BadLine (c.items.i + 5) = cc in
    rw (p.1, p.2, e) (fails c.items.invariant c.items-test.true (rw c.in_err-s.ensures.ok_part at c.item_line.ensures))
