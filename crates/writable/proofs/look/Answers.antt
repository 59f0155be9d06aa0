use Rattle.diff.proofs.Loops.{over_begins, over_on, over_ends}
use Rattle.writable.proofs.Looking.{look_begins, look_number, look_insert, look_ends}
use Rattle.std.proofs.Common.{◌∙◌}
use Rattle.writable.proofs.look.Goals as goal

pub look-init : goal.look-init
look-init c = over_begins _ (c.into_iter-item-iterator.ensures.into_iter_gives ∙ c.each-item-items.ensures) (look_begins _ _)

pub look-preserved-in-Insert : goal.look-preserved-in-Insert
look-preserved-in-Insert c =
    over_on c.look.invariant c.in-Some.ensures.steps
    (λ k h e. look_insert k h (e ∙ c.in-Insert.is) (rw c.in-Insert.is at c.in_ok-joined.ensures) (rw c.in-Insert.is at c.in_ok-more.ensures) c.if-start-sums.true)

pub look-preserved : goal.look-preserved
look-preserved c =
    over_on c.look.invariant c.in-Some.ensures.steps
    (λ k h e. look_number k h e c.in_ok-joined.ensures c.in_ok-more.ensures c.in-Retain.is c.line_length-lines.ensures)

pub returns : goal.returns
returns c = over_ends c.look.invariant c.in-None.ensures.steps (λ k h. look_ends k h c.if-sums-items.false c.parted_length.ensures c.plus.ensures)
