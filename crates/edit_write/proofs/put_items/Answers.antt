use Rattle.diff.proofs.Loops.{over_begins, over_on, over_ends, came, came_within}
use Rattle.edit_write.proofs.Emitting.{emit_begins, retain_in, retain_put, delete_in, delete_put, insert_in, insert_put, neither_in, neither_put, emit_ends}
use Rattle.std.proofs.Common.{arith, ◌∙◌}
use Rattle.edit_write.proofs.put_items.Goals as goal

pub items-init : goal.items-init
items-init c = over_begins _ (c.into_iter-item-iterator.ensures.into_iter_gives ∙ c.each-item-items.ensures) (emit_begins _ _ _ _)

pub put_line-next-requires : goal.put_line-next-requires
put_line-next-requires c = came c.items.invariant c.in-Some.ensures.steps (λ k h e. retain_in k c.requires h (e ∙ c.in-Retain.is))

pub items-preserved-in-Retain : goal.items-preserved-in-Retain
items-preserved-in-Retain c =
    over_on c.items.invariant c.in-Some.ensures.steps (λ k h e. retain_put k c.requires h (e ∙ c.in-Retain.is) c.put_line-next.ensures)

pub put_line-next-requires-in-Delete : goal.put_line-next-requires-in-Delete
put_line-next-requires-in-Delete c = came c.items.invariant c.in-Some.ensures.steps (λ k h e. delete_in k c.requires h (e ∙ c.in-Delete.is))

pub items-preserved-in-Delete : goal.items-preserved-in-Delete
items-preserved-in-Delete c =
    over_on c.items.invariant c.in-Some.ensures.steps (λ k h e. delete_put k c.requires h (e ∙ c.in-Delete.is) c.put_line-next-in-Delete.ensures)

pub overflow_add-start : goal.overflow_add-start
overflow_add-start c = omega (arith, came_within c.items.invariant c.in-Some.ensures.steps c.in-Insert.is)

pub offset_bounds-items-start : goal.offset_bounds-items-start
offset_bounds-items-start c = omega (arith, came_within c.items.invariant c.in-Some.ensures.steps c.in-Insert.is)

pub slice_bounds-put_add-end : goal.slice_bounds-put_add-end
slice_bounds-put_add-end c = omega (arith, came_within c.items.invariant c.in-Some.ensures.steps c.in-Insert.is)

pub put_add-next-requires : goal.put_add-next-requires
put_add-next-requires c = came c.items.invariant c.in-Some.ensures.steps (λ k h e. insert_in k c.requires h (e ∙ c.in-Insert.is))

pub items-preserved-in-Insert : goal.items-preserved-in-Insert
items-preserved-in-Insert c =
    over_on c.items.invariant c.in-Some.ensures.steps (λ k h e. insert_put k c.requires h (e ∙ c.in-Insert.is) c.put_add-next.ensures)

pub put_add-next-requires-in-Neither : goal.put_add-next-requires-in-Neither
put_add-next-requires-in-Neither c = came c.items.invariant c.in-Some.ensures.steps (λ k h e. neither_in k c.requires h (e ∙ c.in-Neither.is))

pub items-preserved : goal.items-preserved
items-preserved c =
    over_on c.items.invariant c.in-Some.ensures.steps (λ k h e. neither_put k c.requires h (e ∙ c.in-Neither.is) c.put_add-next-in-Neither.ensures)

pub returns : goal.returns
returns c = over_ends c.items.invariant c.in-None.ensures.steps emit_ends
