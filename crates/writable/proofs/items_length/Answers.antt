use Rattle.diff.proofs.Loops.{over_begins, over_on, over_ends, came_within}
use Rattle.edit_format.specs.Written.{item_line}
use Rattle.written_lines.specs.Lengths.{cap}
use Rattle.writable.specs.Writable.{file_item}
use Rattle.writable.proofs.Counting.{number_length, insert_length, neither_length, items_begin, items_more, items_end}
use Rattle.std.proofs.Common.{◌≡◌, length, arith, ◌∙◌}
use Rattle.writable.proofs.items_length.Goals.{in-Insert, in-Neither, in-Retain2}
use Rattle.writable.proofs.items_length.Goals as goal

pub items-init : goal.items-init
items-init c = over_begins _ (c.into_iter-item-iterator.ensures.into_iter_gives ∙ c.each-item-items.ensures) (items_begin _ _)

pub overflow_add-start : goal.overflow_add-start
overflow_add-start c = omega (arith, came_within c.items.invariant c.in-Some.ensures.steps c.in-Insert.is)

pub offset_bounds-items-start : goal.offset_bounds-items-start
offset_bounds-items-start c = omega (arith, came_within c.items.invariant c.in-Some.ensures.steps c.in-Insert.is)

pub slice_bounds-points_length-end : goal.slice_bounds-points_length-end
slice_bounds-points_length-end c = omega (arith, came_within c.items.invariant c.in-Some.ensures.steps c.in-Insert.is)

pub items-preserved : goal.items-preserved
items-preserved c =
    let l : c.match-item.line ≡ cap (length (item_line (file_item c.args.items.text.now c.in-Some.item))) = elim c.match-item.branch [
      | in-Insert w ↦ rw w.line-is (insert_length _ w.in-Insert.is w.points_length.ensures w.plus-line.ensures)
      | in-Neither w ↦ rw w.line-is (neither_length _ w.in-Neither.is)
      | in-Retain2 w ↦ rw w.line-is (number_length _ w.in-Retain.is w.line_length-line.ensures)
    ] in
    over_on c.items.invariant c.in-Some.ensures.steps (λ k h e. items_more k h e l c.plus-sum.ensures)

pub returns : goal.returns
returns c = over_ends c.items.invariant c.in-None.ensures.steps items_end
