-- `merge_accepted` merges two accepted lists, cursors sorted going in and coming out.
-- The part of each local array that is lent on holds its side's cursors, sorted; the rest are laws of Whole.
use native.Mathlib.Omega.{arith}
use Rattle.order_laws.proofs.Accepted.{accepted_ready}
use Rattle.edited_text.proofs.Whole.{short, part_most, part_sorted, part_length, part_many, runnable, in_room, merges}
use Rattle.edited_text.proofs.merge_accepted.Goals as goal

pub sort_into-requires : goal.sort_into-requires
sort_into-requires c = short c.args.left.cursors.now c.requires.left_accepted.cursors_most

pub sort_into-requires-2 : goal.sort_into-requires-2
sort_into-requires-2 c = short c.args.right.cursors.now c.requires.right_accepted.cursors_most

pub stream_priority-priority-requires : goal.stream_priority-priority-requires
stream_priority-priority-requires c = record { ready = accepted_ready c.requires.left_accepted; ready_2 = accepted_ready c.requires.right_accepted }

pub slice_bounds-lefts-end : goal.slice_bounds-lefts-end
slice_bounds-lefts-end c = part_most c.args.left.cursors.now _ _ c.count-left_end.ensures c.sort_into.ensures (short c.args.left.cursors.now c.requires.left_accepted.cursors_most)

pub slice_bounds-run-end : goal.slice_bounds-run-end
slice_bounds-run-end c = part_length c.args.left.cursors.now _ _ c.count-left_end.ensures c.sort_into.ensures (short c.args.left.cursors.now c.requires.left_accepted.cursors_most)

pub slice_bounds-rights-end : goal.slice_bounds-rights-end
slice_bounds-rights-end c = part_most c.args.right.cursors.now _ _ c.count-right_end.ensures c.sort_into-2.ensures (short c.args.right.cursors.now c.requires.right_accepted.cursors_most)

pub slice_bounds-run-end-2 : goal.slice_bounds-run-end-2
slice_bounds-run-end-2 c = part_length c.args.right.cursors.now _ _ c.count-right_end.ensures c.sort_into-2.ensures (short c.args.right.cursors.now c.requires.right_accepted.cursors_most)

pub run-totals-requires : goal.run-totals-requires
run-totals-requires c = let l = part_sorted c.args.left.cursors.now _ _ c.count-left_end.ensures c.sort_into.ensures (short c.args.left.cursors.now c.requires.left_accepted.cursors_most) in
    let r = part_sorted c.args.right.cursors.now _ _ c.count-right_end.ensures c.sort_into-2.ensures (short c.args.right.cursors.now c.requires.right_accepted.cursors_most) in
    runnable c.requires _ _ l r _ c.stream_priority-priority.ensures
    (part_many c.args.left.cursors.now _ _ c.count-left_end.ensures c.sort_into.ensures (short c.args.left.cursors.now c.requires.left_accepted.cursors_most))
    (part_many c.args.right.cursors.now _ _ c.count-right_end.ensures c.sort_into-2.ensures (short c.args.right.cursors.now c.requires.right_accepted.cursors_most))
    (omega (arith, c.well_formed.1.1.0))

pub sort_room-requires : goal.sort_room-requires
sort_room-requires c = let l = part_sorted c.args.left.cursors.now _ _ c.count-left_end.ensures c.sort_into.ensures (short c.args.left.cursors.now c.requires.left_accepted.cursors_most) in
    let r = part_sorted c.args.right.cursors.now _ _ c.count-right_end.ensures c.sort_into-2.ensures (short c.args.right.cursors.now c.requires.right_accepted.cursors_most) in
    in_room c.requires _ _ l r _ c.stream_priority-priority.ensures c.run-totals.ensures

pub returns : goal.returns
returns c = let l = part_sorted c.args.left.cursors.now _ _ c.count-left_end.ensures c.sort_into.ensures (short c.args.left.cursors.now c.requires.left_accepted.cursors_most) in
    let r = part_sorted c.args.right.cursors.now _ _ c.count-right_end.ensures c.sort_into-2.ensures (short c.args.right.cursors.now c.requires.right_accepted.cursors_most) in
    merges c.requires _ _ l r _ c.stream_priority-priority.ensures c.run-totals.ensures c.sort_room.ensures
