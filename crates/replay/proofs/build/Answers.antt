use Rattle.diff.proofs.Loops.{over_begins, over_on, over_ends, came, came_within}
use Rattle.diff.proofs.Decoding.{range_part}
use Rattle.replay.proofs.Building.{build_begins, build_ends, fits_retain, build-retain, build_delete, fits_insert, build-insert, build_neither}
use Rattle.replay.specs.Answers.{edits, text_of}
use Rattle.std.proofs.Common.{arith, ◌∙◌}
use Rattle.replay.proofs.build.Goals as goal

pub items-init : goal.items-init
items-init c =
    let n = c.new-builder.ensures in
    record {
      over = rw n.0;
      builds = over_begins _ (c.into_iter-item-iterator.ensures.into_iter_gives ∙ c.each-item-items.ensures) (rw n.1 (build_begins _ _ _ _));
    }

pub retain-at-requires : goal.retain-at-requires
unfolding text_of edits
retain-at-requires c =
    let i = c.items.invariant in
    rw i.over (came i.builds c.in-Some.ensures.steps (λ k l e. fits_retain k l c.requires (e ∙ c.in-Retain.is)))

pub items-preserved-in-Retain : goal.items-preserved-in-Retain
unfolding text_of edits
items-preserved-in-Retain c =
    let i = c.items.invariant in
    let r = c.retain-at.ensures in
    record {
      over = rw r.same i.over;
      builds = over_on i.builds c.in-Some.ensures.steps (λ k l e. build-retain k l c.requires (e ∙ c.in-Retain.is) (rw i.over at r.retained) (rw i.over at r.next));
    }

pub items-preserved-in-Delete : goal.items-preserved-in-Delete
unfolding text_of edits
items-preserved-in-Delete c =
    let i = c.items.invariant in
    let d = c.delete.ensures in
    record {
      over = rw d.same i.over;
      builds = over_on i.builds c.in-Some.ensures.steps (λ k l e. rw (d.passed, i.over) (build_delete k l c.requires (e ∙ c.in-Delete.is)));
    }

pub overflow_add-start : goal.overflow_add-start
overflow_add-start c = omega (arith, came_within c.items.invariant.builds c.in-Some.ensures.steps c.in-Insert.is)

pub offset_bounds-items-start : goal.offset_bounds-items-start
offset_bounds-items-start c = omega (arith, came_within c.items.invariant.builds c.in-Some.ensures.steps c.in-Insert.is)

pub slice_bounds-insert-end : goal.slice_bounds-insert-end
slice_bounds-insert-end c = omega (arith, came_within c.items.invariant.builds c.in-Some.ensures.steps c.in-Insert.is)

pub insert-at-requires : goal.insert-at-requires
unfolding text_of edits
insert-at-requires c =
    rw (range_part _ _ _)
    (came c.items.invariant.builds c.in-Some.ensures.steps (λ k l e. fits_insert k l c.requires (e ∙ c.in-Insert.is)))

pub items-preserved-in-Insert : goal.items-preserved-in-Insert
unfolding text_of edits
items-preserved-in-Insert c =
    let i = c.items.invariant in
    record {
      over = i.over;
      builds = over_on i.builds c.in-Some.ensures.steps (λ k l e. build-insert k l c.requires (e ∙ c.in-Insert.is) (rw (range_part _ _ _) at c.insert-at.ensures));
    }

pub items-preserved : goal.items-preserved
unfolding text_of edits
items-preserved c =
    let i = c.items.invariant in
    record { over = i.over; builds = over_on i.builds c.in-Some.ensures.steps (λ k l e. build_neither k l c.requires (e ∙ c.in-Neither.is)) }

pub returns : goal.returns
unfolding text_of edits
returns c = over_ends c.items.invariant.builds c.in-None.ensures.steps build_ends
