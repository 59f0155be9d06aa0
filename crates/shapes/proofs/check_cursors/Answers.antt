use Rattle.shapes.proofs.Tiled.{marks_begin, marks_on, marks_past, marks_end}
use Rattle.records.proofs.EachLaws.{reads_from, comes_more, comes_is, comes_on, all_came}
use Rattle.std.proofs.Common.{refl, arith, ◌∙◌}
use Rattle.shapes.proofs.check_cursors.Goals as goal

pub cursors-init : goal.cursors-init
cursors-init c =
    rw (c.into_iter-i-iterator.ensures.into_iter_gives, c.enumerate-i-items.ensures.source, c.enumerate-i-items.ensures.count, c.each.ensures)
    record { reads = reads_from _ _ _ _ refl; here = refl; marks = marks_begin _ _ _ refl }

pub cursors-preserved : goal.cursors-preserved
cursors-preserved c =
    let i = c.cursors.invariant in
    let s = c.in-Some.ensures.steps in
    record {
      reads = comes_on i.reads s.0;
      here = omega (arith, s.2, i.here, s.0.on);
      marks = rw s.0.on (marks_on i.marks c.in-Some.c (comes_more i.reads s.0) (comes_is i.reads s.0) c.if-end-c.false);
    }

pub returns-then-end-c : goal.returns-then-end-c
returns-then-end-c c =
    let i = c.cursors.invariant in
    let s = c.in-Some.ensures.steps in
    rw (← s.1 ∙ i.here) at (marks_past i.marks c.in-Some.c (comes_more i.reads s.0) (comes_is i.reads s.0) c.if-end-c.true)

pub returns : goal.returns
returns c = marks_end c.cursors.invariant.marks (all_came c.cursors.invariant.reads c.in-None.ensures.steps.0)
