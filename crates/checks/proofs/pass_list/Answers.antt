use Rattle.checks.proofs.Passing.{passing_begins, retains_most, passes_insert, passes_part, passed}
use Rattle.records.proofs.EachLaws.{reads_from, comes_more, comes_is, comes_on, all_came}
use Rattle.std.proofs.Common.{refl, arith, ◌∙◌}
use Rattle.checks.proofs.pass_list.Goals as goal

pub pass-init : goal.pass-init
pass-init c =
    rw (c.into_iter-o-iterator.ensures.into_iter_gives ∙ c.each-o-items.ensures)
    record { reads = reads_from _ _ _ _ refl; passes = passing_begins _ _ _ _ _ _ }

pub pass-preserved-then-o-eq-INSERT : goal.pass-preserved-then-o-eq-INSERT
pass-preserved-then-o-eq-INSERT c =
    let i = c.pass.invariant in
    let s = c.in-Some.ensures.steps in
    record {
      reads = comes_on i.reads s;
      passes = rw s.on
          (passes_insert i.passes c.requires.0 c.in-Some.o (comes_more i.reads s) (comes_is i.reads s) c.if-o-gt1.false
          c.in_ok-text.text c.if-o-eq-INSERT.true c.if-limits-claimed.false c.in_ok-text.ensures c.if-limits-inserted.false);
    }

pub overflow_add-retained : goal.overflow_add-retained
overflow_add-retained c = let h = c.pass.invariant.passes in
    omega (arith, c.retained_by-retained.ensures, retains_most c.in-Some.o, c.if-n-at.false, h.kept, h.tiles.inside, c.requires.1)

pub pass-preserved : goal.pass-preserved
pass-preserved c =
    let i = c.pass.invariant in
    let s = c.in-Some.ensures.steps in
    record {
      reads = comes_on i.reads s;
      passes = rw s.on
          (passes_part i.passes c.requires.0 c.in-Some.o (comes_more i.reads s) (comes_is i.reads s) c.if-o-gt1.false
          c.retained_by-retained.result c.requires.1 c.if-o-eq-INSERT.false c.if-o-gt-RETAIN.false c.if-o-eq0.false c.if-o-at.false c.if-n-at.false
          c.retained_by-retained.ensures);
    }

pub returns : goal.returns
returns c =
    passed c.pass.invariant.passes c.requires.0 c.requires.1 (all_came c.pass.invariant.reads c.in-None.ensures.steps) c.if-at-n.false
