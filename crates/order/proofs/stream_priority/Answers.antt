use Rattle.std.proofs.Common.{refl, arith, inl, inr, ◌∙◌}
use Rattle.records.proofs.EachLaws.{reads_from, comes_more, comes_is, comes_on, all_came}
use Rattle.order.proofs.Pairs.{paired_starts, left_reads, right_reads, pair_decides, pair_equal, part_fits, part_same, ends}
use mathlib.Core.Logic.{⊎_elim}
use Rattle.order.proofs.stream_priority.Goals as goal

pub pairs-init : goal.pairs-init
pairs-init c =
    rw (
      c.into_iter-x-iterator.ensures.into_iter_gives,
      c.zip-x-items.ensures.first,
      c.zip-x-items.ensures.second,
      c.each.ensures,
      c.each-2.ensures,
    )
    record { lefts = reads_from _ _ _ _ refl; rights = reads_from _ _ _ _ refl; even = refl; pairs = paired_starts c.requires.ready c.requires.ready_2 }

pub overflow_add-at : goal.overflow_add-at
overflow_add-at c =
    let i = c.pairs.invariant in
    let s = c.in-Some.ensures.steps in
    omega (arith, part_fits i.pairs (comes_more i.lefts s.0) (rw i.even at (comes_more i.rights s.1)) (comes_is i.lefts s.0) (rw i.even at (comes_is i.rights s.1)) (c.same_part.ensures c.if-same_part.true))

pub pairs-preserved-then-same_part : goal.pairs-preserved-then-same_part
pairs-preserved-then-same_part c =
    let i = c.pairs.invariant in
    let s = c.in-Some.ensures.steps in
    record {
      lefts = comes_on i.lefts s.0;
      rights = comes_on i.rights s.1;
      even = omega (arith, i.even, s.0.on, s.1.on);
      pairs = rw s.0.on (part_same i.pairs (comes_more i.lefts s.0) (rw i.even at (comes_more i.rights s.1)) (comes_is i.lefts s.0) (rw i.even at (comes_is i.rights s.1)) (c.same_part.ensures c.if-same_part.true));
    }

pub cmp_priority-requires-clause-readable : goal.cmp_priority-requires-clause-readable
cmp_priority-requires-clause-readable c =
    let i = c.pairs.invariant in
    let s = c.in-Some.ensures.steps in
    (left_reads i.pairs (comes_more i.lefts s.0) (rw i.even at (comes_more i.rights s.1)) (comes_is i.lefts s.0) c.op_of-a.ensures (rw i.even at (comes_is i.rights s.1)) c.op_of-b.ensures).0

pub cmp_priority-requires-clause-readable_2 : goal.cmp_priority-requires-clause-readable_2
cmp_priority-requires-clause-readable_2 c =
    let i = c.pairs.invariant in
    let s = c.in-Some.ensures.steps in
    (right_reads i.pairs (comes_more i.lefts s.0) (rw i.even at (comes_more i.rights s.1)) (comes_is i.lefts s.0) c.op_of-a.ensures (rw i.even at (comes_is i.rights s.1)) c.op_of-b.ensures).0

pub overflow_add-at-in-Equal : goal.overflow_add-at-in-Equal
overflow_add-at-in-Equal c =
    let i = c.pairs.invariant in
    let s = c.in-Some.ensures.steps in
    omega (arith, (left_reads i.pairs (comes_more i.lefts s.0) (rw i.even at (comes_more i.rights s.1)) (comes_is i.lefts s.0) c.op_of-a.ensures (rw i.even at (comes_is i.rights s.1)) c.op_of-b.ensures).1)

pub returns-in_default : goal.returns-in_default
returns-in_default c =
    let i = c.pairs.invariant in
    let s = c.in-Some.ensures.steps in
    pair_decides i.pairs (comes_more i.lefts s.0) (rw i.even at (comes_more i.rights s.1)) (comes_is i.lefts s.0) c.op_of-a.ensures (rw i.even at (comes_is i.rights s.1)) c.op_of-b.ensures c.cmp_priority.ensures c.in_default.not-Equal

pub pairs-preserved : goal.pairs-preserved
pairs-preserved c =
    let i = c.pairs.invariant in
    let s = c.in-Some.ensures.steps in
    record {
      lefts = comes_on i.lefts s.0;
      rights = comes_on i.rights s.1;
      even = omega (arith, i.even, s.0.on, s.1.on);
      pairs = rw s.0.on (pair_equal i.pairs (comes_more i.lefts s.0) (rw i.even at (comes_more i.rights s.1)) (comes_is i.lefts s.0) c.op_of-a.ensures (rw i.even at (comes_is i.rights s.1)) c.op_of-b.ensures (rw (← c.cmp_priority.ensures) c.in-Equal.is) c.span-at.ensures);
    }

pub returns : goal.returns
returns c =
    let i = c.pairs.invariant in
    c.cmp.ensures
    ∙ rw (c.count.ensures, c.count-2.ensures)
    (ends i.pairs (⊎_elim (λ z. inl (all_came i.lefts z.1)) (λ z. inr (rw i.even at (all_came i.rights z.1))) c.in-None.ensures.steps))
