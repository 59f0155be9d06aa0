use Rattle.to_diff.proofs.Measuring.{count_begins, count_ends, count_delete, count_retain, count_joined, count_spells, count_adds, count_insert}
use Rattle.records.proofs.EachLaws.{reads_from, comes_more, comes_is, comes_on, all_came}
use Rattle.std.proofs.Common.{refl, arith, ◌∙◌}
use Rattle.to_diff.proofs.measure.Goals as goal

pub operations-init : goal.operations-init
operations-init c =
    rw (c.into_iter-operation-iterator.ensures.into_iter_gives ∙ c.each-operation-items.ensures)
    record { reads = reads_from _ _ _ _ refl; counts = count_begins c.requires }

pub run_text-size-requires : goal.run_text-size-requires
run_text-size-requires c =
    let i = c.operations.invariant in
    let s = c.in-Some.ensures.steps in
    (count_spells i.counts c.in-Some.operation (comes_more i.reads s) (comes_is i.reads s) c.if-operation-eq-INSERT.true).lent

pub overflow_add-size : goal.overflow_add-size
overflow_add-size c =
    let i = c.operations.invariant in
    let s = c.in-Some.ensures.steps in
    omega (
      arith,
      count_adds i.counts c.in-Some.operation (comes_more i.reads s) (comes_is i.reads s) c.if-operation-eq-INSERT.true c.requires c.run_text-size.result c.run_text-size.ensures,
    )

pub operations-preserved-then-operation-eq-INSERT : goal.operations-preserved-then-operation-eq-INSERT
operations-preserved-then-operation-eq-INSERT c =
    let i = c.operations.invariant in
    let s = c.in-Some.ensures.steps in
    record {
      reads = comes_on i.reads s;
      counts = rw s.on (count_insert i.counts c.in-Some.operation (comes_more i.reads s) (comes_is i.reads s) c.if-operation-eq-INSERT.true c.requires c.run_text-size.result c.run_text-size.ensures);
    }

pub operations-preserved-then-operation-eq-DELETE : goal.operations-preserved-then-operation-eq-DELETE
operations-preserved-then-operation-eq-DELETE c =
    let i = c.operations.invariant in
    let s = c.in-Some.ensures.steps in
    record {
      reads = comes_on i.reads s;
      counts = rw s.on (count_delete i.counts c.in-Some.operation (comes_more i.reads s) (comes_is i.reads s) c.if-operation-eq-DELETE.true);
    }

pub operations-preserved-then-not-joins : goal.operations-preserved-then-not-joins
operations-preserved-then-not-joins c =
    let i = c.operations.invariant in
    let s = c.in-Some.ensures.steps in
    record {
      reads = comes_on i.reads s;
      counts = rw s.on (count_retain i.counts c.in-Some.operation (comes_more i.reads s) (comes_is i.reads s) c.if-operation-eq-INSERT.false c.if-operation-eq-DELETE.false c.if-not-joins.true);
    }

pub operations-preserved : goal.operations-preserved
operations-preserved c =
    let i = c.operations.invariant in
    let s = c.in-Some.ensures.steps in
    record {
      reads = comes_on i.reads s;
      counts = rw s.on (count_joined i.counts c.in-Some.operation (comes_more i.reads s) (comes_is i.reads s) c.if-operation-eq-INSERT.false c.if-operation-eq-DELETE.false c.if-not-joins.false);
    }

pub returns : goal.returns
returns c = count_ends c.operations.invariant.counts (all_came c.operations.invariant.reads c.in-None.ensures.steps)
