use Rattle.elongate.proofs.Walking.{walk_starts, appends, lent_run, some_run, tokens_most, sums_most, walk_joins, walk_parts, parts_fits, ends_fits, walk_ends}
use Rattle.elongate.proofs.Walks.{walk_begins, took, ended}
use Rattle.std.proofs.Common.{sym, ◌∙◌, arith}
use Rattle.elongate.proofs.write.Goals as goal

pub walk-init : goal.walk-init
walk-init c = (omega arith, rw (walk_begins c.args.raw.now) (walk_starts c.requires))

pub close-count-requires : goal.close-count-requires
close-count-requires c = ends_fits (rw (ended c.step.ensures c.in-End.is) at c.walk.invariant.1)

pub returns-in-End : goal.returns-in-End
returns-in-End c = walk_ends (rw (ended c.step.ensures c.in-End.is) at c.walk.invariant.1) c.close-count.ensures

pub append-requires : goal.append-requires
append-requires c = appends (rw ((took c.step.ensures c.in-Take.is).0) at c.walk.invariant.1)

pub run_text-length-requires : goal.run_text-length-requires
run_text-length-requires c = omega (arith, lent_run (rw ((took c.step.ensures c.in-Take.is).0) at c.walk.invariant.1))

pub left_joinable-left-requires : goal.left_joinable-left-requires
left_joinable-left-requires c = let h = rw ((took c.step.ensures c.in-Take.is).0) at c.walk.invariant.1 in omega (arith, lent_run h, some_run h)

pub overflow_add-last : goal.overflow_add-last
overflow_add-last c = omega (arith, lent_run (rw ((took c.step.ensures c.in-Take.is).0) at c.walk.invariant.1), c.well_formed)

pub overflow_sub-last : goal.overflow_sub-last
overflow_sub-last c = omega (arith, some_run (rw ((took c.step.ensures c.in-Take.is).0) at c.walk.invariant.1))

pub right_joinable-right-requires : goal.right_joinable-right-requires
right_joinable-right-requires c = let h = rw ((took c.step.ensures c.in-Take.is).0) at c.walk.invariant.1 in omega (arith, lent_run h, some_run h)

pub extended-current-requires : goal.extended-current-requires
extended-current-requires c =
    let h = rw ((took c.step.ensures c.in-Take.is).0) at c.walk.invariant.1 in
    (omega (arith, sums_most h c.run_text-length.ensures), omega (arith, tokens_most h))

pub walk-preserved-then-joins : goal.walk-preserved-then-joins
walk-preserved-then-joins c =
    let t = took c.step.ensures c.in-Take.is in
    (t.1.1, walk_joins (rw t.0 at c.walk.invariant.1) c.run_text-length.ensures c.left_joinable-left.ensures c.right_joinable-right.ensures c.append.ensures (sym c.joins.ensures ∙ c.if-joins.true) c.extended-current.ensures)

pub close-written-requires : goal.close-written-requires
close-written-requires c =
    parts_fits (rw ((took c.step.ensures c.in-Take.is).0) at c.walk.invariant.1) c.run_text-length.ensures c.left_joinable-left.ensures c.right_joinable-right.ensures (sym c.joins.ensures ∙ c.if-joins.false)

pub walk-preserved : goal.walk-preserved
walk-preserved c =
    let t = took c.step.ensures c.in-Take.is in (
      t.1.1,
      walk_parts (rw t.0 at c.walk.invariant.1) c.run_text-length.ensures c.left_joinable-left.ensures c.right_joinable-right.ensures c.append.ensures (sym c.joins.ensures ∙ c.if-joins.false) c.close-written.ensures
          c.next-current.ensures,
    )
