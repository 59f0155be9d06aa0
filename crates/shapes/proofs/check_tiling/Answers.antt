use Rattle.shapes.proofs.Tiled.{tiled_begin, tiled_insert, tiled_order, tiled_long, tiled_on, tiled_end, tiled_short}
use Rattle.records.proofs.EachLaws.{reads_from, comes_more, comes_is, comes_on, all_came}
use Rattle.std.proofs.Common.{refl, arith, ◌∙◌}
use Rattle.shapes.proofs.check_tiling.Goals as goal

pub tiles-init : goal.tiles-init
tiles-init c =
    rw (c.into_iter-i-iterator.ensures.into_iter_gives, c.enumerate-i-items.ensures.source, c.enumerate-i-items.ensures.count, c.each.ensures)
    record { reads = reads_from _ _ _ _ refl; here = refl; tiles = tiled_begin _ _ _ refl }

pub tiles-preserved-then-o-eq-INSERT : goal.tiles-preserved-then-o-eq-INSERT
tiles-preserved-then-o-eq-INSERT c =
    let i = c.tiles.invariant in
    let s = c.in-Some.ensures.steps in
    record {
      reads = comes_on i.reads s.0;
      here = omega (arith, s.2, i.here, s.0.on);
      tiles = rw s.0.on (tiled_insert i.tiles c.in-Some.o (comes_more i.reads s.0) (comes_is i.reads s.0) c.if-o-eq-INSERT.true);
    }

pub returns-then-o-at : goal.returns-then-o-at
returns-then-o-at c =
    let i = c.tiles.invariant in
    let s = c.in-Some.ensures.steps in
    rw (← s.1 ∙ i.here) at
    (tiled_order i.tiles c.in-Some.o (comes_more i.reads s.0) (comes_is i.reads s.0) c.if-o-eq-INSERT.false c.if-o-at.true)

pub returns-then-n-at : goal.returns-then-n-at
returns-then-n-at c =
    let i = c.tiles.invariant in
    let s = c.in-Some.ensures.steps in
    rw (← s.1 ∙ i.here) at
    (tiled_long i.tiles c.in-Some.o (comes_more i.reads s.0) (comes_is i.reads s.0) c.if-o-eq-INSERT.false c.if-o-at.false c.if-n-at.true)

pub tiles-preserved : goal.tiles-preserved
tiles-preserved c =
    let i = c.tiles.invariant in
    let s = c.in-Some.ensures.steps in
    record {
      reads = comes_on i.reads s.0;
      here = omega (arith, s.2, i.here, s.0.on);
      tiles = rw s.0.on
          (tiled_on i.tiles c.in-Some.o (comes_more i.reads s.0) (comes_is i.reads s.0) c.if-o-eq-INSERT.false c.if-o-at.false c.if-n-at.false);
    }

pub returns-then-at-n : goal.returns-then-at-n
returns-then-at-n c =
    tiled_end c.tiles.invariant.tiles (all_came c.tiles.invariant.reads c.in-None.ensures.steps.0) c.if-at-n.true

pub returns : goal.returns
returns c =
    rw (← c.count.ensures) at
    (tiled_short c.tiles.invariant.tiles (all_came c.tiles.invariant.reads c.in-None.ensures.steps.0) c.if-at-n.false)
