use Rattle.raw_lists.proofs.Checking.{shaping_begins, shaping_on, shaping_bad, shaping_ends}
use Rattle.records.proofs.EachLaws.{reads_from, comes_more, comes_is, comes_on, all_came}
use Rattle.std.proofs.Common.{refl, sym, ◌∙◌, arith}
use Rattle.raw_lists.proofs.check_raws.Goals as goal

pub raws-init : goal.raws-init
raws-init c =
    rw (c.into_iter-i-iterator.ensures.into_iter_gives, c.enumerate-i-items.ensures.source, c.enumerate-i-items.ensures.count, c.each.ensures)
    record { reads = reads_from _ _ _ _ refl; here = refl; shapes = shaping_begins _ _ _ _ _ _ refl }

pub raws-preserved : goal.raws-preserved
raws-preserved c =
    let i = c.raws.invariant in
    let s = c.in-Some.ensures.steps in
    record {
      reads = comes_on i.reads s.0;
      here = omega (arith, s.2, i.here, s.0.on);
      shapes = rw s.0.on (shaping_on i.shapes c.in-Some.r (comes_more i.reads s.0) (comes_is i.reads s.0) (sym c.is_raw.ensures ∙ c.if-not-is_raw.false));
    }

pub returns-then-not-is_raw : goal.returns-then-not-is_raw
returns-then-not-is_raw c =
    let i = c.raws.invariant in
    let s = c.in-Some.ensures.steps in
    rw (← s.1 ∙ i.here) at (shaping_bad i.shapes c.in-Some.r (comes_more i.reads s.0) (comes_is i.reads s.0) (sym c.is_raw.ensures ∙ c.if-not-is_raw.true))

pub returns : goal.returns
returns c = shaping_ends c.raws.invariant.shapes (all_came c.raws.invariant.reads c.in-None.ensures.steps.0)
