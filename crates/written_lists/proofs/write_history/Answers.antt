use Rattle.written_lists.proofs.Histories.{tell_begins, tell_asks, tell_on, tell_ends}
use Rattle.records.proofs.EachLaws.{reads_from, comes_more, comes_is, comes_on, all_came}
use Rattle.std.proofs.Common.{refl, sym, arith, ◌∙◌}
use Rattle.written_lists.proofs.write_history.Goals as goal

pub history-init : goal.history-init
history-init c =
    rw (c.into_iter-i-iterator.ensures.into_iter_gives, c.enumerate-i-items.ensures.source, c.enumerate-i-items.ensures.count, c.each.ensures)
    record { reads = reads_from _ _ _ _ refl; here = refl; keeps = tell_begins _ _ _ _ c.requires.0 }

pub tell-at-requires : goal.tell-at-requires
tell-at-requires c =
    let i = c.history.invariant in
    let s = c.in-Some.ensures.steps in
    rw (sym (s.1 ∙ i.here)) at (tell_asks _ _ _ _ i.keeps (comes_more i.reads s.0) c.requires.1.0 c.requires.1.1 _ (comes_is i.reads s.0))

pub history-preserved : goal.history-preserved
history-preserved c =
    let i = c.history.invariant in
    let s = c.in-Some.ensures.steps in
    record {
      reads = comes_on i.reads s.0;
      here = omega (arith, s.2, i.here, s.0.on);
      keeps = rw s.0.on
          (tell_on _ _ _ _ i.keeps (comes_more i.reads s.0) c.requires.1.0 c.requires.1.1 _ (comes_is i.reads s.0) (rw (s.1 ∙ i.here) at c.tell-at.ensures));
    }

pub returns : goal.returns
returns c = tell_ends _ _ _ _ c.history.invariant.keeps (all_came c.history.invariant.reads c.in-None.ensures.steps.0)
