use Rattle.written_lists.proofs.Histories.{tell_begins, tell_asks, tell_on, tell_ends}
use Rattle.written_lists.proofs.Texts.{text_begins, text_asks, text_on, text_ends}
use Rattle.records.proofs.EachLaws.{reads_from, comes_more, comes_is, comes_on, all_came}
use Rattle.std.proofs.Common.{refl, sym, arith, ◌∙◌}
use Rattle.written_lists.proofs.write_all.Goals as goal

pub all-init : goal.all-init
all-init c =
    rw (c.into_iter-i-iterator.ensures.into_iter_gives, c.enumerate-i-items.ensures.source, c.enumerate-i-items.ensures.count, c.each.ensures)
    record { reads = reads_from _ _ _ _ refl; here = refl; text = text_begins _ _ _ c.requires.0; history = tell_begins _ _ _ _ c.requires.0 }

pub put_text-at-requires : goal.put_text-at-requires
put_text-at-requires c =
    let i = c.all.invariant in
    let s = c.in-Some.ensures.steps.0 in
    text_asks _ _ _ i.text (comes_more i.reads s) c.requires.1.0 _ (comes_is i.reads s)

pub tell-told-requires : goal.tell-told-requires
tell-told-requires c =
    let i = c.all.invariant in
    let s = c.in-Some.ensures.steps in
    rw (sym (s.1 ∙ i.here)) at (tell_asks _ _ _ _ i.history (comes_more i.reads s.0) c.requires.1.1.0 c.requires.1.1.1 _ (comes_is i.reads s.0))

pub all-preserved : goal.all-preserved
all-preserved c =
    let i = c.all.invariant in
    let s = c.in-Some.ensures.steps in
    record {
      reads = comes_on i.reads s.0;
      here = omega (arith, s.2, i.here, s.0.on);
      text = rw s.0.on (text_on _ _ _ i.text (comes_more i.reads s.0) c.requires.1.0 _ (comes_is i.reads s.0) c.put_text-at.ensures);
      history = rw s.0.on
          (tell_on _ _ _ _ i.history (comes_more i.reads s.0) c.requires.1.1.0 c.requires.1.1.1 _ (comes_is i.reads s.0) (rw (s.1 ∙ i.here) at c.tell-told.ensures));
    }

pub returns : goal.returns
returns c =
    let i = c.all.invariant in
    let e = all_came i.reads c.in-None.ensures.steps.0 in
    (text_ends _ _ _ i.text e, tell_ends _ _ _ _ i.history e)
