use Rattle.written_lists.proofs.Texts.{text_begins, text_asks, text_on, text_ends}
use Rattle.records.proofs.EachLaws.{reads_from, comes_more, comes_is, comes_on, all_came}
use Rattle.std.proofs.Common.{refl, ◌∙◌}
use Rattle.written_lists.proofs.write_text.Goals as goal

pub text-init : goal.text-init
text-init c =
    rw (c.into_iter-o-iterator.ensures.into_iter_gives ∙ c.each-o-items.ensures)
    record { reads = reads_from _ _ _ _ refl; keeps = text_begins _ _ _ c.requires.0 }

pub put_text-at-requires : goal.put_text-at-requires
put_text-at-requires c =
    let i = c.text.invariant in
    let s = c.in-Some.ensures.steps in
    text_asks _ _ _ i.keeps (comes_more i.reads s) c.requires.1 _ (comes_is i.reads s)

pub text-preserved : goal.text-preserved
text-preserved c =
    let i = c.text.invariant in
    let s = c.in-Some.ensures.steps in
    record {
      reads = comes_on i.reads s;
      keeps = rw s.on (text_on _ _ _ i.keeps (comes_more i.reads s) c.requires.1 _ (comes_is i.reads s) c.put_text-at.ensures);
    }

pub returns : goal.returns
returns c = text_ends _ _ _ c.text.invariant.keeps (all_came c.text.invariant.reads c.in-None.ensures.steps)
