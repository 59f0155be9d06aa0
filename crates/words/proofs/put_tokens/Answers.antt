use Rattle.words.proofs.Spelling.{begins, asks, joins, goes_on, finishes}
use Rattle.records.proofs.EachLaws.{reads_from, comes_more, comes_is, comes_on, all_came}
use Rattle.std.proofs.Common.{refl, ◌∙◌}
use Rattle.words.proofs.put_tokens.Goals as goal

pub tokens-init : goal.tokens-init
tokens-init c =
    rw (c.into_iter-token-iterator.ensures.into_iter_gives ∙ c.between-token-items.ensures)
    record { reads = reads_from _ _ _ _ refl; keeps = begins _ _ _ _ _ _ _ c.requires _ c.first_start-from.ensures }

pub tokens-preserved-then-start-from : goal.tokens-preserved-then-start-from
tokens-preserved-then-start-from c =
    let i = c.tokens.invariant in
    let s = c.in-Some.ensures.steps in
    record {
      reads = comes_on i.reads s;
      keeps = rw s.on (joins _ _ _ _ _ _ _ c.requires i.keeps (comes_more i.reads s) _ (comes_is i.reads s) c.if-start-from.true);
    }

pub put_original-to-requires : goal.put_original-to-requires
put_original-to-requires c = asks _ _ _ _ _ _ _ c.requires c.tokens.invariant.keeps

pub tokens-preserved : goal.tokens-preserved
tokens-preserved c =
    let i = c.tokens.invariant in
    let s = c.in-Some.ensures.steps in
    record {
      reads = comes_on i.reads s;
      keeps = rw s.on (goes_on _ _ _ _ _ _ _ c.requires i.keeps (comes_more i.reads s) _ (comes_is i.reads s) c.put_original-to.ensures);
    }

pub put_original-requires : goal.put_original-requires
put_original-requires c = asks _ _ _ _ _ _ _ c.requires c.tokens.invariant.keeps

pub returns : goal.returns
returns c = finishes _ _ _ _ _ _ _ c.requires c.tokens.invariant.keeps c.put_original.ensures (all_came c.tokens.invariant.reads c.in-None.ensures.steps)
