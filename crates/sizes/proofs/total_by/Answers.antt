use Rattle.sizes.proofs.Sums.{totals_begin, totals_on, totals_end}
use Rattle.records.proofs.EachLaws.{reads_from, comes_more, comes_is, comes_on, all_came}
use Rattle.std.proofs.Common.{refl, arith, zero-le, ◌∙◌}
use Rattle.sizes.proofs.total_by.Goals as goal

pub sum-init : goal.sum-init
sum-init g c =
    rw (c.into_iter-record-iterator.ensures.into_iter_gives ∙ c.each-record-items.ensures)
    record { reads = reads_from _ _ _ _ refl; small = zero-le; sums = λ f m. totals_begin }

pub sum-preserved : goal.sum-preserved
sum-preserved g c =
    let i = c.sum.invariant in
    let s = c.in-Some.ensures.steps in
    record {
      reads = comes_on i.reads s;
      small = omega (arith, c.capped-sum.ensures);
      sums = λ f m. rw s.on (totals_on (i.sums f m) c.in-Some.record _ _ (comes_more i.reads s) (comes_is i.reads s) (m _ _ c.measure.ensures) c.capped-sum.ensures);
    }

pub returns : goal.returns
returns g c = λ f m. totals_end (c.sum.invariant.sums f m) (all_came c.sum.invariant.reads c.in-None.ensures.steps)
