use Rattle.operation.specs.Views.{of_spans}
use Rattle.operation.proofs.Sums.{counted, all_counted}
use Rattle.records.proofs.EachLaws.{comes_more, comes_is, comes_on, all_came}
use Rattle.std.proofs.Common.{arith, ◌+◌, ◌*◌}
use Rattle.operation.proofs.tokens_length.Goals as goal

pub sum-preserved : goal.sum-preserved
sum-preserved c =
    let i = c.sum.invariant in
    let s = c.in-Some.ensures.steps in
    record {
      reads = comes_on i.reads s;
      low = omega (arith, i.low, s.on);
      sums = rw (s.on, comes_is i.reads s) (counted (of_spans c.args.spans.now) _ _ _ _ i.sums i.low (comes_more i.reads s) (omega (arith, c.type_inv.spans (c.sum.length-iterator.next * 2 + 1))));
    }

pub returns : goal.returns
returns c = all_counted _ _ _ _ _ c.sum.invariant.sums (all_came c.sum.invariant.reads c.in-None.ensures.steps)
