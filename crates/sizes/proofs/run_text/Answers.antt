use Rattle.sizes.proofs.Sums.{adding_in, adding_out, adding_ends}
use Rattle.records.proofs.EachLaws.{comes_more, comes_is, comes_on, all_came}
use Rattle.std.proofs.Common.{sym, ◌∙◌}
use Rattle.sizes.proofs.run_text.Goals as goal

pub run-preserved-then-in_text : goal.run-preserved-then-in_text
run-preserved-then-in_text c =
    let i = c.run.invariant in
    let s = c.in-Some.ensures.steps in
    record {
      reads = comes_on i.reads s;
      adds = rw s.on
          (adding_in i.adds c.in-Some.t _ (comes_more i.reads s) (comes_is i.reads s) (sym c.in_text.ensures ∙ c.if-in_text.true)
          c.capped-sum.ensures);
    }

pub run-preserved : goal.run-preserved
run-preserved c =
    let i = c.run.invariant in
    let s = c.in-Some.ensures.steps in
    record {
      reads = comes_on i.reads s;
      adds = rw s.on (adding_out i.adds c.in-Some.t (comes_more i.reads s) (comes_is i.reads s) (sym c.in_text.ensures ∙ c.if-in_text.false));
    }

pub returns : goal.returns
returns c = adding_ends c.run.invariant.adds (all_came c.run.invariant.reads c.in-None.ensures.steps)
