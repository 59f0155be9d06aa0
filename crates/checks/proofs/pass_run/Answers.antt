use Rattle.checks.proofs.Passing.{run_on, run_ends}
use Rattle.records.proofs.EachLaws.{comes_more, comes_is, comes_on, all_came}
use Rattle.std.proofs.Common.{sym, ◌∙◌}
use Rattle.checks.proofs.pass_run.Goals as goal

pub run-preserved : goal.run-preserved
run-preserved c =
    let i = c.run.invariant in
    let s = c.in-Some.ensures.steps in
    record {
      reads = comes_on i.reads s;
      runs = rw s.on
          (run_on i.runs c.in-Some.t _ (comes_more i.reads s) (comes_is i.reads s) c.if-t-eq0.false (sym c.in_text.ensures ∙ c.if-not-in_text.false)
          c.capped-sum.ensures);
    }

pub returns : goal.returns
returns c = run_ends c.run.invariant.runs (all_came c.run.invariant.reads c.in-None.ensures.steps)
