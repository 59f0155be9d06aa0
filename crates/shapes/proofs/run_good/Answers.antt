use Rattle.shapes.proofs.Shapely.{looks_empty, looks_out, looks_on, looks_end}
use Rattle.records.proofs.EachLaws.{comes_more, comes_is, comes_on, all_came}
use mathlib.Core.Path.{sym, ◌∙◌}
use Rattle.shapes.proofs.run_good.Goals as goal

pub returns-then-t-eq0 : goal.returns-then-t-eq0
returns-then-t-eq0 c =
    let i = c.run.invariant in
    let s = c.in-Some.ensures.steps in
    looks_empty i.looks c.in-Some.t (comes_more i.reads s) (comes_is i.reads s) c.if-t-eq0.true

pub run-preserved : goal.run-preserved
run-preserved c =
    let i = c.run.invariant in
    let s = c.in-Some.ensures.steps in
    record {
      reads = comes_on i.reads s;
      looks = rw s.on
          (looks_on i.looks c.in-Some.t (comes_more i.reads s) (comes_is i.reads s) c.if-t-eq0.false (sym c.in_text.ensures ∙ c.if-not-in_text.false));
    }

pub returns-then-not-in_text : goal.returns-then-not-in_text
returns-then-not-in_text c =
    let i = c.run.invariant in
    let s = c.in-Some.ensures.steps in
    looks_out i.looks c.in-Some.t (comes_more i.reads s) (comes_is i.reads s) c.if-t-eq0.false (sym c.in_text.ensures ∙ c.if-not-in_text.true)

pub returns : goal.returns
returns c = looks_end c.run.invariant.looks (all_came c.run.invariant.reads c.in-None.ensures.steps)
