use Rattle.shapes.proofs.Shapely.{records_begin, records_on, records_bad, records_end}
use Rattle.records.proofs.EachLaws.{reads_from, comes_more, comes_is, comes_on, all_came}
use Rattle.std.proofs.Common.{refl, sym, arith, ◌∙◌}
use Rattle.shapes.proofs.check_records.Goals as goal

pub records-init : goal.records-init
records-init c =
    rw (c.into_iter-i-iterator.ensures.into_iter_gives, c.enumerate-i-items.ensures.source, c.enumerate-i-items.ensures.count, c.each.ensures)
    record { reads = reads_from _ _ _ _ refl; here = refl; keeps = records_begin _ _ _ _ _ refl }

pub records-preserved : goal.records-preserved
records-preserved c =
    let i = c.records.invariant in
    let s = c.in-Some.ensures.steps in
    record {
      reads = comes_on i.reads s.0;
      here = omega (arith, s.2, i.here, s.0.on);
      keeps = rw s.0.on (records_on i.keeps c.in-Some.o (comes_more i.reads s.0) (comes_is i.reads s.0) (sym c.is_record.ensures ∙ c.if-not-is_record.false));
    }

pub returns-then-not-is_record : goal.returns-then-not-is_record
returns-then-not-is_record c =
    let i = c.records.invariant in
    let s = c.in-Some.ensures.steps in
    rw (← s.1 ∙ i.here) at (records_bad i.keeps c.in-Some.o (comes_more i.reads s.0) (comes_is i.reads s.0) (sym c.is_record.ensures ∙ c.if-not-is_record.true))

pub returns : goal.returns
returns c = records_end c.records.invariant.keeps (all_came c.records.invariant.reads c.in-None.ensures.steps.0)
