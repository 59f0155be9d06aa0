-- `total_by` sums what a measure gives for each record, up to the cap.
-- The loop keeps `Totals`, whose ways are in Sums, for whatever the measure is known to give.
use Rattle.std.proofs.Common.{ℕ, ◌≤◌}
use Rattle.records.proofs.EachLaws.{Reads}
use Rattle.sizes.specs.Texts.{Measures}
use Rattle.sizes.proofs.Sums.{Totals}
use Rattle.sizes.proofs.total_by.Given as goal

abbrev pub invariant-sum : goal.invariant-sum
invariant-sum g l =
    let at = g.R.Records.record_at l.fn.records in
    let count = g.R.Records.count l.fn.records in
    record {
      reads : Reads g.R.Records.record_at at count l.record-iterator;
      small : l.sum ≤ 1000000;
      sums : (f : _ → ℕ) → Measures (λ m x y. g.F.Fn.post m (x, tt) y) l.measure f → Totals f at count l.record-iterator.next l.sum;
    }
