-- `check_records` gives refusal 1 of a list.
-- The loop keeps `Recording`, whose ways are in Shapely.
use Rattle.shapes.proofs.Shapely.{Recording}
use Rattle.std.proofs.Common.{◌≡◌, ◌/◌, length}
use Rattle.std.specs.Iterator.Adapters.{enumerate_source, enumerate_count}
use Rattle.records.proofs.EachLaws.{ReadsOperations}
use Rattle.shapes.proofs.check_records.Given as goal

abbrev pub invariant-records : goal.invariant-records
invariant-records l = record {
  reads : ReadsOperations l.operations (enumerate_source l.i-iterator);
  here : enumerate_count l.i-iterator ≡ (enumerate_source l.i-iterator).next;
  keeps : Recording l.n l.tokens.spans.now l.tokens.keys.now l.operations (length l.operations / 6) (enumerate_source l.i-iterator).next;
}
