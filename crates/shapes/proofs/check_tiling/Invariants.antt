-- `check_tiling` gives refusal 2 of a list.
-- The loop keeps `Tiled`, whose ways are in the file of that name.
use Rattle.shapes.proofs.Tiled.{Tiled}
use Rattle.std.proofs.Common.{◌≡◌, ◌/◌, length}
use Rattle.std.specs.Iterator.Adapters.{enumerate_source, enumerate_count}
use Rattle.records.proofs.EachLaws.{ReadsOperations}
use Rattle.shapes.proofs.check_tiling.Given as goal

abbrev pub invariant-tiles : goal.invariant-tiles
invariant-tiles l = record {
  reads : ReadsOperations l.operations.0.now (enumerate_source l.i-iterator);
  here : enumerate_count l.i-iterator ≡ (enumerate_source l.i-iterator).next;
  tiles : Tiled l.n l.operations.0.now (length l.operations.0.now / 6) (enumerate_source l.i-iterator).next l.at;
}
