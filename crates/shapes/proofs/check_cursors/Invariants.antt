-- `check_cursors` gives refusal 5 of cursors.
-- The loop keeps `Marking`, whose ways are in Tiled.
use Rattle.shapes.proofs.Tiled.{Marking}
use Rattle.std.proofs.Common.{◌≡◌, ◌/◌, length}
use Rattle.std.specs.Iterator.Adapters.{enumerate_source, enumerate_count}
use Rattle.records.proofs.EachLaws.{ReadsCursors}
use Rattle.shapes.proofs.check_cursors.Given as goal

abbrev pub invariant-cursors : goal.invariant-cursors
invariant-cursors l = record {
  reads : ReadsCursors l.cursors (enumerate_source l.i-iterator);
  here : enumerate_count l.i-iterator ≡ (enumerate_source l.i-iterator).next;
  marks : Marking l.end l.cursors (length l.cursors / 2) (enumerate_source l.i-iterator).next;
}
