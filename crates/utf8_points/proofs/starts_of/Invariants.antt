-- `starts_of` counts the bytes that are no tails.
-- The loop keeps the count so far and the count of what is left together.
use Rattle.std.proofs.Common.{◌≡◌, ◌+◌, ◌≤◌, length}
use Rattle.std.specs.Slice.Iter.{chunks_rest, chunks_size}
use Rattle.utf8_read.specs.Window.{starts}
use Rattle.utf8_points.proofs.starts_of.Given as goal

abbrev pub invariant-many : goal.invariant-many
invariant-many l = record {
  size : chunks_size l.block-iterator ≡ 192;
  few : l.n + length (chunks_rest l.block-iterator) ≤ length l.bytes;
  sum : l.n + starts (chunks_rest l.block-iterator) ≡ starts l.bytes;
}
