-- `ascii_end` goes on by ASCII blocks.
-- What is left of the run begins where the blocks so far end.
use Rattle.std.proofs.Common.{◌≡◌, ◌<◌, ◌≤◌, length, drop}
use Rattle.std.specs.List.{AllWithin}
use Rattle.std.specs.Slice.Iter.{chunks_exact_rest, chunks_exact_size}
use Rattle.utf8_read.proofs.ascii.ascii_end.Given as goal

abbrev pub invariant-far : goal.invariant-far
invariant-far g l = record {
  least : l.at ≤ l.end;
  most : l.end ≤ length l.run;
  size : chunks_exact_size l.block-iterator ≡ g.row.N;
  rest : chunks_exact_rest l.block-iterator ≡ drop l.end l.run;
  ascii : AllWithin (λ x. g.T.Unit.value x < 0x80) l.run l.at l.end;
}
