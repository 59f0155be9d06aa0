-- `sum_by` sums what a measure gives for each number of a text.
-- Outside, the sum so far and that of what is left are all of it; inside, the sum of a block's numbers so far, at most 8 each.
use Rattle.std.proofs.Common.{◌≡◌, ℕ, ◌+◌, ◌*◌, ◌≤◌, length, take}
use Rattle.std.specs.Slice.Iter.{chunks_rest, chunks_size}
use Rattle.numbers.specs.Sums.{Measures, sum_of}
use Rattle.numbers.proofs.sum_by.Given as goal

abbrev pub invariant-parts : goal.invariant-parts
invariant-parts g l = record {
  size : chunks_size l.block-iterator ≡ 65536;
  few : l.sum + 8 * length (chunks_rest l.block-iterator) ≤ 8 * length l.text;
  sums : (f : ℕ → ℕ) → Measures (λ m x y. g.F.Fn.post m (x, tt) y) l.measure f → l.sum + sum_of f (chunks_rest l.block-iterator) ≡ sum_of f l.text;
}

abbrev pub invariant-block : goal.invariant-block
invariant-block g l = record {
  few : l.part ≤ 8 * l.x-index;
  sums : (f : ℕ → ℕ) → Measures (λ m x y. g.F.Fn.post m (x, tt) y) l.measure f → l.part ≡ sum_of f (take l.x-index l.block);
}
