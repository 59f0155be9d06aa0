-- `scalars_of` is the index of the first number that is no code point.
-- Blocks of code points first; what is left of the text gives the answer of the whole.
use Rattle.std.proofs.Common.{◌≡◌, ◌+◌, length}
use Rattle.std.specs.Slice.Iter.{chunks_rest}
use Rattle.numbers.specs.Points.{scalars}
use Rattle.numbers.proofs.scalars_of.Given as goal

abbrev pub invariant-parts : goal.invariant-parts
invariant-parts l =
    (l.passed + length (chunks_rest l.block-iterator) ≡ length l.text) × (l.passed + scalars (chunks_rest l.block-iterator) ≡ scalars l.text)
