use Rattle.std.proofs.Common.{ℕ, length, length-append, ap, arith, ◌∙◌}
use Rattle.std.specs.Slice.Iter.{chunks_rest}
use Rattle.std.proofs.lemmas.List.{nil_from_length}
use Rattle.numbers.specs.Sums.{sum_of}
use Rattle.numbers.proofs.Sums.{sum_none, sum_both, sum_more, sum_all}
use Rattle.numbers.proofs.sum_by.Goals as goal

pub block-init : goal.block-init
block-init g c = record { few = omega arith; sums = λ f m. sum_none f }

pub block-preserved : goal.block-preserved
block-preserved g c =
    let i = c.block.invariant in
    record {
      few = omega (arith, i.few, c.requires.small _ _ c.measure-part.ensures);
      sums = λ f m. sum_more f c.in-Some.block.now c.block.x-index _ _ (omega arith) (i.sums f m) (m _ _ c.measure-part.ensures);
    }

pub parts-preserved : goal.parts-preserved
parts-preserved g c =
    let i = c.parts.invariant in
    let s = c.in-Some.ensures.steps in
    let b = c.block.invariant in
    record {
      size = s.0 ∙ i.size;
      few = omega (arith, i.few, b.few, ap length s.1.0, length-append {A = ℕ});
      sums = λ f m.
          omega (
            arith,
            i.sums f m,
            ap (sum_of f) s.1.0,
            sum_both f c.in-Some.block.now (chunks_rest c.next.new.self),
            sum_all f c.in-Some.block.now _ _ (omega arith) (b.sums f m),
          );
    }

pub returns : goal.returns
returns g c = λ f m. omega (arith, c.parts.invariant.sums f m, ap (sum_of f) (nil_from_length _ c.in-None.ensures.steps.1.0), sum_none f)
