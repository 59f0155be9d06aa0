use Rattle.std.proofs.Common.{ℕ, length, length-append, ap, arith, ◌∙◌}
use Rattle.std.specs.Slice.Iter.{chunks_rest}
use Rattle.utf8_points.proofs.Counting.{at_most, block_more, none_left}
use Rattle.utf8_points.proofs.starts_of.Goals as goal

pub many-preserved : goal.many-preserved
many-preserved c =
    let s = c.in-Some.ensures.steps in
    let i = c.many.invariant in
    record {
      size = s.0 ∙ i.size;
      few = omega (arith, i.few, ap length s.1.0, length-append {A = ℕ}, c.starts_block.ensures, c.from-n.ensures, at_most c.in-Some.block.now);
      sum = omega (arith, i.sum, block_more _ c.in-Some.block.now (chunks_rest c.next.new.self) s.1.0, c.starts_block.ensures, c.from-n.ensures);
    }

pub returns : goal.returns
returns c = omega (arith, c.many.invariant.sum, none_left (chunks_rest c.many.block-iterator) c.in-None.ensures.steps.1.0)
