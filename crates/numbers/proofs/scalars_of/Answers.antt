use Rattle.std.proofs.Common.{ℕ, length, length-append, arith, sym, ap, ◌∙◌}
use Rattle.std.specs.Slice.Iter.{chunks_rest}
use Rattle.numbers.specs.Points.{scalars}
use Rattle.numbers.proofs.Scalar.{joined, stopped, all_fine, bad_at}
use Rattle.numbers.proofs.scalars_of.Goals as goal

pub returns-in-Some-first_bad : goal.returns-in-Some-first_bad
returns-in-Some-first_bad c =
    let b = bad_at c.in-Some.block.now _ (sym c.first_bad.ensures ∙ c.in-Some-first_bad.is) in
    omega (arith, c.parts.invariant.1, ap scalars c.in-Some.ensures.steps.1.0, stopped c.in-Some.block.now (chunks_rest c.next.new.self) (omega arith))

pub parts-preserved : goal.parts-preserved
parts-preserved c =
    let f = all_fine c.in-Some.block.now (sym c.first_bad.ensures ∙ c.in_default.is) in
    (omega (arith, c.parts.invariant.0, ap length c.in-Some.ensures.steps.1.0, length-append {A = ℕ}), omega (arith, c.parts.invariant.1, ap scalars c.in-Some.ensures.steps.1.0, joined c.in-Some.block.now (chunks_rest c.next.new.self) f))
