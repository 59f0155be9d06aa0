-- `width_of` is how many bytes a text takes: the ASCII at its start is as wide as it is long, and the rest is summed up.
use Rattle.std.proofs.Common.{length, arith}
use Rattle.utf8_read.specs.Table.{encode}
use Rattle.utf8_write.proofs.Spilling.{width_all, at_most_4, wide_most}
use Rattle.utf8_write.proofs.width_of.Goals as goal

pub sum_by-requires-clause-small : goal.sum_by-requires-clause-small
sum_by-requires-clause-small c = λ x y e. omega (arith, at_most_4 x)

pub returns : goal.returns
returns c =
    let e = c.ascii_end-plain.ensures in
    width_all c.args.text.now c.ascii_end-plain.result c.sum_by.result e.1 (λ k l h. e.2 k 0 l h) (c.sum_by.ensures (λ x. length (encode x)) (λ x y q. q))

pub overflow_add-result : goal.overflow_add-result
overflow_add-result c =
    let e = c.ascii_end-plain.ensures in
    omega (
      arith,
      width_all c.args.text.now c.ascii_end-plain.result c.sum_by.result e.1 (λ k l h. e.2 k 0 l h) (c.sum_by.ensures (λ x. length (encode x)) (λ x y q. q)),
      wide_most c.args.text.now,
    )
