-- `points_length` answers how long code points in hex are, held up to the cap: the spaces between, and the digits summed up.
use Rattle.std.proofs.Common.{length, arith}
use Rattle.edit_format.specs.Digits.{digits}
use Rattle.written_lines.proofs.Hexes.{points_length}
use Rattle.written_lines.proofs.points_length.Goals as goal

pub sum_by-requires-clause-small : goal.sum_by-requires-clause-small
sum_by-requires-clause-small c = λ x y e. e.1

pub returns : goal.returns
returns c =
    omega (
      arith,
      c.plus-spaces.ensures,
      c.saturating_sub.ensures,
      c.sum_by.ensures (λ x. length (digits 16 x)) (λ x y e. e.0),
      points_length c.args.text.now,
      c.plus.ensures,
    )
