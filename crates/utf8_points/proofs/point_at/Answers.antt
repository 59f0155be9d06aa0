-- `point_at` gives the number and the length of the good sequence at a place.
-- The first byte says the length; the leaf functions give the number.
use mathlib.Core.Path.{sym, ◌∙◌}
use native.Mathlib.Omega.{arith}
use Rattle.utf8_read.proofs.Sequences.{value_1, value_2, value_3, value_4}
use Rattle.utf8_points.proofs.Pointing.{known_1, known_2, known_3, known_4, pointed}
use Rattle.utf8_points.proofs.point_at.Goals as goal

pub returns-then-a-lt128 : goal.returns-then-a-lt128
returns-then-a-lt128 c = let k = known_1 _ _ c.requires.0 c.requires.1 c.if-a-lt128.true in
    pointed _ k (c.from-code.ensures ∙ sym (value_1 _ _ k.ends))

pub bounds-bytes-at-then-a-lt224 : goal.bounds-bytes-at-then-a-lt224
bounds-bytes-at-then-a-lt224 c = omega (arith, known_2 _ _ c.requires.0 c.requires.1 c.if-a-lt128.false c.if-a-lt224.true)

pub returns-then-a-lt224 : goal.returns-then-a-lt224
returns-then-a-lt224 c = let k = known_2 _ _ c.requires.0 c.requires.1 c.if-a-lt128.false c.if-a-lt224.true in
    pointed _ k (c.two_of-code.ensures ∙ sym (value_2 _ _ k.ends))

pub bounds-bytes-at-then-a-lt240 : goal.bounds-bytes-at-then-a-lt240
bounds-bytes-at-then-a-lt240 c = omega (arith, known_3 _ _ c.requires.0 c.requires.1 c.if-a-lt224.false c.if-a-lt240.true)

pub bounds-bytes-at-then-a-lt240-2 : goal.bounds-bytes-at-then-a-lt240-2
bounds-bytes-at-then-a-lt240-2 c = omega (arith, known_3 _ _ c.requires.0 c.requires.1 c.if-a-lt224.false c.if-a-lt240.true)

pub returns-then-a-lt240 : goal.returns-then-a-lt240
returns-then-a-lt240 c = let k = known_3 _ _ c.requires.0 c.requires.1 c.if-a-lt224.false c.if-a-lt240.true in
    pointed _ k (c.three_of-code.ensures ∙ sym (value_3 _ _ k.ends))

pub bounds-bytes-at-2 : goal.bounds-bytes-at-2
bounds-bytes-at-2 c = omega (arith, known_4 _ _ c.requires.0 c.requires.1 c.if-a-lt240.false)

pub bounds-bytes-at-3 : goal.bounds-bytes-at-3
bounds-bytes-at-3 c = omega (arith, known_4 _ _ c.requires.0 c.requires.1 c.if-a-lt240.false)

pub bounds-bytes-at-4 : goal.bounds-bytes-at-4
bounds-bytes-at-4 c = omega (arith, known_4 _ _ c.requires.0 c.requires.1 c.if-a-lt240.false)

pub returns : goal.returns
returns c = let k = known_4 _ _ c.requires.0 c.requires.1 c.if-a-lt240.false in
    pointed _ k (c.four_of-code.ensures ∙ sym (value_4 _ _ k.ends))
