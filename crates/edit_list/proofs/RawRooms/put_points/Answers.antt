use native.Mathlib.Omega.{arith}
use mathlib.Core.Path.{refl, ◌∙◌}
use Rattle.edit_list.proofs.Writing.{points_begin, next_fits, points_on, points_end, part_count, part_point}
use Rattle.edit_list.proofs.RawRooms.put_points.Goals as goal

pub points-init : goal.points-init
points-init c = ((refl, refl, refl), refl, points_begin _ _ _ _ _ _ c.requires)

pub overflow_add-at : goal.overflow_add-at
overflow_add-at c = record { fits = omega (arith, (next_fits c.requires.within c.points.invariant.2 (rw (part_count _ _ _ c.requires.within) at c.points-test.true)).1) }

pub overflow_cast-token : goal.overflow_cast-token
overflow_cast-token c = record { fits = omega (arith, c.requires.within, c.requires.most, part_count _ _ _ c.requires.within) }

pub put_token-requires : goal.put_token-requires
put_token-requires c = next_fits c.requires.within c.points.invariant.2 (rw (part_count _ _ _ c.requires.within) at c.points-test.true)

pub points-preserved : goal.points-preserved
points-preserved c =
    let i = c.points.invariant in
    let t = c.put_token.ensures in
    let l = rw (part_count _ _ _ c.requires.within) at c.points-test.true in
    ((t.same.0 ∙ i.0.0, t.same.1 ∙ i.0.1, t.same.2 ∙ i.0.2), t.raw ∙ i.1, points_on c.requires.within i.2 l (part_point _ _ _ _ l) t.tokens)

pub returns-clause-tokens : goal.returns-clause-tokens
returns-clause-tokens c = points_end c.requires.within c.points.invariant.2 (rw (part_count _ _ _ c.requires.within) at c.points-test.false)
