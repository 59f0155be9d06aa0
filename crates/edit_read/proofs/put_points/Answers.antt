use Rattle.std.proofs.Common.{Some, sym, ap, ◌∙◌, arith}
use Rattle.edit_read.proofs.Filling.{starts, stands, has_room, goes_on, ends}
use Rattle.edit_read.proofs.put_points.Goals as goal

pub points-init : goal.points-init
points-init c = starts _ _ _ _ c.requires.0

pub judged_at-requires : goal.judged_at-requires
judged_at-requires c = stands c.points.invariant c.requires.1

pub bounds-text-start : goal.bounds-text-start
bounds-text-start c = has_room c.points.invariant c.requires.1

pub points-smaller : goal.points-smaller
points-smaller c = omega (arith, has_room c.points.invariant c.requires.1, c.points.invariant.same)

pub points-preserved : goal.points-preserved
points-preserved c = goes_on c.points.invariant (has_room c.points.invariant c.requires.1) (sym c.judged_at.ensures ∙ ap Some c.in-More.is)

pub bounds-text-start-in-Last : goal.bounds-text-start-in-Last
bounds-text-start-in-Last c = has_room c.points.invariant c.requires.1

pub returns-in-Last : goal.returns-in-Last
returns-in-Last c = ends c.points.invariant (has_room c.points.invariant c.requires.1) (sym c.judged_at.ensures ∙ ap Some c.in-Last.is)
