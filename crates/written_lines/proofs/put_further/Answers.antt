use native.Mathlib.Omega.{arith}
use Rattle.written_lines.proofs.Emitting.{points_begin, space_in, point_in, points_more, points_end}
use Rattle.written_lines.proofs.put_further.Goals as goal

pub points-init : goal.points-init
points-init c = points_begin _ _ _

pub bounds-out-next : goal.bounds-out-next
bounds-out-next c = space_in c.points.invariant c.requires (omega arith)

pub overflow_add-next : goal.overflow_add-next
overflow_add-next c = omega (arith, space_in c.points.invariant c.requires (omega arith))

pub put_hex-next-requires : goal.put_hex-next-requires
put_hex-next-requires c = point_in c.points.invariant c.requires (omega arith)

pub points-preserved : goal.points-preserved
points-preserved c = points_more c.points.invariant c.requires (omega arith) c.put_hex-next.ensures

pub shape_of-out : goal.shape_of-out
shape_of-out c = c.points.invariant.same

pub returns : goal.returns
returns c = points_end c.points.invariant c.requires (omega arith)
