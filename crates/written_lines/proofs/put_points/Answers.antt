use Rattle.std.proofs.lemmas.List.{nil_from_length}
use Rattle.written_lines.proofs.Emitting.{no_points, first_in, further_in, all_points_lem, points_long}
use Rattle.written_lines.proofs.put_points.Goals as goal

pub put_hex-next-requires : goal.put_hex-next-requires
put_hex-next-requires c = first_in _ c.in-Some.rest.now _ _ (rw c.in-Some.ensures.cases.0 at c.requires)

pub put_further-requires : goal.put_further-requires
put_further-requires c = further_in _ c.in-Some.rest.now _ _ (rw c.in-Some.ensures.cases.0 at c.requires) c.put_hex-next.ensures

pub shape_of-out : goal.shape_of-out
shape_of-out c = points_long _ c.in-Some.rest.now _ _ (rw c.in-Some.ensures.cases.0 at c.requires) c.put_hex-next.ensures c.put_further.ensures

pub returns-in-Some : goal.returns-in-Some
returns-in-Some c = rw c.in-Some.ensures.cases.0
    (all_points_lem _ c.in-Some.rest.now _ _ (rw c.in-Some.ensures.cases.0 at c.requires) c.put_hex-next.ensures c.put_further.ensures)

pub returns-in-None : goal.returns-in-None
returns-in-None c = rw (nil_from_length _ c.in-None.ensures.cases) (no_points _ _)
