-- Shown: `put_add` meets its contract.
-- How: each way through it is a law of proofs/Emitting.antt and proofs/Counting.antt.
use Rattle.written_lines.proofs.Emitting.{put_add_line, points_in, add_lf_in, add_long}
use Rattle.written_lines.proofs.Counting.{add_length}
use native.Mathlib.Omega.{arith}
use Rattle.written_lines.proofs.put_add.Goals as goal

pub put-a-requires : goal.put-a-requires
put-a-requires c = omega (arith, c.requires, add_length c.args.text.now)

pub put_points-b-requires : goal.put_points-b-requires
put_points-b-requires c = points_in c.args.text.now c.requires c.put-a.ensures

pub bounds-out-b : goal.bounds-out-b
bounds-out-b c = add_lf_in c.args.text.now c.requires c.put-a.ensures c.put_points-b.ensures

pub overflow_add-result : goal.overflow_add-result
overflow_add-result c = omega (arith, add_lf_in c.args.text.now c.requires c.put-a.ensures c.put_points-b.ensures)

pub shape_of-out : goal.shape_of-out
shape_of-out c = add_long c.args.text.now c.requires c.put-a.ensures c.put_points-b.ensures

pub returns : goal.returns
returns c = put_add_line c.args.text.now c.requires c.put-a.ensures c.put_points-b.ensures
