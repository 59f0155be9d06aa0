-- Shown: `put_line` meets its contract.
-- How: each way through it is a law of proofs/Counting.antt and proofs/Emitting.antt.
use native.Mathlib.Omega.{arith}
use Rattle.written_lines.proofs.Counting.{line_length}
use Rattle.written_lines.proofs.Emitting.{put_number_line, digits_in, lf_in, line_long}
use Rattle.written_lines.proofs.put_line.Goals as goal

pub put_short-a-requires : goal.put_short-a-requires
put_short-a-requires c = omega (arith, c.requires, line_length c.args.key.now c.args.n)

pub put_decimal-b-requires : goal.put_decimal-b-requires
put_decimal-b-requires c = digits_in _ _ c.requires c.put_short-a.ensures

pub bounds-out-b : goal.bounds-out-b
bounds-out-b c = lf_in _ _ c.requires c.put_short-a.ensures c.put_decimal-b.ensures

pub overflow_add-result : goal.overflow_add-result
overflow_add-result c = omega (arith, lf_in _ _ c.requires c.put_short-a.ensures c.put_decimal-b.ensures)

pub shape_of-out : goal.shape_of-out
shape_of-out c = line_long _ _ c.requires c.put_short-a.ensures c.put_decimal-b.ensures

pub returns : goal.returns
returns c = put_number_line _ _ c.requires c.put_short-a.ensures c.put_decimal-b.ensures
