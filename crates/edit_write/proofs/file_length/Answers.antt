-- Shown: `file_length` answers the length of the file, capped.
-- How: each way through it is a law of proofs/Counting.antt.
use Rattle.edit_write.proofs.Counting.{file_sum}
use native.Mathlib.Omega.{arith}
use Rattle.edit_write.proofs.file_length.Goals as goal

pub plus-b-requires : goal.plus-b-requires
plus-b-requires c = omega (arith, c.plus-a.ensures)

pub plus-c-requires : goal.plus-c-requires
plus-c-requires c = omega (arith, c.plus-b.ensures)

pub plus-d-requires : goal.plus-d-requires
plus-d-requires c = omega (arith, c.plus-c.ensures)

pub plus-requires : goal.plus-requires
plus-requires c = omega (arith, c.plus-d.ensures)

pub returns : goal.returns
returns c = λ t e. file_sum _ t _ _ c.count-count.ensures c.line_length.ensures c.plus-a.ensures c.line_length-2.ensures c.plus-b.ensures c.line_length-3.ensures c.plus-c.ensures e c.plus-d.ensures c.line_length-4.ensures c.plus.ensures
