-- Shown: `put_pair` meets its contract.
-- How: two stores, one law of proofs/Emitting.antt.
use Rattle.written_lines.proofs.Emitting.{pair_put}
use lib.ListN.{length-set}
use native.Mathlib.Omega.{arith}
use Rattle.written_lines.proofs.put_pair.Goals as goal

pub bounds-out-at-2 : goal.bounds-out-at-2
bounds-out-at-2 c = simp length-set (omega arith)

pub shape_of-out : goal.shape_of-out
shape_of-out c = simp length-set

pub returns : goal.returns
returns c = rw (c.hex_byte.ensures, c.hex_byte-2.ensures) (pair_put _ _ _ c.requires)
