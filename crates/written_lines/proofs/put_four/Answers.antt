-- Shown: `put_four` meets its contract.
-- How: the digits of a number are those of its 256th and the last two (proofs/Emitting.antt).
use Rattle.written_lines.proofs.Emitting.{front_in, pair_in, hex_put}
use native.Mathlib.Omega.{arith}
use Rattle.written_lines.proofs.put_four.Goals as goal

pub put_two-front-requires : goal.put_two-front-requires
put_two-front-requires c = (omega arith, front_in _ c.if-c-lt256.false _ _ c.requires.1)

pub put_pair-requires : goal.put_pair-requires
put_pair-requires c = pair_in _ c.if-c-lt256.false c.requires.1 c.put_two-front.ensures

pub returns : goal.returns
returns c = hex_put _ c.if-c-lt256.false c.requires.1 c.put_two-front.ensures c.put_pair.ensures
