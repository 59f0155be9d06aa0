-- Shown: `put_hex` meets its contract.
-- How: as `put_four`, twice.
use Rattle.written_lines.proofs.Emitting.{front_in, pair_in, hex_put}
use native.Mathlib.Omega.{arith}
use Rattle.written_lines.proofs.put_hex.Goals as goal

pub put_four-front-requires : goal.put_four-front-requires
put_four-front-requires c = (omega (arith, c.ranges.c), front_in _ (omega arith) _ _ (front_in _ (omega arith) _ _ c.requires))

pub put_pair-middle-requires : goal.put_pair-middle-requires
put_pair-middle-requires c = pair_in _ (omega arith) (front_in c.args.c (omega arith) _ _ c.requires) c.put_four-front.ensures

pub put_pair-requires : goal.put_pair-requires
put_pair-requires c = pair_in _ (omega arith) c.requires (hex_put _ (omega arith) (front_in _ (omega arith) _ _ c.requires) c.put_four-front.ensures c.put_pair-middle.ensures)

pub returns : goal.returns
returns c = hex_put _ (omega arith) c.requires
    (hex_put _ (omega arith) (front_in _ (omega arith) _ _ c.requires) c.put_four-front.ensures c.put_pair-middle.ensures) c.put_pair.ensures
