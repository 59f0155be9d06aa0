use Rattle.room.proofs.Copying.{Copying, begins, goes_on, ends}
use Rattle.std.proofs.Common.{refl, arith, sym, subst, set, ◌+◌}
use Rattle.room.proofs.put_short.Goals as goal

pub put-init : goal.put-init
put-init g c = begins _ _ _

pub put-preserved : goal.put-preserved
put-preserved g c =
    subst (λ x. Copying c.args.src.now c.args.out.now c.args.at (set c.put.out (c.args.at + c.put.i) x) (c.put.i + 1)) (sym c.index-src-i.is)
    (goes_on c.index-src-i.result c.put.invariant c.requires c.put-test.true)

pub returns : goal.returns
returns g c = record { next = refl; stands = (ends c.put.invariant (omega (arith, c.put.invariant.most))).stands }
