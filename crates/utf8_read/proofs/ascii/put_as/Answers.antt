use Rattle.std.proofs.Common.{arith, refl}
use Rattle.utf8_read.proofs.Runs.{filled_none, filled_more, filled_all}
use Rattle.utf8_read.proofs.ascii.put_as.Goals as goal

pub put-init : goal.put-init
put-init g c = filled_none _ _ _ _

pub put-preserved : goal.put-preserved
put-preserved g c = filled_more c.put.invariant c.requires.fits c.put-test.true _ _ c.index-src-i.is c.f.ensures

pub returns : goal.returns
returns g c = filled_all c.put.invariant (omega arith) refl
