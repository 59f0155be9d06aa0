use Rattle.std.proofs.Common.{arith}
use Rattle.overlap.proofs.Endings.{begin, fall, hit, miss}
use Rattle.overlap.proofs.Turns.{filling_more}
use Rattle.overlap.proofs.find_longest_prefix_contained_within.fill.Goals as goal
use Rattle.overlap.proofs.find_longest_prefix_contained_within.fill.Goals.{then-key-new, else-key-new+then-matched-eq0}

pub fall-init : goal.fall-init
fall-init c = begin c.fill.invariant.best (omega arith) (omega arith)

pub fall-preserved : goal.fall-preserved
fall-preserved c = fall c.fall.invariant c.if-key-new.false (c.fill.invariant.right.at c.fall.matched (omega arith) (omega arith))

pub fill-preserved : goal.fill-preserved
fill-preserved c = filling_more c.if-key-new.matched c.fill.invariant c.fill-test.true
    (elim c.if-key-new.branch [
      | then-key-new w ↦ rw w.matched-is (hit c.fall.invariant w.if-key-new.true)
      | else-key-new+then-matched-eq0 w ↦ rw w.matched-is (miss c.fall.invariant w.if-matched-eq0.true w.if-key-new.false)
    ])
