use Rattle.std.proofs.Common.{arith, sym, rules}
use Rattle.overlap.proofs.Overlaps.{of_none}
use Rattle.overlap.proofs.Turns.{falling, fallen, scanned_miss, scanned_out}
use Rattle.overlap.proofs.find_longest_prefix_contained_within.scan.Goals as goal

pub returns-then-is_empty : goal.returns-then-is_empty
returns-then-is_empty c = sym (of_none _ _ (search rules))

pub fall-init : goal.fall-init
fall-init c = falling c.scan.invariant

pub scan-preserved : goal.scan-preserved
scan-preserved c = scanned_miss c.fall.invariant (omega arith) c.if-key-new.false c.if-matched-eq0.true

pub fall-preserved : goal.fall-preserved
fall-preserved c = fallen c.fall.invariant c.requires.table c.if-matched-eq0.false c.if-key-new.false

pub returns-after-scan : goal.returns-after-scan
returns-after-scan c = scanned_out c.scan.invariant (omega arith)
