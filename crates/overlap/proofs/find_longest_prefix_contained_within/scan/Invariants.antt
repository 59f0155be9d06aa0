-- `scan` answers the overlap. Each loop's invariant is a record of Turns, and each way through a turn one law there.
use Rattle.overlap.proofs.Turns.{Scanned, Falling}
use Rattle.overlap.proofs.find_longest_prefix_contained_within.scan.Given as goal

abbrev pub invariant-fall : goal.invariant-fall
invariant-fall l = Falling l.old l.new l.start l.end l.matched l.i

abbrev pub decreases-fall : goal.decreases-fall
decreases-fall l = l.matched

abbrev pub invariant-scan : goal.invariant-scan
invariant-scan l = Scanned l.old l.new l.start l.end l.matched l.i
