-- `fill` makes the table of new and leaves the room past it.
-- Each loop's invariant is a record, and each way through a turn one law of Turns and Endings.
use Rattle.overlap.proofs.Endings.{Cand}
use Rattle.overlap.proofs.Turns.{Filling}
use Rattle.overlap.proofs.find_longest_prefix_contained_within.fill.Given as goal

abbrev pub invariant-fall : goal.invariant-fall
invariant-fall l = Cand l.new l.new l.i l.i l.matched

abbrev pub decreases-fall : goal.decreases-fall
decreases-fall l = l.matched

abbrev pub invariant-fill : goal.invariant-fill
invariant-fill l = Filling l.new l.initial.table l.table l.matched l.i
