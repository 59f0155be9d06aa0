-- `run` makes all turns of the merge: the rooms hold what the definition gives.
-- The loop's invariant is Going, kept by each turn; its measure is the work that is left of both lists.
use Prim.Native.Nat.{◌+◌}
use Rattle.merging.specs.Merge.{work}
use Rattle.turns.specs.Looking.{ahead_of}
use Rattle.merge.proofs.Running.{frame, Going}
use Rattle.merge.proofs.run.Given as goal

abbrev pub invariant-turns : goal.invariant-turns
invariant-turns l =
    Going (frame l.lent.original.now l.lent.text.now l.lent.tokens.spans.now l.lent.tokens.keys.now l.left.operations.now l.right.operations.now l.left.cursors.now l.right.cursors.now l.priority l.mid l.half l.initial.work l.initial.out l.initial.moved) l.work l.out l.moved l.left_side l.right_side l.totals

abbrev pub decreases-turns : goal.decreases-turns
decreases-turns l =
    work (ahead_of l.left.operations.now l.left_side.ahead) + work (ahead_of l.right.operations.now l.right_side.ahead)
