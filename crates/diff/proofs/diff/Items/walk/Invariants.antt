-- `walk` finds where the numbers lead, or the first that asks too much. Its turns are those of Walking (Turns).
use Rattle.std.proofs.Common.{length}
use Rattle.diff.proofs.Loops.{Over}
use Rattle.diff.proofs.Turns.{Walking}
use Rattle.diff.proofs.diff.Items.walk.Given as goal

abbrev pub invariant-items : goal.invariant-items
invariant-items l = Over l.self.numbers.now (length l.self.text.now) (λ i. Walking l.self.numbers.now l.self.text.now l.len i l.position l.kept) l.item-iterator
