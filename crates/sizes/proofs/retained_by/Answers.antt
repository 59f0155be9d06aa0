-- `retained_by` gives what an operation retains.
-- By its kind.
use borrow.Author.Tests.{eq-eqb, ne_eqb}
use Rattle.sizes.proofs.retained_by.Goals as goal

pub returns-then-o-eq-RETAIN : goal.returns-then-o-eq-RETAIN
returns-then-o-eq-RETAIN c = rw (eq-eqb _ _ c.if-o-eq-RETAIN.true)

pub returns-else-o-eq-RETAIN : goal.returns-else-o-eq-RETAIN
returns-else-o-eq-RETAIN c = rw (ne_eqb _ _ c.if-o-eq-RETAIN.false)
