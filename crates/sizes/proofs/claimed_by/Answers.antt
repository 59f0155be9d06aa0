-- `claimed_by` gives the tokens that an operation claims.
-- By its kind.
use borrow.Author.Tests.{eq-eqb, ne_eqb}
use Rattle.sizes.proofs.claimed_by.Goals as goal

pub returns-then-o-eq-INSERT : goal.returns-then-o-eq-INSERT
returns-then-o-eq-INSERT c = rw (eq-eqb _ _ c.if-o-eq-INSERT.true)

pub returns-else-o-eq-INSERT : goal.returns-else-o-eq-INSERT
returns-else-o-eq-INSERT c = rw (ne_eqb _ _ c.if-o-eq-INSERT.false)
