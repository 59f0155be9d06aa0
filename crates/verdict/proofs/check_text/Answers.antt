-- `check_text` gives refusal 4 of a text.
-- By how far its numbers are code points (Points).
use Rattle.verdict.proofs.Points.{accepts, refuses}
use Rattle.verdict.proofs.check_text.Goals as goal

pub returns-then-bad-text : goal.returns-then-bad-text
returns-then-bad-text c = refuses _ _ c.scalars_of-bad.ensures c.if-bad-text.true

pub returns : goal.returns
returns c = accepts _ _ c.scalars_of-bad.ensures c.if-bad-text.false
