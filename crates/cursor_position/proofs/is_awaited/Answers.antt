-- Shown: `is_awaited` answers `waits`.
-- How: each way through it is a law of proofs/Waiting.antt.
use Rattle.cursor_position.proofs.Waiting.{waits_first, waits_none}
use borrow.Author.Tests.{le-ltb}
use mathlib.Core.Path.{◌∙◌}
use Rattle.cursor_position.proofs.is_awaited.Goals as goal

pub returns-then-p-count : goal.returns-then-p-count
returns-then-p-count c = waits_first _ _ c.args.p c.at.result (rw c.count.ensures at c.if-p-count.true) c.at.ensures

pub returns-else-p-count : goal.returns-else-p-count
returns-else-p-count c =
    let l = rw c.count.ensures at c.if-p-count.false in
    rw c.count.ensures (le-ltb _ _ l ∙ waits_none _ _ c.args.p l)
