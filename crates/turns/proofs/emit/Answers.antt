-- Shown: `emit` grows the room by what the definition emits.
-- How: each way through its test is a law of Emitted.antt.
use Rattle.turns.proofs.Emitted.{emit_fits, emits_none, emits_one}
use mathlib.Core.Path.{sym, ◌∙◌}
use Rattle.turns.proofs.emit.Goals as goal

pub returns-then-is_empty : goal.returns-then-is_empty
returns-then-is_empty c = emits_none _ _ _ _ _ _ (sym c.is_empty.ensures ∙ c.if-is_empty.true)

pub put_operation-requires : goal.put_operation-requires
put_operation-requires c = emit_fits _ _ c.args.res _ _ (sym c.is_empty.ensures ∙ c.if-is_empty.false) c.requires

pub returns : goal.returns
returns c = emits_one _ _ _ _ _ _ _ c.record_of.result (sym c.is_empty.ensures ∙ c.if-is_empty.false) c.requires c.record_of.ensures c.put_operation.ensures
