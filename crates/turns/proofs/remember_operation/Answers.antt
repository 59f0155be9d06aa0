-- Shown: what is remembered after `remember_operation` is `remember_of`.
-- How: by the kind of the result; an insert's is a law of Memories.antt.
use Rattle.turns.proofs.Memories.{remembers_insert}
use Rattle.turns.proofs.remember_operation.Goals as goal

pub returns-in-Insert : goal.returns-in-Insert
returns-in-Insert c = rw c.in-Insert.is (remembers_insert _ _ _ _ c.args.memory _ _ _ _ _ c.requires.began c.remember_tokens.ensures c.kept_from.ensures)
