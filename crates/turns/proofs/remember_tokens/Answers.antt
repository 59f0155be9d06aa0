-- Shown: `remember_tokens` leaves the work room with the tokens' keys and lengths in it.
-- How: what its two calls ensure, by `written` of Memories.antt.
use Rattle.turns.proofs.Memories.{written}
use Rattle.turns.proofs.remember_tokens.Goals as goal

pub returns : goal.returns
returns c = written _ _ c.requires c.put_short.ensures.stands c.put_lengths.ensures
