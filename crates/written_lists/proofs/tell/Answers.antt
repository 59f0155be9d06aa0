-- `tell` puts an operation's span and its words.
-- The span tells where the words were put, by Parts.
use Rattle.written_lists.proofs.Parts.{tells}
use Rattle.written_lists.proofs.tell.Goals as goal

pub returns : goal.returns
returns c = tells _ _ _ _ _ _ c.requires.0 c.put_words-next.ensures c.side_of.ensures c.put.ensures.stands
