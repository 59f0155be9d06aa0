-- `put_text` puts what an operation gives to the text.
-- By its kind, each way a law of Parts.
use Rattle.written_lists.proofs.Parts.{gives_none, asks_words, gives_words}
use Rattle.written_lists.proofs.put_text.Goals as goal

pub returns-then-o-eq-DELETE : goal.returns-then-o-eq-DELETE
returns-then-o-eq-DELETE c = gives_none _ _ _ _ c.if-o-eq-DELETE.true

pub put_words-requires : goal.put_words-requires
put_words-requires c = (c.requires.0, asks_words _ _ c.args.out.now _ c.if-o-eq-DELETE.false c.requires.1)

pub returns-else-o-eq-DELETE : goal.returns-else-o-eq-DELETE
returns-else-o-eq-DELETE c = gives_words _ _ _ _ c.if-o-eq-DELETE.false c.put_words.ensures
