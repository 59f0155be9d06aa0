-- `put_words` puts an operation's words.
-- By its kind, each way a law of Parts.
use Rattle.written_lists.proofs.Parts.{asks_tokens, puts_tokens, asks_original, puts_original}
use Rattle.written_lists.proofs.put_words.Goals as goal

pub put_tokens-requires : goal.put_tokens-requires
put_tokens-requires c = asks_tokens _ _ _ _ c.if-o-eq-INSERT.true c.requires.0 c.requires.1

pub returns-then-o-eq-INSERT : goal.returns-then-o-eq-INSERT
returns-then-o-eq-INSERT c = puts_tokens _ _ _ _ c.if-o-eq-INSERT.true c.put_tokens.ensures

pub put_original-requires : goal.put_original-requires
put_original-requires c = asks_original _ _ c.args.out.now _ c.if-o-eq-INSERT.false c.requires.0 c.requires.1

pub returns-else-o-eq-INSERT : goal.returns-else-o-eq-INSERT
returns-else-o-eq-INSERT c = puts_original _ _ _ _ c.if-o-eq-INSERT.false c.put_original.ensures
