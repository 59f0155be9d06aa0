-- `append` puts the tokens of a raw operation into their rooms.
-- The parts that are copied are the tokens' numbers, by Pieces.
use Rattle.raw_lists.proofs.Pieces.{spans_part, keys_part, joins_part}
use mathlib.Core.Path.{◌∙◌}
use Rattle.elongate.proofs.append.Goals as goal

pub returns : goal.returns
returns c = record {
  in_spans = c.put_short.ensures.stands ∙ rw
      (spans_part c.args.lent.tokens.spans.now c.args.lent.tokens.keys.now c.args.lent.joins.now c.args.r.first c.args.r.count
      c.requires.lent);
  in_keys = c.put_short-2.ensures.stands ∙ rw (keys_part c.args.lent.tokens.spans.now c.args.lent.tokens.keys.now
      c.args.lent.joins.now c.args.r.first c.args.r.count c.requires.lent);
  in_joins = c.put_short-3.ensures.stands ∙ rw
      (joins_part c.args.lent.tokens.spans.now c.args.lent.tokens.keys.now c.args.lent.joins.now c.args.r.first c.args.r.count
      c.requires.lent);
}
