-- Shown: `put_token` puts a token at its place of the two rooms.
-- How: its numbers are runs of two and of one.
use Rattle.edit_list.proofs.Writing.{token_put}
use Rattle.edit_list.proofs.RawRooms.put_token.Goals as goal

pub returns-clause-tokens : goal.returns-clause-tokens
returns-clause-tokens c = token_put (record { start = c.args.token.start; length = c.args.token.length; key = c.args.token.key; joins = 3 }) c.put.ensures.stands c.put-2.ensures.stands
