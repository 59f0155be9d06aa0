-- Shown: `put_part` puts a keep or a drop and its one token.
-- How: by what it calls.
use native.Mathlib.Omega.{arith}
use mathlib.Core.Path.{refl, ◌∙◌}
use Rattle.edit_list.proofs.Writing.{part_small}
use Rattle.edit_list.proofs.RawRooms.put_part.Goals as goal

pub overflow_cast-token : goal.overflow_cast-token
overflow_cast-token c = record { fits = omega (arith, part_small c.requires.small) }

pub returns-clause-run : goal.returns-clause-run
returns-clause-run c = record { in_raw = c.put_token.ensures.raw ∙ c.put.ensures.stands; tokens = c.put_token.ensures.tokens; after = refl }
