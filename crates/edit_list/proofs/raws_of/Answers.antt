-- Shown: `raws_of` makes a file's raw list.
-- How: by what it calls, and the laws of proofs/Making.antt.
use native.Mathlib.Omega.{arith}
use Rattle.edit_list.proofs.Making.{fill_lent, fill_fits, fill_makes}
use Rattle.edit_list.proofs.raws_of.Goals as goal

pub read_at-sizes-requires : goal.read_at-sizes-requires
read_at-sizes-requires c = record { accepted = c.requires.accepted; short = c.requires.short; text_fits = c.requires.text_fits; items_fit = omega arith }

pub fill-tokens-requires : goal.fill-tokens-requires
fill-tokens-requires c = (fill_lent c.requires c.read_at-sizes.ensures, fill_fits c.requires c.read_at-sizes.ensures)

pub returns-clause-made : goal.returns-clause-made
returns-clause-made c = fill_makes c.requires c.read_at-sizes.ensures c.fill-tokens.ensures.filled
