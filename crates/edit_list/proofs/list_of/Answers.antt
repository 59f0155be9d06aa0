-- Shown: `list_of` makes an accepted file's list.
-- How: by what it calls, and the laws of proofs/Raising.antt.
use native.Mathlib.Omega.{arith}
use mathlib.Core.Path.{refl}
use Rattle.edit_list.proofs.Raising.{end_most, end_length, elongable, lists}
use Rattle.edit_list.proofs.list_of.Goals as goal

pub raws_of-made-requires : goal.raws_of-made-requires
raws_of-made-requires c = record { accepted = c.requires.accepted; short = c.requires.short; text_fits = c.requires.text_fits; most = c.requires.most; in_raw = omega arith; in_spans = omega arith; in_keys = omega arith }

pub overflow_mul-end : goal.overflow_mul-end
overflow_mul-end c = record { fits = omega (arith, end_most c.requires refl refl refl c.raws_of-made.ensures.made) }

pub slice_bounds-elongate_at-end : goal.slice_bounds-elongate_at-end
slice_bounds-elongate_at-end c = end_length c.requires refl refl refl c.raws_of-made.ensures.made

pub elongate_at-written-requires : goal.elongate_at-written-requires
elongate_at-written-requires c = elongable c.requires refl refl refl c.raws_of-made.ensures.made

pub returns : goal.returns
returns c = lists c.requires refl refl refl c.raws_of-made.ensures.made c.elongate_at-written.ensures
