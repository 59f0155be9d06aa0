-- The bench sheets hold, with a work room just as long as asked: one statement over the paper's table.
-- By computation of the definition. Assumes nothing.
use mathlib.Core.Path.{◌≡◌, refl}
use mathlib.Core.List.{map}
use lib.ListN.{length}
use Rattle.overlap.specs.Overlap.{first, longest, overlap_of, answer_of}
use Rattle.overlap.specs.Sheets.{Sheet, old, sheets}

pub sheets_hold : map (λ (s : Sheet). answer_of old s.new (length s.new)) sheets ≡ map (λ (s : Sheet). s.gives) sheets
unfolding first longest overlap_of answer_of
sheets_hold = refl
