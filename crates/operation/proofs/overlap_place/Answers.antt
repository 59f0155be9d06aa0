-- Shown: `overlap_place` meets its contract.
-- How: each way through it is a law of proofs/Places.antt.
use Rattle.operation.proofs.Places.{place_none, placed_as, found}
use mathlib.Core.Path.{refl}
use Rattle.operation.proofs.overlap_place.Goals as goal

pub returns-then-overlap : goal.returns-then-overlap
returns-then-overlap c = placed_as (place_none _ _ _ c.if-overlap.true) refl refl

pub returns : goal.returns
returns c = found _ _ _ _ _ c.if-overlap.false c.requires.1 c.sum_of-behind.ensures c.sum_of.ensures _ c.saturating_sub.ensures refl
