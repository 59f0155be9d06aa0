-- Shown: `put_dropped` puts a delete's item.
-- How: its three numbers are the item's record.
use Rattle.edit_format.specs.Records.{record_of}
use mir.Facts.{to_z-of_z}
use mir.Syntax.{w64}
use mathlib.Core.Path.{◌∙◌}
use Rattle.to_diff.proofs.put_dropped.Goals as goal

pub returns : goal.returns
unfolding record_of
returns c = c.put_record.ensures ∙ rw (to_z-of_z {w = w64} {z = c.dropped_number.result} (record { sfits = c.dropped_number.type_inv }) ∙ c.dropped_number.ensures)
