-- Shown: `put_insert` puts an insert's text and its item.
-- How: the item's length is that of the text put before it.
use mir.Syntax.{w64}
use mir.Facts.{to_z-of_z}
use Rattle.to_diff.proofs.Putting.{inserted}
use mathlib.Core.Path.{◌∙◌}
use Rattle.to_diff.proofs.put_insert.Goals as goal

pub returns : goal.returns
returns c = inserted _ _ _ _ _ _ _ _ c.put_tokens-end.ensures
    (c.put_record.ensures ∙ rw (
      to_z-of_z {w = w64} {z = c.plain_number.result} (record { sfits = c.plain_number.type_inv }) ∙ c.plain_number.ensures,
      to_z-of_z
          {w = w64} {z = c.plain_number-2.result} (record { sfits = c.plain_number-2.type_inv }) ∙ c.plain_number-2.ensures,
    ))
