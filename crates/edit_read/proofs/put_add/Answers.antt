use Rattle.std.proofs.Common.{◌∙◌, w64, arith}
use mir.Facts.{to_z-of_z}
use Rattle.edit_read.proofs.Filling.{add_keyed, add_starts, to_text, add_put}
use Rattle.edit_read.proofs.put_add.Goals as goal

pub overflow_add-behind_key : goal.overflow_add-behind_key
overflow_add-behind_key c = omega (arith, add_starts _ _ c.requires.2)

pub put_points-end-requires : goal.put_points-end-requires
put_points-end-requires c = (c.requires.1, to_text _ _ (add_keyed _ _ c.requires.2) c.requires.2)

pub returns : goal.returns
returns c = add_put _ _ _ _ _ _ (add_keyed _ _ c.requires.2) c.put_points-end.ensures (c.put_record.ensures ∙ rw (to_z-of_z {w = w64} {z = c.plain_number.result} (record { sfits = c.plain_number.type_inv }) ∙ c.plain_number.ensures, to_z-of_z {w = w64} {z = c.plain_number-2.result} (record { sfits = c.plain_number-2.type_inv }) ∙ c.plain_number-2.ensures))
