use Rattle.std.proofs.Common.{refl, get_or, arith}
use Rattle.edit_format.specs.Reading.{keeping, dropping, kind_key, hexes}
use Rattle.edit_read.proofs.ItemLines.{kind_keep, kind_drop, kind_add}
use Rattle.edit_read.proofs.Filling.{starts_in, to_number, to_add, as_number, as_add}
use Rattle.edit_read.proofs.put_item.Goals as goal

pub bounds-bytes-from : goal.bounds-bytes-from
bounds-bytes-from c = starts_in _ _ c.requires.2

pub put_part-requires : goal.put_part-requires
unfolding hexes kind_key
put_part-requires c = (c.requires.0, to_number _ _ keeping refl refl (starts_in _ _ c.requires.2) (kind_keep _ c.in-107.is) c.requires.2)

pub returns-in-107 : goal.returns-in-107
returns-in-107 c = as_number _ _ _ _ _ _ keeping (starts_in _ _ c.requires.2) (kind_keep _ c.in-107.is) c.put_part.ensures

pub put_part-requires-in-100 : goal.put_part-requires-in-100
unfolding hexes kind_key
put_part-requires-in-100 c = (c.requires.0, to_number _ _ dropping refl refl (starts_in _ _ c.requires.2) (kind_drop _ c.in-100.is) c.requires.2)

pub returns-in-100 : goal.returns-in-100
returns-in-100 c = as_number _ _ _ _ _ _ dropping (starts_in _ _ c.requires.2) (kind_drop _ c.in-100.is) c.put_part-in-100.ensures

pub put_add-requires : goal.put_add-requires
put_add-requires c = (c.requires.0, c.requires.1, to_add _ _ (starts_in _ _ c.requires.2) (kind_add (get_or c.args.bytes.now c.args.from.next 0) (λ z. omega (arith, z)) (λ z. omega (arith, z))) c.requires.2)

pub returns-in_default : goal.returns-in_default
returns-in_default c = as_add _ _ _ _ _ _ (starts_in _ _ c.requires.2) (kind_add (get_or c.args.bytes.now c.args.from.next 0) (λ z. omega (arith, z)) (λ z. omega (arith, z))) c.put_add.ensures
