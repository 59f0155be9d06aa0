use mathlib.Core.Path.{refl, ◌∙◌}
use Rattle.edit_list.proofs.Writing.{going_begins, going_fits, going_on, going_ends, lent_to}
use Rattle.edit_list.proofs.RawRooms.fill.Goals as goal

pub items-init : goal.items-init
items-init c = ((refl, refl, refl), going_begins _ _ _ _ _ _ _ _ c.requires.1)

pub put_item-tokens-requires : goal.put_item-tokens-requires
put_item-tokens-requires c = (lent_to _ c.requires.0 c.items-test.true, going_fits c.items.invariant.1 c.items-test.true)

pub items-preserved : goal.items-preserved
items-preserved c =
    let i = c.items.invariant in
    let t = c.put_item-tokens.ensures in
    ((t.same.0 ∙ i.0.0, t.same.1 ∙ i.0.1, t.same.2 ∙ i.0.2), going_on i.1 c.items-test.true t.run)

pub returns-clause-filled : goal.returns-clause-filled
returns-clause-filled c = going_ends c.items.invariant.1 c.items-test.false
