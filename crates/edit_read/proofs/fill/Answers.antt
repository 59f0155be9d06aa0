use Rattle.edit_read.proofs.Filled.{begins, record_fits, text_fits, accepting, goes_on, items_all, text_all}
use Rattle.edit_read.proofs.fill.Goals as goal

pub items-init : goal.items-init
items-init c = begins c.requires

pub put_item-spot-requires : goal.put_item-spot-requires
put_item-spot-requires c = (record_fits c.items.invariant c.items-test.true, text_fits c.items.invariant, accepting c.items.invariant c.items-test.true)

pub items-preserved : goal.items-preserved
items-preserved c = goes_on c.items.invariant c.items-test.true c.put_item-spot.ensures

pub returns : goal.returns
returns c = (items_all c.items.invariant c.items-test.false, text_all c.items.invariant c.items-test.false)
