-- `close` puts the current operation into its room.
-- By whether there is one, with the laws of Cooking.
use Rattle.elongate.proofs.Cooking.{closes_none, closes_some, closes_fits}
use Rattle.elongate.proofs.Current.close.Goals as goal

pub returns-then-self-eq0 : goal.returns-then-self-eq0
returns-then-self-eq0 c = closes_none _ _ _ c.if-self-eq0.true

pub put_operation-requires : goal.put_operation-requires
put_operation-requires c = closes_fits c.args.self c.args.at c.args.operations.now c.if-self-eq0.false c.requires

pub returns : goal.returns
returns c = closes_some _ _ _ _ c.if-self-eq0.false (closes_fits c.args.self c.args.at c.args.operations.now c.if-self-eq0.false c.requires) c.put_operation.ensures
