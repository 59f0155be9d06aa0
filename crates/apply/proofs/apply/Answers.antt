-- `apply` answers and leaves its rooms as the definition says.
-- Each way is a law of ApplyWays.
use Rattle.apply.proofs.ApplyWays.{apply_stops, apply_no_room, apply_asks, apply_sorts, apply_writes}
use Rattle.merging.specs.Lent.{lent_in}
use Rattle.records.specs.Cursors.{cursors_of}
use Rattle.records.specs.Operations.{operations_of}
use Rattle.std.proofs.lemmas.Result.{err_from_is_err_and}
use Rattle.apply.proofs.apply.Goals as goal

pub returns-in_err-lengths : goal.returns-in_err-lengths
returns-in_err-lengths c = let p = err_from_is_err_and c.from_residual.result c.from_residual.ensures.1 in
    rw (p.1, p.2) (apply_stops _ _ _ _ _ _ c.in_err-lengths.ensures)

pub returns-then-not-rooms_fit : goal.returns-then-not-rooms_fit
returns-then-not-rooms_fit c = let L = lent_in c.args.lent in
    let os = operations_of c.args.list.operations.now in
    let cs = cursors_of c.args.list.cursors.now in
    apply_no_room L os cs c.args.out.now c.args.moved.now _ c.in_ok-lengths.ensures _ c.rooms_fit.ensures c.if-not-rooms_fit.true

pub write_text-requires : goal.write_text-requires
write_text-requires c = let L = lent_in c.args.lent in
    let os = operations_of c.args.list.operations.now in
    let cs = cursors_of c.args.list.cursors.now in
    apply_asks L os cs c.args.out.now c.args.moved.now _ c.in_ok-lengths.ensures _ c.rooms_fit.ensures c.if-not-rooms_fit.false

pub sort_cursors-requires : goal.sort_cursors-requires
sort_cursors-requires c = let L = lent_in c.args.lent in
    let os = operations_of c.args.list.operations.now in
    let cs = cursors_of c.args.list.cursors.now in
    apply_sorts L os cs c.args.out.now c.args.moved.now _ c.in_ok-lengths.ensures _ c.rooms_fit.ensures c.if-not-rooms_fit.false

pub returns : goal.returns
returns c = let L = lent_in c.args.lent in
    let os = operations_of c.args.list.operations.now in
    let cs = cursors_of c.args.list.cursors.now in
    apply_writes L os cs c.args.out.now c.args.moved.now _ c.in_ok-lengths.ensures _ c.rooms_fit.ensures c.if-not-rooms_fit.false c.write_text.ensures
    c.sort_cursors.ensures
