-- `apply_with_all` answers and leaves its rooms as the definition says.
-- Each way is a law of AllWays.
use Rattle.apply.proofs.AllWays.{all_stops, all_no_room, all_no_history, all_asks, all_sorts, all_writes}
use Rattle.merging.specs.Lent.{lent_in}
use Rattle.records.specs.Cursors.{cursors_of}
use Rattle.records.specs.Operations.{operations_of}
use Rattle.std.proofs.lemmas.Result.{err_from_is_err_and}
use Rattle.apply.proofs.apply_with_all.Goals as goal

pub returns-in_err-lengths : goal.returns-in_err-lengths
returns-in_err-lengths c = let p = err_from_is_err_and c.from_residual.result c.from_residual.ensures.1 in
    rw (p.1, p.2) (all_stops _ _ _ _ _ _ _ _ c.in_err-lengths.ensures)

pub returns-then-not-rooms_fit : goal.returns-then-not-rooms_fit
returns-then-not-rooms_fit c = let L = lent_in c.args.lent in
    let os = operations_of c.args.list.operations.now in
    let cs = cursors_of c.args.list.cursors.now in
    all_no_room L os cs c.args.out.now c.args.moved.now c.args.history.now c.args.history_text.now _ c.in_ok-lengths.ensures _ c.rooms_fit.ensures c.if-not-rooms_fit.true

pub returns-then-not-rooms_fit-2 : goal.returns-then-not-rooms_fit-2
returns-then-not-rooms_fit-2 c = let L = lent_in c.args.lent in
    let os = operations_of c.args.list.operations.now in
    let cs = cursors_of c.args.list.cursors.now in
    all_no_history L os cs c.args.out.now c.args.moved.now c.args.history.now c.args.history_text.now _ c.in_ok-lengths.ensures _ c.rooms_fit.ensures c.if-not-rooms_fit.false _
    c.rooms_fit-2.ensures c.if-not-rooms_fit-2.true

pub write_all-requires : goal.write_all-requires
write_all-requires c = let L = lent_in c.args.lent in
    let os = operations_of c.args.list.operations.now in
    let cs = cursors_of c.args.list.cursors.now in
    all_asks L os cs c.args.out.now c.args.moved.now c.args.history.now c.args.history_text.now _ c.in_ok-lengths.ensures _ c.rooms_fit.ensures c.if-not-rooms_fit.false _
    c.rooms_fit-2.ensures c.if-not-rooms_fit-2.false

pub sort_cursors-requires : goal.sort_cursors-requires
sort_cursors-requires c = let L = lent_in c.args.lent in
    let os = operations_of c.args.list.operations.now in
    let cs = cursors_of c.args.list.cursors.now in
    all_sorts L os cs c.args.out.now c.args.moved.now c.args.history.now c.args.history_text.now _ c.in_ok-lengths.ensures _ c.rooms_fit.ensures c.if-not-rooms_fit.false _
    c.rooms_fit-2.ensures c.if-not-rooms_fit-2.false

pub returns : goal.returns
returns c = let L = lent_in c.args.lent in
    let os = operations_of c.args.list.operations.now in
    let cs = cursors_of c.args.list.cursors.now in
    all_writes L os cs c.args.out.now c.args.moved.now c.args.history.now c.args.history_text.now _ c.in_ok-lengths.ensures _ c.rooms_fit.ensures c.if-not-rooms_fit.false _
    c.rooms_fit-2.ensures c.if-not-rooms_fit-2.false c.write_all.ensures c.sort_cursors.ensures
