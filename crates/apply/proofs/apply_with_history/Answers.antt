-- `apply_with_history` answers and leaves its rooms as the definition says.
-- Each way is a law of HistoryWays.
use Rattle.apply.proofs.HistoryWays.{history_stops, history_no_room, history_asks, history_writes}
use Rattle.merging.specs.Lent.{lent_in}
use Rattle.records.specs.Operations.{operations_of}
use Rattle.std.proofs.lemmas.Result.{err_from_is_err_and}
use Rattle.apply.proofs.apply_with_history.Goals as goal

pub returns-in_err-lengths : goal.returns-in_err-lengths
returns-in_err-lengths c = let p = err_from_is_err_and c.from_residual.result c.from_residual.ensures.1 in
    rw (p.1, p.2) (history_stops _ _ _ _ _ c.in_err-lengths.ensures)

pub returns-then-not-rooms_fit : goal.returns-then-not-rooms_fit
returns-then-not-rooms_fit c = let L = lent_in c.args.lent in
    let os = operations_of c.args.operations.now in
    history_no_room L os c.args.history.now c.args.out.now _ c.in_ok-lengths.ensures _ c.rooms_fit.ensures c.if-not-rooms_fit.true

pub write_history-requires : goal.write_history-requires
write_history-requires c = let L = lent_in c.args.lent in
    let os = operations_of c.args.operations.now in
    history_asks L os c.args.history.now c.args.out.now _ c.in_ok-lengths.ensures _ c.rooms_fit.ensures c.if-not-rooms_fit.false

pub returns : goal.returns
returns c = let L = lent_in c.args.lent in
    let os = operations_of c.args.operations.now in
    history_writes L os c.args.history.now c.args.out.now _ c.in_ok-lengths.ensures _ c.rooms_fit.ensures c.if-not-rooms_fit.false c.write_history.ensures
