-- `from_covering_diff` meets the statement of its replay. The length that is answered decides, and then the room (Answering).
use Rattle.replay.proofs.Answering.{as_long, replay_stops, replay_goes}
use Rattle.replay.specs.Answers.{covering}
use Rattle.std.proofs.lemmas.Result.{err_from_is_err_and}
use Rattle.replay.proofs.from_covering_diff.Goals as goal

pub returns-in_err-len : goal.returns-in_err-len
returns-in_err-len c = let p = err_from_is_err_and c.from_residual.result c.from_residual.ensures.1 in
    rw (p.1, p.2) (replay_stops covering _ _ c.in_err-len.ensures)

pub fill-requires : goal.fill-requires
fill-requires c = rw (c.new.ensures.0, c.new.ensures.1) (as_long covering _ c.in_ok-len.ensures)

pub returns : goal.returns
returns c = replay_goes covering _ c.in_ok-len.ensures (rw (c.new.ensures.0, c.new.ensures.1) at c.fill.ensures)
