-- `fill` refuses a short room, and builds in one that is long enough (Answering).
use Rattle.replay.proofs.Answering.{no_room, has_room}
use native.Mathlib.Omega.{arith}
use Rattle.replay.proofs.fill.Goals as goal

pub returns-then-out-len : goal.returns-then-out-len
returns-then-out-len c = no_room _ _ (omega (arith, c.requires))

pub returns : goal.returns
returns c = has_room _ _ (omega (arith, c.requires)) c.build.ensures
