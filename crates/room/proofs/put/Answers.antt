-- `put` puts all of src at the place: what is written over the part of out from the place on is the run.
use Rattle.room.proofs.Placing.{over_part}
use Rattle.std.proofs.Common.{arith, refl}
use Rattle.room.proofs.put.Goals as goal

pub returns : goal.returns
returns g c = record { next = omega arith; stands = rw c.copy_from_slice.ensures.after (over_part _ _ _ _ refl) }
