-- `fill` puts the code points of a good text at the start of the room.
-- Both loops keep how far the room is filled: by runs of ASCII, and by one code point at a time.
use Prim.Native.Nat.{◌-◌}
use lib.ListN.{length}
use Rattle.room.proofs.Growing.{Grown}
use Rattle.utf8_read.specs.Reading.{points}
use Rattle.utf8_points.proofs.Filling.{Filling}
use Rattle.utf8_points.proofs.fill.Given as goal

abbrev pub invariant-some : goal.invariant-some
invariant-some l = Grown (Filling l.bytes) (length (points l.bytes)) l.initial.out l.initial.at l.initial.n l.out l.at l.n

abbrev pub decreases-some : goal.decreases-some
decreases-some l = length l.bytes - l.at

abbrev pub invariant-fill : goal.invariant-fill
invariant-fill l = Filling l.bytes l.initial.out l.out l.at l.n

abbrev pub decreases-fill : goal.decreases-fill
decreases-fill l = length l.bytes - l.at
