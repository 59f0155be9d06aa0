-- `spill` puts the bytes of code points at the start of the room.
-- A text as wide as it is long is its own bytes; else both loops keep how far the room is filled, by runs of ASCII and by one code point at a time.
use Prim.Native.Nat.{◌+◌, ◌-◌}
use lib.ListN.{length}
use Rattle.room.proofs.Growing.{Grown}
use Rattle.utf8_write.proofs.Spilling.{Spilling, wide}
use Rattle.utf8_write.proofs.spill.Given as goal

abbrev pub invariant-some : goal.invariant-some
invariant-some l = Grown (Spilling l.text) (wide l.text) l.initial.out l.end l.initial.at l.out (l.end + l.x-index) l.at

abbrev pub invariant-spill : goal.invariant-spill
invariant-spill l = Spilling l.text l.initial.out l.out l.i l.at

abbrev pub decreases-spill : goal.decreases-spill
decreases-spill l = length l.text - l.i
