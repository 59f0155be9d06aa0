-- Answers at the start of a room: one put there, and one more put where the first ends.
-- Each is list arithmetic over `take` and `drop`, for values of any type. Assumes nothing.
use mathlib.Core.Path.{◌≡◌}
use mathlib.Core.List.{List, ◌++◌}
use Prim.Native.Nat.{◌≤◌}
use native.Mathlib.Nat.{zero-add}
use lib.ListN.{length, drop, length-append, length-drop}
use lib.Seq.{take-append_seam, drop-append-add, drop-append_seam, drop-drop}
use native.Mathlib.Omega.{arith}
use Rattle.room.specs.Placed.{placed, answered}

-- what is put at place 0 is an answer
pub at_start : {A : Type 0} (s d : List A) → placed d 0 s ≡ answered s d
unfolding placed
at_start s d = rw (zero-add (length s))

-- what is put where an answer ends makes it longer
pub one_more : {A : Type 0} (s t d : List A) → placed (answered s d) (length s) t ≡ answered (s ++ t) d
unfolding placed
one_more s t d = rw (take-append_seam s (drop (length s) d), drop-append-add s (drop (length s) d) (length t), drop-drop, length-append)

-- the room past an answer is unchanged
pub past : {A : Type 0} (s d : List A) → drop (length s) (answered s d) ≡ drop (length s) d
past s d = drop-append_seam s (drop (length s) d)

-- an answer that fits leaves the room its length
pub same_room : {A : Type 0} (s d : List A) → length s ≤ length d → length (answered s d) ≡ length d
same_room s d h = rw (length-append, length-drop) (omega arith)
