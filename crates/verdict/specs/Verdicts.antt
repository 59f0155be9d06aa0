-- A check after another, checks of sizes and of rooms, and what a verdict leaves in a room. Assumes nothing.
use Rattle.std.specs.Prelude.{Bool, true, false, ⊤, List, Result, Ok, Err}
use Rattle.room.specs.Placed.{answered}
use Rattle.refusal.specs.declared.Refusal.{Refusal}
use Rattle.refusal.specs.declared.Refusal.TheVariants.{Size, Room}

-- what a check answers: that it passed, or the refusal
abbrev pub Verdict : Type 0
Verdict = Result ⊤ Refusal

abbrev pub accepted : Verdict
accepted = Ok tt

-- "Order for lists: 3, 4, 1, 2, 5, 7; each check on original, left, right before the next": a refusal hides those after it
abbrev pub and_then : {T : Type 0} → Verdict → Result T Refusal → Result T Refusal
and_then (Ok u) w = w
and_then (Err r) w = Err r

-- "3: a size limit below is passed"
abbrev pub sized : Bool → Verdict
sized true = accepted
sized false = Err Size

-- "7: a lent room is shorter than asked"
abbrev pub roomed : Bool → Verdict
roomed true = accepted
roomed false = Err Room

-- "A refusal writes nothing. On success a room past its answer is unchanged": room d, for the answer s
abbrev pub leaves : {T A : Type 0} → Result T Refusal → List A → List A → List A
leaves (Ok u) s d = answered s d
leaves (Err r) s d = d
