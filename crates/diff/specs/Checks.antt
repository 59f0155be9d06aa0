-- The checks of a diff, each over the whole of what it looks at.
-- Assumes nothing.
use Rattle.std.specs.Prelude.{ℕ, ◌+◌, ◌-◌, Bool, List, [], ◌∷◌, length, ltb, Err}
use Rattle.room.specs.Choice.{pick}
use Rattle.refusal.specs.declared.Refusal.{Refusal}
use Rattle.refusal.specs.declared.Refusal.TheVariants.{Record, Size, Short, Room, Unmentioned}
use Rattle.verdict.specs.Verdicts.{and_then, Verdict, accepted}
use Rattle.diff.specs.declared.diff.Item.{Item}
use Rattle.diff.specs.declared.diff.Item.TheVariants.{Retain, Delete, Insert, Neither}
use Rattle.diff.specs.Replay.{Edit, retain, delete, insert, left}

-- "Given exactly when": refused by a test
abbrev pub refuse_if : Bool → Refusal → Verdict
refuse_if t r = pick t (Err r) accepted

-- "Sums are exact; parts outside what was lent add no text": the code points that the texts use
unfoldable pub used : List Item → ℕ
used [] = 0
used (Retain n ∷ is) = used is
used (Delete n ∷ is) = used is
used (Insert s n ∷ is) = n + used is
used (Neither ∷ is) = used is

-- "original 65,535 code points"
abbrev pub original_most : ℕ
original_most = 65535

-- "diff items 8,192 with 131,070 code points of text"
abbrev pub items_most : ℕ
items_most = 8192

-- "with 131,070 code points of text"
abbrev pub text_most : ℕ
text_most = 131070

-- 3: "a size limit below is passed"; "The limit itself passes": the original, the items, the text as lent, and what the items use of it, ranges counted as often as they are used
unfoldable pub sizes : List ℕ → List Item → List ℕ → Verdict
sizes original is lent =
    and_then (refuse_if (ltb original_most (length original)) Size)
    (and_then (refuse_if (ltb items_most (length is)) Size)
    (and_then (refuse_if (ltb text_most (length lent)) Size) (refuse_if (ltb text_most (used is)) Size)))

-- 1: "unknown kind"; "token or range outside what was lent"; the "index of first such operation or item", counted from the one given
unfoldable pub records : ℕ → List Item → Verdict
records i [] = accepted
records i (Retain n ∷ is) = records (i + 1) is
records i (Delete n ∷ is) = records (i + 1) is
records i (Insert s n ∷ is) = records (i + 1) is
records i (Neither ∷ is) = Err (Record i)

-- 6: "a diff number asks more than is left of the original", at a position with so much left of it: "position, requested, available"
unfoldable pub numbers : ℕ → ℕ → List Edit → Verdict
numbers at rest [] = accepted
numbers at rest (retain n ∷ es) = pick (ltb rest n) (Err (Short at n rest)) (numbers (at + n) (rest - n) es)
numbers at rest (delete n ∷ es) = pick (ltb rest n) (Err (Short at n rest)) (numbers (at + n) (rest - n) es)
numbers at rest (insert s ∷ es) = numbers at rest es

-- 9: "a covering replay ends with original text unmentioned": "code points left"
unfoldable pub covers : ℕ → List Edit → Verdict
covers len es = refuse_if (ltb 0 (left len es)) (Unmentioned (left len es))

-- 7: "a lent room is shorter than asked"
unfoldable pub fits : ℕ → List ℕ → Verdict
fits asked room = refuse_if (ltb (length room) asked) Room
