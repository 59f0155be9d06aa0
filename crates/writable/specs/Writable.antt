-- What a diff must be to be written as an edit file. Assumes nothing.
use Rattle.std.specs.Prelude.{ℕ, ◌+◌, Bool, true, false, not, ◌&&◌, List, [], ◌∷◌, length, take, drop, ℤ, ltb, leb, Err}
use Rattle.room.specs.Choice.{pick}
use Rattle.refusal.specs.declared.Refusal.TheVariants.{Record, Size}
use Rattle.verdict.specs.Verdicts.{and_then, Verdict, accepted}
use Rattle.verdict.specs.Points.{points_from}
use Rattle.diff.specs.declared.diff.Item.{Item as Lent}
use Rattle.diff.specs.declared.diff.Item.TheVariants.{Retain, Delete, Insert, Neither}
use Rattle.diff.specs.Items.{items_of}
use Rattle.diff.specs.Checks.{refuse_if, original_most, items_most, text_most}
use Rattle.edit_format.specs.Items.{Item, Keep, Drop, Add, kept, dropped, added}

-- "`keep=`, `drop=` or `add=`": an item of the file for each that is lent; what is neither number nor text within the lent one adds nothing
unfoldable pub file_item : List ℕ → Lent → Item
file_item text (Retain n) = Keep n
file_item text (Delete n) = Drop n
file_item text (Insert s n) = Add (take n (drop s text))
file_item text Neither = Add []

-- "that many of `keep=`, `drop=` or `add=`": the items of all that is lent, in order
unfoldable pub file_items : List ℕ → List Lent → List Item
unfolding file_item
file_items text [] = []
file_items text (i ∷ is) = file_item text i ∷ file_items text is

-- "Writing a diff takes no original": the items of a file, by the diff's flat records and its text
unfoldable pub file_of : List ℤ → List ℕ → List Item
unfolding file_items
file_of items text = file_items text (items_of items (length text))

-- 3: "diff items 8,192 with 131,070 code points of text"; "`original=` is keep plus drop, refusal 3 past 65,535"; "Sums are exact"
unfoldable pub sizes : List Item → List ℕ → Verdict
sizes is text =
    and_then (refuse_if (ltb items_most (length is)) Size)
    (and_then (refuse_if (ltb text_most (length text)) Size)
    (and_then (refuse_if (ltb text_most (added is)) Size) (refuse_if (ltb original_most (kept is + dropped is)) Size)))

-- 1: "it refuses 1 at a zero, an empty text or a second neighbouring keep"; "unknown kind [..]; token or range outside what was lent" is an
-- empty text here. The "index of first such [..] item"; k: the item before was a keep
unfoldable pub shapes : Bool → ℕ → List Item → Verdict
shapes k i [] = accepted
shapes k i (Keep n ∷ is) = pick (leb 1 n && not k) (shapes true (i + 1) is) (Err (Record i))
shapes k i (Drop n ∷ is) = pick (leb 1 n) (shapes false (i + 1) is) (Err (Record i))
shapes k i (Add cs ∷ is) = pick (leb 1 (length cs)) (shapes false (i + 1) is) (Err (Record i))

-- "order 3, 4, 1, 7"
unfoldable pub writable : List Item → List ℕ → Verdict
writable is text = and_then (sizes is text) (and_then (points_from text 0) (shapes false 0 is))
