-- What the call `merge` answers and leaves in its rooms. Assumes nothing.
use Rattle.std.specs.Prelude.{ℕ, ◌+◌, ◌*◌, ◌≤◌, ◌≡◌, Bool, ◌&&◌, List, length, leb, Result, Ok, Err}
use Rattle.room.specs.Placed.{answered}
use Rattle.records.specs.declared.Operation.{Operation}
use Rattle.records.specs.declared.Cursor.{Cursor}
use Rattle.records.specs.Operations.{operations_of, flat_operations}
use Rattle.records.specs.Cursors.{cursors_of, flat_cursors}
use Rattle.verdict.specs.Verdicts.{and_then, roomed, leaves, Verdict}
use Rattle.sizes.specs.Texts.{total, claimed_by}
use Rattle.sizes.specs.Sizes.{merging}
use Rattle.checks.specs.Lists.{lists_verdict}
use Rattle.shapes.specs.Accepted.{AcceptedList}
use Rattle.merging.specs.Lent.{lent_of, rules_of}
use Rattle.merging.specs.Merge.{Merged, merge_of}
use Rattle.edited_text.specs.declared.Counts.{Counts}
use Rattle.refusal.specs.declared.Refusal.{Refusal}

-- "Rooms for a merge: operations, as many as both lists have together; cursors, both counts together; work, twice the insert tokens of
-- both lists.": the rooms' numbers, o, c and w of them
abbrev pub rooms_fit : List Operation → List Operation → List Cursor → List Cursor → ℕ → ℕ → ℕ → Bool
rooms_fit left right cs ds o c w =
    leb ((length left + length right) * 6) o
    && (leb ((length cs + length ds) * 2) c && leb ((total claimed_by left + total claimed_by right) * 2) w)

-- "Order for lists: 3, 4, 1, 2, 5, 7"
unfoldable pub merge_verdict : List ℕ → List ℕ → List ℕ → List ℕ → List Operation → List Operation → List Cursor → List Cursor → ℕ → ℕ → ℕ → Verdict
merge_verdict original text spans keys left right cs ds o c w =
    and_then (lists_verdict merging original text spans keys left right cs ds) (roomed (rooms_fit left right cs ds o c w))

-- "The merge", of lists and cursors as they are lent
abbrev pub merge_on : List ℕ → List ℕ → List ℕ → List ℕ → List ℕ → List ℕ → List ℕ → List ℕ → Merged
merge_on original text spans keys left right lcs rcs =
    merge_of (rules_of (lent_of original text spans keys)) (operations_of left) (operations_of right) (cursors_of lcs) (cursors_of rcs)

-- "its result, numbers of a refusal included": how many operations and cursors, or the refusal
abbrev pub answer_of : Verdict → Merged → Result Counts Refusal
answer_of v m = and_then v (Ok (record { operations = length m.operations; cursors = length m.cursors }))

-- "A refusal writes nothing.", "only the work room is unspecified": all but its length
abbrev pub WorkLeft : Verdict → List ℕ → List ℕ → Type 0
WorkLeft (Ok u) w w' = length w' ≡ length w
WorkLeft (Err r) w w' = w' ≡ w

-- "Order for lists: 3, 4, 1, 2, 5, 7": of all that was lent
abbrev pub verdict_on : List ℕ → List ℕ → List ℕ → List ℕ → List ℕ → List ℕ → List ℕ → List ℕ → List ℕ → List ℕ → List ℕ → Verdict
verdict_on original text spans keys left right lcs rcs o c w =
    merge_verdict original text spans keys (operations_of left) (operations_of right) (cursors_of lcs) (cursors_of rcs) (length o) (length c) (length w)

-- "A public call's statement covers its result, numbers of a refusal included, and the lent buffers": what `merge` answers and leaves in its rooms
pub record MergedBy (original text spans keys left right lcs rcs o o' c c' w w' : List ℕ) (r : Result Counts Refusal) : Type 0 where
  pub answer : r ≡ answer_of (verdict_on original text spans keys left right lcs rcs o c w) (merge_on original text spans keys left right lcs rcs)
  pub operations : o' ≡ leaves (verdict_on original text spans keys left right lcs rcs o c w) (flat_operations (merge_on original text spans keys left right lcs rcs).operations) o
  pub cursors : c' ≡ leaves (verdict_on original text spans keys left right lcs rcs o c w) (flat_cursors (merge_on original text spans keys left right lcs rcs).cursors) c
  pub work : WorkLeft (verdict_on original text spans keys left right lcs rcs o c w) w w'

-- what the merge past its checks is lent: two accepted lists, and rooms as asked
pub record Mergeable (original text spans keys left right lcs rcs : List ℕ) (mid half : ℕ) (o c w : List ℕ) : Type 0 where
  pub left_accepted : AcceptedList merging original text spans keys (operations_of left) (cursors_of lcs)
  pub right_accepted : AcceptedList merging original text spans keys (operations_of right) (cursors_of rcs)
  pub mid_is : mid ≡ total claimed_by (operations_of left)
  pub half_is : half ≡ mid + total claimed_by (operations_of right)
  pub operations_fit : (length (operations_of left) + length (operations_of right)) * 6 ≤ length o
  pub cursors_fit : (length (cursors_of lcs) + length (cursors_of rcs)) * 2 ≤ length c
  pub work_fits : half * 2 ≤ length w

-- what it gives and leaves
pub record Merges (original text spans keys left right lcs rcs o o' c c' : List ℕ) (r : Counts) : Type 0 where
  pub many_operations : r.operations ≡ length (merge_on original text spans keys left right lcs rcs).operations
  pub many_cursors : r.cursors ≡ length (merge_on original text spans keys left right lcs rcs).cursors
  pub operations : o' ≡ answered (flat_operations (merge_on original text spans keys left right lcs rcs).operations) o
  pub cursors : c' ≡ answered (flat_cursors (merge_on original text spans keys left right lcs rcs).cursors) c
