-- Shown: the call's statement allows one answer and one content of each room but the work room; and demand 3, first half, of what stands in the rooms: the merged list is accepted, tiles the original, and retains exactly what both lists retain.
-- How: the statement is by equations; a room that holds records is read back to them.
use Prim.Native.Nat.{ℕ, ◌*◌}
use mathlib.Core.Path.{◌≡◌, refl, sym, ◌∙◌}
use mathlib.Core.List.{List}
use lib.ListN.{length, take}
use Rattle.room.specs.Placed.{answered}
use Rattle.records.specs.declared.Operation.{Operation}
use Rattle.records.specs.declared.Cursor.{Cursor}
use Rattle.records.specs.Operations.{operations_of, flat_operations}
use Rattle.records.specs.Cursors.{cursors_of, flat_cursors}
use Rattle.records.proofs.OperationLaws.{of_answered as operations-back}
use Rattle.records.proofs.CursorLaws.{of_answered as cursors-back}
use Rattle.sizes.specs.Sizes.{merging, otherwise}
use Rattle.shapes.specs.Accepted.{AcceptedList}
use Rattle.verdict.proofs.Chains.{first_passed}
use Rattle.checks.proofs.Accepted.{accepted_left, accepted_right}
use Rattle.merging.specs.Lent.{Lent}
use Rattle.merging.specs.Operations.{ops_from}
use Rattle.merging.specs.Tiling.{Merges}
use Rattle.merging_laws.proofs.Accepted.{merged_accepted, merged_merges}
use Rattle.edited_text.specs.declared.Counts.{Counts}
use Rattle.refusal.specs.declared.Refusal.{Refusal}
use Rattle.edited_text.specs.Merging.{merge_verdict, verdict_on, merge_on, MergedBy}
use Rattle.std.specs.Prelude.{Result, Ok}
use Rattle.verdict.specs.Verdicts.{accepted}

module _ (original text spans keys left right lcs rcs o c w : List ℕ) where
  -- "Any two outcomes it allows are shown equal, or the exception (the work room) is listed"
  pub only_answer : {o₁ o₂ c₁ c₂ w₁ w₂ : List ℕ} {r₁ r₂ : Result Counts Refusal} → MergedBy original text spans keys left right lcs rcs o o₁ c c₁ w w₁ r₁
      → MergedBy original text spans keys left right lcs rcs o o₂ c c₂ w w₂ r₂ → (r₁ ≡ r₂) × ((o₁ ≡ o₂) × (c₁ ≡ c₂))
  only_answer a b = (a.answer ∙ sym b.answer, (a.operations ∙ sym b.operations, a.cursors ∙ sym b.cursors))

  module _ (v : verdict_on original text spans keys left right lcs rcs o c w ≡ accepted) {o' c' w' : List ℕ} {r : Result Counts Refusal}
      (m : MergedBy original text spans keys left right lcs rcs o o' c c' w w' r) where
    left_list : AcceptedList merging original text spans keys (operations_of left) (cursors_of lcs)
    unfolding merge_verdict
    left_list =
        accepted_left merging original text spans keys (operations_of left) (operations_of right) (cursors_of lcs) (cursors_of rcs) (first_passed _ _ v)

    right_list : AcceptedList merging original text spans keys (operations_of right) (cursors_of rcs)
    unfolding merge_verdict
    right_list =
        accepted_right merging original text spans keys (operations_of left) (operations_of right) (cursors_of lcs) (cursors_of rcs) (first_passed _ _ v)

    abbrev lent : Lent
    lent = record { original = original; inserted = text; spans = spans; keys = keys }

    -- the operations and the cursors that stand in the rooms
    abbrev operations : List Operation
    operations = operations_of (take (length (merge_on original text spans keys left right lcs rcs).operations * 6) o')

    abbrev cursors : List Cursor
    cursors = cursors_of (take (length (merge_on original text spans keys left right lcs rcs).cursors * 2) c')

    operations_are : operations ≡ (merge_on original text spans keys left right lcs rcs).operations
    operations_are =
        let e : o' ≡ answered (flat_operations (merge_on original text spans keys left right lcs rcs).operations) o = rw v at m.operations in
        rw e (operations-back (merge_on original text spans keys left right lcs rcs).operations o _ refl)

    cursors_are : cursors ≡ (merge_on original text spans keys left right lcs rcs).cursors
    cursors_are =
        let e : c' ≡ answered (flat_cursors (merge_on original text spans keys left right lcs rcs).cursors) c = rw v at m.cursors in
        rw e (cursors-back (merge_on original text spans keys left right lcs rcs).cursors c _ refl)

    -- the answer counts them
    pub counts : r ≡ Ok (record { operations = length operations; cursors = length cursors })
    counts = rw (operations_are, cursors_are) (rw v at m.answer)

    -- demand 3: "The merge's retains and deletes tile the original in order, and a code point is retained exactly if both lists retain it."
    pub retains_both : Merges (ops_from 0 operations) (ops_from 0 (operations_of left)) (ops_from 0 (operations_of right)) 0 (length original)
    retains_both =
        rw operations_are (merged_merges lent (operations_of left) (operations_of right) (cursors_of lcs) (cursors_of rcs) left_list right_list)

    -- text, history and diff may be made of what was merged
    pub merged_list : AcceptedList otherwise original text spans keys operations cursors
    merged_list =
        rw (operations_are, cursors_are)
        (merged_accepted lent (operations_of left) (operations_of right) (cursors_of lcs) (cursors_of rcs) left_list right_list)
