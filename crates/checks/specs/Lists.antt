-- The verdict on the lists of a call: the first refusal in the paper's order, or accepted. Assumes nothing.
use Rattle.std.specs.Prelude.{ℕ, ◌&&◌, List, length, Result, Ok}
use Rattle.records.specs.declared.Operation.{Operation}
use Rattle.records.specs.declared.Cursor.{Cursor}
use Rattle.sizes.specs.declared.Limits.{Limits}
use Rattle.checks.specs.declared.Lengths.{Lengths}
use Rattle.checks.specs.declared.Claims.{Claims}
use Rattle.refusal.specs.declared.Refusal.{Refusal}
use Rattle.verdict.specs.Verdicts.{and_then, sized, Verdict}
use Rattle.verdict.specs.Points.{points_verdict}
use Rattle.sizes.specs.Texts.{total, claimed_by, inserted_by, text_length}
use Rattle.sizes.specs.Sizes.{lent_fits, list_fits}
use Rattle.shapes.specs.Shapes.{records_from}
use Rattle.shapes.specs.Tiling.{tiling_of, within_from}

-- "Order for lists: 3, 4, 1, 2, 5, 7": of one list, up to 5
unfoldable pub list_verdict : Limits → List ℕ → List ℕ → List ℕ → List ℕ → List Operation → List Cursor → Verdict
list_verdict l original text spans keys os cs =
    and_then (sized (lent_fits original text && list_fits l (length text) spans keys os cs))
    (and_then (points_verdict original text)
    (and_then (records_from (length text) spans keys os 0)
    (and_then (tiling_of (length original) os) (within_from (text_length (length text) spans keys os) cs 0))))

-- "each check on original, left, right before the next": of the two lists of a merge
unfoldable pub lists_verdict : Limits → List ℕ → List ℕ → List ℕ → List ℕ → List Operation → List Operation → List Cursor → List Cursor → Verdict
lists_verdict l original text spans keys left right left_cursors right_cursors =
    and_then
    (sized
    (lent_fits original text
    && (list_fits l (length text) spans keys left left_cursors && list_fits l (length text) spans keys right right_cursors)))
    (and_then (points_verdict original text)
    (and_then (and_then (records_from (length text) spans keys left 0) (records_from (length text) spans keys right 0))
    (and_then (and_then (tiling_of (length original) left) (tiling_of (length original) right))
    (and_then (within_from (text_length (length text) spans keys left) left_cursors 0)
    (within_from (text_length (length text) spans keys right) right_cursors 0)))))

-- the verdict on one list; of one that is accepted how much text it inserts, and how long its text is
abbrev pub lengths_on : Limits → List ℕ → List ℕ → List ℕ → List ℕ → List Operation → List Cursor → Result Lengths Refusal
lengths_on l original text spans keys os cs =
    and_then (list_verdict l original text spans keys os cs)
    (Ok (record { inserted = total (inserted_by (length text) spans keys) os; text = text_length (length text) spans keys os }))

-- the verdict on the two lists of a merge; of two that are accepted how many tokens each inserts
abbrev pub claims_on : Limits → List ℕ → List ℕ → List ℕ → List ℕ → List Operation → List Operation → List Cursor → List Cursor → Result Claims Refusal
claims_on l original text spans keys left right left_cursors right_cursors =
    and_then (lists_verdict l original text spans keys left right left_cursors right_cursors)
    (Ok (record { left = total claimed_by left; right = total claimed_by right }))
