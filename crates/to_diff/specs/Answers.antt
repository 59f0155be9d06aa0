-- What making a diff answers, and what it leaves in the rooms. Assumes nothing.
use Rattle.std.specs.Prelude.{ℕ, ◌*◌, ◌≡◌, ◌&&◌, List, [], length, ℤ, leb, Result, Ok}
use Rattle.refusal.specs.declared.Refusal.{Refusal}
use Rattle.item_records.specs.declared.Counts.{Counts}
use Rattle.records.specs.declared.Operation.{Operation}
use Rattle.verdict.specs.Verdicts.{and_then, roomed, leaves, Verdict}
use Rattle.sizes.specs.Sizes.{otherwise}
use Rattle.sizes.specs.Texts.{total, inserted_by, text_length}
use Rattle.checks.specs.declared.Lengths.{Lengths}
use Rattle.checks.specs.Lists.{list_verdict}
use Rattle.edit_format.specs.Items.{Item, texts}
use Rattle.edit_format.specs.Records.{records_of}
use Rattle.merging.specs.Lent.{Lent}
use Rattle.to_diff.specs.Items.{diff_of}

-- "Order for lists: 3, 4, 1, 2, 5, 7", before 7: a diff takes no cursors, so 5 is never given
unfoldable pub verdict_on : Lent → List Operation → Verdict
verdict_on lent os = list_verdict otherwise lent.original lent.inserted lent.spans lent.keys os []

-- the same, with the lengths of an accepted list's texts beside it
abbrev pub checked_on : Lent → List Operation → Result Lengths Refusal
checked_on lent os =
    and_then (verdict_on lent os)
    (Ok
    (record {
      inserted = total (inserted_by (length lent.inserted) lent.spans lent.keys) os;
      text = text_length (length lent.inserted) lent.spans lent.keys os;
    }))

-- "All others: the exact length of the answer": rooms of so many numbers and so many code points; a record is three numbers
unfoldable pub room_for : List Item → ℕ → ℕ → Verdict
room_for is a b = roomed (leb (3 * length is) a && leb (length (texts is)) b)

-- "Order for lists: 3, 4, 1, 2, 5, 7"
unfoldable pub verdict_in : Lent → List Operation → List ℤ → List ℕ → Verdict
verdict_in lent os d e = and_then (verdict_on lent os) (room_for (diff_of lent os) (length d) (length e))

-- "All others: the exact length of the answer": the counts of items and of code points, or the refusal
abbrev pub answer_of : Verdict → List Item → Result Counts Refusal
answer_of v is = and_then v (Ok (record { items = length is; text = length (texts is) }))

-- "All others: the exact length of the answer": how much to lend, or the refusal
unfoldable pub lengths_of : Lent → List Operation → Result Counts Refusal
lengths_of lent os = answer_of (verdict_on lent os) (diff_of lent os)

-- "A public call's statement covers its result, numbers of a refusal included, and the lent buffers": a list's diff with its checks,
-- into two rooms: the answer, and the rooms afterwards
pub record Diffs (lent : Lent) (os : List Operation) (d : List ℤ) (e : List ℕ) (d' : List ℤ) (e' : List ℕ) (r : Result Counts Refusal) : Type 0 where
  pub answer : r ≡ answer_of (verdict_in lent os d e) (diff_of lent os)
  pub items : d' ≡ leaves (verdict_in lent os d e) (records_of (diff_of lent os)) d
  pub text : e' ≡ leaves (verdict_in lent os d e) (texts (diff_of lent os)) e
