-- What reading an edit file answers, and what it leaves in the rooms. Assumes nothing.
use Rattle.std.specs.Prelude.{◌≡◌, ℕ, ◌*◌, List, length, ℤ, ltb, Result, Ok, Err}
use Rattle.refusal.specs.declared.Refusal.{Refusal}
use Rattle.room.specs.Choice.{pick}
use Rattle.room.specs.Placed.{answered}
use Rattle.refusal.specs.declared.Refusal.TheVariants.{Line, Room}
use Rattle.edit_format.specs.Items.{texts}
use Rattle.edit_format.specs.Reading.{Found, Accepted, Refused}
use Rattle.edit_format.specs.Records.{records_of}
use Rattle.item_records.specs.declared.Counts.{Counts}

-- "All others: the exact length of the answer": the counts of items and of code points
unfoldable pub lengths_of : Found → Result Counts Refusal
lengths_of (Refused l) = Err (Line l)
lengths_of (Accepted is) = Ok (record { items = length is; text = length (texts is) })

-- "Edit files: 8 then 7", for rooms of so many numbers and so many code points; a record is three numbers
unfoldable pub answer_of : Found → ℕ → ℕ → Result Counts Refusal
answer_of (Refused l) a b = Err (Line l)
answer_of (Accepted is) a b =
    pick (ltb a (3 * length is)) (Err Room)
    (pick (ltb b (length (texts is))) (Err Room) (Ok (record { items = length is; text = length (texts is) })))

-- "A refusal writes nothing. On success a room past its answer is unchanged"
unfoldable pub items_left : Result Counts Refusal → Found → List ℤ → List ℤ
items_left (Ok c) (Accepted is) d = answered (records_of is) d
items_left (Ok c) (Refused l) d = d
items_left (Err e) f d = d

-- "A refusal writes nothing. On success a room past its answer is unchanged": the text's room
unfoldable pub text_left : Result Counts Refusal → Found → List ℕ → List ℕ
text_left (Ok c) (Accepted is) d = answered (texts is) d
text_left (Ok c) (Refused l) d = d
text_left (Err e) f d = d

-- "Edit files: 8 then 7": what the call answers, and what stands in both rooms after it
pub record ReadInto (f : Found) (d : List ℤ) (e : List ℕ) (d' : List ℤ) (e' : List ℕ) (r : Result Counts Refusal) : Type 0 where
  pub answer : r ≡ answer_of f (length d) (length e)
  pub items : d' ≡ items_left r f d
  pub text : e' ≡ text_left r f e
