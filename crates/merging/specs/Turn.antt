-- One turn of the merge. Assumes nothing.
use Rattle.std.specs.Prelude.{ℕ, ◌+◌, true, false, List, [], ◌∷◌}
use Rattle.records.specs.declared.Cursor.{Cursor}
use Rattle.merging.specs.declared.Op.{Op}
use Rattle.merging.specs.declared.Op.TheVariants.{Delete, Insert, Retain}
use Rattle.std.specs.declared.cmp.Ordering.{Ordering}
use Rattle.merging.specs.Lent.{Lent, Rules}
use Rattle.merging.specs.Operations.{Out, length_of, span_of, empty_op}
use Rattle.merging.specs.OrderRule.{goes_left}
use Rattle.merging.specs.Meeting.{Remembered, front_of, tail_of, met_of, other_of, remember_of}
use Rattle.merging.specs.Cursors.{shift_of, moved_by, behind_of}

-- "Each turn takes the smaller next operation": one side between two turns: its operations that are next, what is remembered of it, how much of its own text was taken, and its
-- cursors that have not moved
pub record Stream : Type 0 where
  pub next : List Op
  pub last : Remembered
  pub seen : ℕ
  pub cursors : List Cursor

-- "Each turn takes the smaller next operation": both sides, the merged text's length, and the original text that the merged list consumed
pub record State : Type 0 where
  pub left : Stream
  pub right : Stream
  pub merged : ℕ
  pub consumed : ℕ

-- "the other side": the state with its sides exchanged: what is said of a turn of the left holds of one of the right
abbrev pub turned : State → State
turned s = record { left = s.right; right = s.left; merged = s.merged; consumed = s.consumed }

-- "An insert's order is the original text consumed before it"
abbrev pub anchored : ℕ → Op → Op
anchored at (Delete o l) = Delete o l
anchored at (Insert o f n) = Insert at f n
anchored at (Retain o l) = Retain o l

-- "Empty results aren't emitted."
unfoldable pub emitted : ℕ → ℕ → Op → List Out
emitted side at a = elim (empty_op a) [ true ↦ [] | false ↦ record { side = side; op = anchored at a } ∷ [] ]

-- "Each turn": what it gives: the state after it, the operation emitted if there is one, the cursors moved
pub record Turned : Type 0 where
  pub state : State
  pub out : List Out
  pub cursors : List Cursor

-- a turn of the left side, whose number is `side`, with the operation b, already cut, and `next` behind it. "The result is
-- remembered, even when empty"; "Cursors [..] move with a retain or insert"
unfoldable pub turn_with : Rules → ℕ → State → Op → List Op → Turned
turn_with R side s b next =
    let v = s.right.last in
    let m = met_of R b v in
    let t = shift_of R b v s.left.seen s.merged in
    record {
      state =
          record {
            left =
                record {
                  next = next;
                  last = remember_of R.lent s.left.last m;
                  seen = s.left.seen + length_of R.lent b;
                  cursors = behind_of b t s.left.cursors;
                };
            right = record { next = s.right.next; last = other_of R b v; seen = s.right.seen; cursors = s.right.cursors };
            merged = s.merged + length_of R.lent m;
            consumed = s.consumed + span_of m;
          };
      out = emitted side s.consumed m;
      cursors = moved_by b t s.left.cursors;
    }

-- "A taken retain is cut [..]. The tail stays next.": a turn of the left side, which takes a, with ls behind it
unfoldable pub turn_left : Rules → ℕ → Op → List Op → State → Turned
turn_left R side a ls s = turn_with R side s (front_of a s.right.next) (tail_of a s.right.next ls)

-- "what is not less goes right": a turn of the right side
unfoldable pub turn_right : Rules → ℕ → Op → List Op → State → Turned
turn_right R side a rs s =
    let t = turn_left R side a rs (turned s) in
    record { state = turned t.state; out = t.out; cursors = t.cursors }

-- "Each turn takes the smaller next operation": an operation of one side, with what stands behind it; or both sides are done
pub data Taken : Type 0 where
  none : Taken
  from_left from_right : Op → List Op → Taken

-- "Each turn takes the smaller next operation; ties use stream priority; what is not less goes right."
unfoldable pub taken_of : Lent → Ordering → List Op → List Op → Taken
taken_of lent priority [] [] = none
taken_of lent priority [] (b ∷ rs) = from_right b rs
taken_of lent priority (a ∷ ls) [] = from_left a ls
taken_of lent priority (a ∷ ls) (b ∷ rs) = elim (goes_left lent priority a b) [ true ↦ from_left a ls | false ↦ from_right b rs ]

-- "Each turn": a turn, or the end
pub data Step : Type 0 where
  stop : Step
  on : Turned → Step

-- "Each turn takes the smaller next operation [..]; what is not less goes right.": left is side 0, right is side 1
unfoldable pub step_of : Rules → Ordering → State → Step
step_of R priority s =
    elim (taken_of R.lent priority s.left.next s.right.next) [
      | none ↦ stop
      | from_left a ls ↦ on (turn_left R 0 a ls s)
      | from_right b rs ↦ on (turn_right R 1 b rs s)
    ]
