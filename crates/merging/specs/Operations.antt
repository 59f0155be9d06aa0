-- Operations as the merge takes them, out of records and back. Assumes nothing.
use Rattle.std.specs.Prelude.{ℕ, ◌+◌, Bool, true, false, List, [], ◌∷◌, eqb}
use Rattle.records.specs.declared.Operation.{Operation}
use Rattle.merging.specs.declared.Op.{Op}
use Rattle.merging.specs.declared.Op.TheVariants.{Delete, Insert, Retain}
use Rattle.merging.specs.Lent.{Lent, lengths_of, sum}

-- "smaller order first": an operation's order
abbrev pub order_of : Op → ℕ
order_of (Delete o l) = o
order_of (Insert o f n) = o
order_of (Retain o l) = o

-- "then delete, insert, retain": the kinds' numbers have this order
abbrev pub kind_of : Op → ℕ
kind_of (Delete o l) = 0
kind_of (Insert o f n) = 1
kind_of (Retain o l) = 2

-- "retains and deletes [..] tile the original": how much of the original an operation consumes
abbrev pub span_of : Op → ℕ
span_of (Delete o l) = l
span_of (Insert o f n) = 0
span_of (Retain o l) = l

-- "A list's text: retained original and insert tokens' spelling": how much text an operation gives
abbrev pub length_of : Lent → Op → ℕ
length_of lent (Delete o l) = 0
length_of lent (Insert o f n) = sum (lengths_of lent f n)
length_of lent (Retain o l) = l

-- "Empty results aren't emitted": an operation with no code points or no tokens
abbrev pub empty_op : Op → Bool
empty_op (Delete o l) = eqb l 0
empty_op (Insert o f n) = eqb n 0
empty_op (Retain o l) = eqb l 0

-- "An insert's order is the original text consumed before it, its length its text's; lent ones are ignored": the operation of a
-- record that stands where `at` of the original is consumed
abbrev pub op_of : ℕ → Operation → Op
op_of at r =
    elim (eqb r.kind 1) [
      | true ↦ Insert at r.first r.count
      | false ↦ elim (eqb r.kind 0) [ true ↦ Delete r.order r.length | false ↦ Retain r.order r.length ]
    ]

-- "An insert's order is the original text consumed before it": the operations of a list
unfoldable pub ops_from : ℕ → List Operation → List Op
ops_from at [] = []
ops_from at (r ∷ rs) = op_of at r ∷ ops_from (at + span_of (op_of at r)) rs

-- "kind, order, length, side": an operation and the side it came from
pub record Out : Type 0 where
  pub side : ℕ
  pub op : Op

-- "A merge ignores which known side is lent.": the operations of a list without their sides
unfoldable pub ops_in : List Out → List Op
ops_in [] = []
ops_in (x ∷ xs) = x.op ∷ ops_in xs

-- "operation records: kind, order, length, side, and for an insert its tokens": fields that mean nothing are 0
abbrev pub record_of : Lent → ℕ → Op → Operation
record_of lent side (Delete o l) = record { kind = 0; order = o; length = l; side = side; first = 0; count = 0 }
record_of lent side (Insert o f n) = record { kind = 1; order = o; length = sum (lengths_of lent f n); side = side; first = f; count = n }
record_of lent side (Retain o l) = record { kind = 2; order = o; length = l; side = side; first = 0; count = 0 }

-- "The checked list is lent as a slice of operation records": the records of a list
unfoldable pub records_of : Lent → List Out → List Operation
records_of lent [] = []
records_of lent (x ∷ xs) = record_of lent x.side x.op ∷ records_of lent xs

-- "kind, order, length, side": the operations of a list's records, with their sides
unfoldable pub outs_from : ℕ → List Operation → List Out
outs_from at [] = []
outs_from at (r ∷ rs) = record { side = r.side; op = op_of at r } ∷ outs_from (at + span_of (op_of at r)) rs
