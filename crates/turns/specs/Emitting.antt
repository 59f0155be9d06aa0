-- The result of a turn in the room for operations. Assumes nothing.
use Rattle.std.specs.Prelude.{ℕ, ◌+◌, ◌≡◌, List, ◌++◌, length}
use Rattle.room.specs.Placed.{answered}
use Rattle.records.specs.declared.Operation.{Operation}
use Rattle.records.specs.Operations.{flat_operations}
use Rattle.merging.specs.declared.Op.{Op}
use Rattle.merging.specs.declared.Op.TheVariants.{Delete, Insert, Retain}
use Rattle.merging.specs.Lent.{Lent}
use Rattle.merging.specs.Operations.{Out, length_of, records_of}
use Rattle.merging.specs.Turn.{emitted}

-- "operation records: kind, order, length, side, and for an insert its tokens": the record of an operation, whose text is so long
abbrev pub record_by : ℕ → ℕ → ℕ → Op → Operation
record_by side at text (Delete o l) = record { kind = 0; order = o; length = l; side = side; first = 0; count = 0 }
record_by side at text (Insert o f n) = record { kind = 1; order = at; length = text; side = side; first = f; count = n }
record_by side at text (Retain o l) = record { kind = 2; order = o; length = l; side = side; first = 0; count = 0 }

-- "Empty results aren't emitted.": a room that was an answer and what was there behind it is so again, the answer being longer by what is
-- emitted
pub record Emits (d d' : List ℕ) (place side at : ℕ) (a : Op) (text r : ℕ) : Type 0 where
  pub count : r ≡ place + length (emitted side at a)
  pub grows : (lent : Lent) (outs : List Out) (d₀ : List ℕ) → text ≡ length_of lent a → place ≡ length outs → d ≡ answered (flat_operations (records_of lent outs)) d₀
      → d' ≡ answered (flat_operations (records_of lent (outs ++ emitted side at a))) d₀
