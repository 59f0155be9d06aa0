-- What is next on a side, as the code holds it: an operation, and the place of the records behind it. Assumes nothing.
use Rattle.std.specs.Prelude.{ℕ, ◌+◌, ◌-◌, ◌/◌, ◌≤◌, ◌≡◌, List, [], ◌∷◌, length, Option, Some, None}
use Rattle.records.specs.Operations.{operations_from}
use Rattle.merging.specs.declared.Op.{Op}
use Rattle.merging.specs.Operations.{span_of, ops_from}
use Rattle.numbers.specs.Sizes.{most}
use Rattle.operation.specs.Views.{heads}
use Rattle.turns.specs.declared.Ahead.{Ahead}

-- "An insert's order is the original text consumed before it": the operations of a list from a place on, where `at` is consumed
abbrev pub list_from : List ℕ → ℕ → ℕ → List Op
list_from ops behind at = ops_from at (operations_from ops behind (length ops / 6 - behind))

-- "The tail stays next.": what is next, and the records behind it
abbrev pub ahead_of : List ℕ → Ahead → List Op
ahead_of ops h = heads h.next (list_from ops h.behind h.at)

-- how much of the original what is next consumes
abbrev pub span_next : Option Op → ℕ
span_next (Some a) = span_of a
span_next None = 0

-- "Sums are exact": the end of the first operation of a list does not wrap
abbrev pub FirstFits : ℕ → List Op → Type 0
FirstFits at [] = Unit {0}
FirstFits at (a ∷ as') = at + span_of a ≤ most

-- what is ahead once a tail stays next, or else the record at a place. Nothing is next only where the list ends; and where the
-- operations before the tail consumed p, those before what is next did.
pub record Looks (ops : List ℕ) (tail : Option Op) (behind at : ℕ) (r : Ahead) : Type 0 where
  pub view : ahead_of ops r ≡ heads tail (list_from ops behind at)
  pub ends : r.next ≡ None → ahead_of ops r ≡ []
  pub from : (p : ℕ) → p + span_next tail ≡ at → p + span_next r.next ≡ r.at
