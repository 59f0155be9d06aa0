-- The operation that is being joined, by its numbers, and the operations that it and the runs behind it give. Assumes nothing.
use Rattle.std.specs.Prelude.{ℕ, ◌+◌, Bool, true, false, List, [], ◌∷◌, ◌++◌, length, eqb}
use Rattle.records.specs.declared.Operation.{Operation}
use Rattle.raw_lists.specs.Raws.{Run}
use Rattle.elongate.specs.declared.Current.{Current}
use Rattle.elongate.specs.Elongated.{last_right, joinable, pieces_length, consumes}

-- none yet
abbrev pub none : Current
none = record { kind = 3; order = 0; length = 0; first = 0; count = 0; right = false }

-- one run more joined to it
abbrev pub extended : Current → ℕ → ℕ → Bool → Current
extended c n k right =
    record { kind = c.kind; order = c.order; length = c.length + n; first = c.first; count = c.count + k; right = right }

-- the run behind it, which does not join it
abbrev pub fresh : Current → ℕ → ℕ → ℕ → Bool → Current
fresh c kind n k right =
    record {
      kind = kind;
      order = c.order + consumes c.kind c.length;
      length = n;
      first = c.first + c.count;
      count = k;
      right = right;
    }

-- it, as an operation, where there is one
unfoldable pub closed : Current → List Operation
closed c =
    elim (eqb c.count 0) [
      | true ↦ []
      | false ↦ record { kind = c.kind; order = c.order; length = c.length; side = 0; first = c.first; count = c.count } ∷ []
    ]

-- the operations that it and the runs behind it give, joined and cooked
unfoldable pub cooked_on : Current → List Run → List Operation
cooked_on c [] = closed c
cooked_on c (r ∷ rs) =
    elim (joinable c.kind c.right r) [
      | true ↦ cooked_on (extended c (pieces_length r.tokens) (length r.tokens) (last_right r.tokens)) rs
      | false ↦ closed c ++ cooked_on (fresh c r.kind (pieces_length r.tokens) (length r.tokens) (last_right r.tokens)) rs
    ]
