-- The operations that a flat list of numbers holds, six numbers each. Assumes nothing.
use Rattle.std.specs.Prelude.{ℕ, zero, suc, ◌+◌, ◌*◌, ◌/◌, List, [], ◌∷◌, length, get_or, set}
use Rattle.records.specs.declared.Operation.{Operation}

-- "The checked list is lent as a slice of operation records: kind, order, length, side, and for an insert its tokens": the one at place i
abbrev pub operation_at : List ℕ → ℕ → Operation
operation_at xs i =
    record {
      kind = get_or xs (i * 6) 0;
      order = get_or xs (i * 6 + 1) 0;
      length = get_or xs (i * 6 + 2) 0;
      side = get_or xs (i * 6 + 3) 0;
      first = get_or xs (i * 6 + 4) 0;
      count = get_or xs (i * 6 + 5) 0;
    }

-- "The checked list is lent as a slice of operation records": the k from place i on
unfoldable pub operations_from : List ℕ → ℕ → ℕ → List Operation
operations_from xs i zero = []
operations_from xs i (suc k) = operation_at xs i ∷ operations_from xs (i + 1) k

-- "The checked list is lent as a slice of operation records": all whole ones
unfoldable pub operations_of : List ℕ → List Operation
operations_of xs = operations_from xs 0 (length xs / 6)

-- "operation records: kind, order, length, side, and for an insert its tokens": their numbers
unfoldable pub flat_operations : List Operation → List ℕ
flat_operations [] = []
flat_operations (o ∷ os) = o.kind ∷ o.order ∷ o.length ∷ o.side ∷ o.first ∷ o.count ∷ flat_operations os

-- "operation records": one put at place i of the room d
abbrev pub put_operation : List ℕ → ℕ → Operation → List ℕ
put_operation d i o =
    set
    (set (set (set (set (set d (i * 6) o.kind) (i * 6 + 1) o.order) (i * 6 + 2) o.length) (i * 6 + 3) o.side) (i * 6 + 4) o.first)
    (i * 6 + 5)
    o.count
