-- Shown: which operation a record is, by its kind, and so the first of a list.
-- How: each is a case of the definition's tests.
use Prim.Native.Nat.{ℕ, ◌+◌}
use mathlib.Core.Path.{◌≡◌, ap}
use mathlib.Core.List.{List, ◌∷◌}
use native.Mathlib.Omega.{arith}
use borrow.Author.Tests.{eq-eqb, ne_eqb}
use Rattle.records.specs.declared.Operation.{Operation}
use Rattle.merging.specs.declared.Op.{Op}
use Rattle.merging.specs.declared.Op.TheVariants.{Delete, Insert, Retain}
use Rattle.merging.specs.Operations.{span_of, op_of, ops_from}

module _ (at : ℕ) (r : Operation) where
  pub op_insert : r.kind ≡ 1 → op_of at r ≡ Insert at r.first r.count
  op_insert h = rw (eq-eqb _ _ h, op_of)

  pub op_delete : (r.kind ≡ 1 → ⊥) → r.kind ≡ 0 → op_of at r ≡ Delete r.order r.length
  op_delete n h = rw (ne_eqb _ _ n, eq-eqb _ _ h, op_of)

  pub op_retain : (r.kind ≡ 1 → ⊥) → (r.kind ≡ 0 → ⊥) → op_of at r ≡ Retain r.order r.length
  op_retain n m = rw (ne_eqb _ _ n, ne_eqb _ _ m, op_of)

module _ (at : ℕ) (o : Operation) (os : List Operation) where
  pub first_insert : o.kind ≡ 1 → ops_from at (o ∷ os) ≡ Insert at o.first o.count ∷ ops_from (at + 0) os
  unfolding ops_from
  first_insert k = ap (λ (a : Op). a ∷ ops_from (at + span_of a) os) (op_insert at o k)

  pub first_delete : o.kind ≡ 0 → ops_from at (o ∷ os) ≡ Delete o.order o.length ∷ ops_from (at + o.length) os
  unfolding ops_from
  first_delete k = ap (λ (a : Op). a ∷ ops_from (at + span_of a) os) (op_delete at o (λ e. omega arith) k)

  pub first_retain : (o.kind ≡ 1 → ⊥) → (o.kind ≡ 0 → ⊥) → ops_from at (o ∷ os) ≡ Retain o.order o.length ∷ ops_from (at + o.length) os
  unfolding ops_from
  first_retain n m = ap (λ (a : Op). a ∷ ops_from (at + span_of a) os) (op_retain at o n m)
