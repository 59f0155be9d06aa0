-- The current operation and the runs behind it: one run more, joined or not; and how many operations they give.
-- By the test of joining. Assumes nothing.
use Prim.Native.Nat.{ℕ, ◌+◌, ◌*◌, ◌≤◌}
use mathlib.Core.Path.{◌≡◌, sym, ◌∙◌}
use mathlib.Core.Bool.{true, false}
use mathlib.Core.List.{List, [], ◌∷◌, ◌++◌}
use native.Mathlib.Omega.{arith}
use native.Mathlib.Decide.{ℕ_discrete}
use lib.ListN.{length}
use borrow.Author.Tests.{eq-eqb, ne_eqb}
use Rattle.records.specs.declared.Operation.{Operation}
use Rattle.elongate.specs.declared.Current.{Current}
use Rattle.room.specs.Placed.{placed}
use Rattle.records.specs.Operations.{put_operation, flat_operations}
use Rattle.records.specs.Rooms.{filled}
use Rattle.records.proofs.OperationLaws.{put_eq}
use Rattle.raw_lists.specs.Raws.{Run}
use Rattle.room.proofs.Placing.{placed_none}
use Rattle.elongate.specs.Writes.{Closed}
use Rattle.elongate.specs.Elongated.{last_right, joinable, pieces_length, consumes}
use Rattle.elongate.specs.Currents.{extended, fresh, closed, cooked_on}

abbrev pub as_operation : Current → Operation
as_operation c = record { kind = c.kind; order = c.order; length = c.length; side = 0; first = c.first; count = c.count }

pub closed_none : (c : Current) → c.count ≡ 0 → closed c ≡ []
unfolding closed
closed_none c h = rw (eq-eqb c.count 0 h, closed)

pub closed_some : (c : Current) → (c.count ≡ 0 → ⊥) → closed c ≡ as_operation c ∷ []
unfolding closed
closed_some c h = rw (ne_eqb c.count 0 h, closed)

pub consumes_most : (kind n : ℕ) → consumes kind n ≤ n
consumes_most kind n =
    elim (ℕ_discrete kind 1) [ yes h ↦ rw (eq-eqb kind 1 h) (omega arith) | no h ↦ rw (ne_eqb kind 1 h) (omega arith) ]

module _ (c : Current) (r : Run) (rs : List Run) where
  pub cooks_joined : joinable c.kind c.right r ≡ true
      → cooked_on c (r ∷ rs) ≡ cooked_on (extended c (pieces_length r.tokens) (length r.tokens) (last_right r.tokens)) rs
  unfolding cooked_on
  cooks_joined h = rw (h, cooked_on)

  pub cooks_apart : joinable c.kind c.right r ≡ false
      → cooked_on c (r ∷ rs) ≡ closed c ++ cooked_on (fresh c r.kind (pieces_length r.tokens) (length r.tokens) (last_right r.tokens)) rs
  unfolding cooked_on
  cooks_apart h = rw (h, cooked_on)

-- an operation put into its room

pub closes_none : (c : Current) (at : ℕ) (o : List ℕ) → c.count ≡ 0 → Closed c at o o at
unfolding flat_operations
closes_none c at o h = record { next = rw (closed_none c h) (omega arith); stands = rw (closed_none c h) (sym (placed_none o (at * 6))) }

pub closes_some : (c : Current) (at : ℕ) (o o' : List ℕ) → (c.count ≡ 0 → ⊥) → at * 6 + 6 ≤ length o → o' ≡ put_operation o at (as_operation c) → Closed c at o o' (at + 1)
unfolding filled placed flat_operations
closes_some c at o o' h l e = record { next = rw (closed_some c h); stands = rw (closed_some c h) (e ∙ put_eq o at (as_operation c) l) }

pub closes_fits : (c : Current) (at : ℕ) (o : List ℕ) → (c.count ≡ 0 → ⊥) → (at + length (closed c)) * 6 ≤ length o → at * 6 + 6 ≤ length o
closes_fits c at o h l = let e : length (closed c) ≡ 1 = rw (closed_some c h) in omega arith
