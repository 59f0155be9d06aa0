-- Refusal 1: a run's tokens, an operation, and a list's operations, one after another.
-- What is left, from where the loop stands, gives the answer of the whole. Assumes nothing.
use Prim.Native.Nat.{ℕ, ◌+◌, ◌-◌, ◌/◌, ◌≤◌, ◌<◌, zero-le}
use mathlib.Core.Path.{◌≡◌}
use mathlib.Core.Bool.{Bool, true, false, ◌&&◌}
use mathlib.Core.List.{List, ◌∷◌}
use native.Mathlib.Omega.{arith}
use native.Mathlib.Nat.{sub-zero}
use native.Mathlib.Decide.{ℕ_discrete}
use lib.ListN.{length}
use lib.Dec.{ltb}
use borrow.Author.Tests.{eq-eqb, ne_eqb, lt-ltb, le-ltb}
use Rattle.refusal.specs.declared.Refusal.TheVariants.{Record}
use Rattle.records.specs.declared.Operation.{Operation}
use Rattle.records.specs.declared.Token.{Token}
use Rattle.records.specs.Operations.{operation_at, operations_from, operations_of}
use Rattle.records.specs.Tokens.{token_at, tokens_from}
use Rattle.records.proofs.OperationLaws as O
use Rattle.records.proofs.TokenLaws as T
use Rattle.sizes.specs.Texts.{in_text, run_lent}
use Rattle.shapes.specs.Shapes.{run_good, is_run, is_record, records_from}
use Rattle.std.specs.Prelude.{Err}
use Rattle.verdict.specs.Verdicts.{accepted}

-- the tokens of a run

pub record Looking (spans keys : List ℕ) (n first count end i : ℕ) : Type 0 where
  pub low : first ≤ i
  pub most : i ≤ end
  pub rest : run_good n (tokens_from spans keys i (end - i)) ≡ run_good n (tokens_from spans keys first count)

module _ {spans keys : List ℕ} {n first count end i : ℕ} (h : Looking spans keys n first count end i) where
  whole : Bool
  whole = run_good n (tokens_from spans keys first count)

  module _ (t : Token) (l : i < end) (e : t ≡ token_at spans keys i) where
    here : (ltb 0 t.length && in_text n t) && run_good n (tokens_from spans keys (i + 1) (end - (i + 1))) ≡ whole
    unfolding run_good whole
    here = rw e (rw (T.from_more spans keys i end l) at h.rest)

    pub looks_empty : t.length ≡ 0 → false ≡ run_good n (tokens_from spans keys first count)
    unfolding whole
    looks_empty z = rw (le-ltb 0 t.length (omega arith)) at here

    pub looks_out : (t.length ≡ 0 → ⊥) → in_text n t ≡ false → false ≡ run_good n (tokens_from spans keys first count)
    unfolding whole
    looks_out z b = rw (lt-ltb 0 t.length (omega arith), b) at here

    pub looks_on : (t.length ≡ 0 → ⊥) → in_text n t ≡ true → Looking spans keys n first count end (i + 1)
    unfolding whole
    looks_on z b = record { low = omega (arith, h.low); most = omega arith; rest = rw (lt-ltb 0 t.length (omega arith), b) at here }

  pub looks_end : end ≤ i → true ≡ run_good n (tokens_from spans keys first count)
  unfolding run_good
  looks_end l = rw (T.from_none spans keys i end l) at h.rest

-- an insert's run, and an operation

module _ (n : ℕ) (spans keys : List ℕ) (o : Operation) where
  pub run_none : o.count ≡ 0 → false ≡ is_run n spans keys o
  run_none h = rw (le-ltb 0 o.count (omega arith))

  pub run_out : (o.count ≡ 0 → ⊥) → run_lent spans keys o ≡ false → false ≡ is_run n spans keys o
  run_out h e = rw (lt-ltb 0 o.count (omega arith), e)

  pub run_is : (r : Bool) → (o.count ≡ 0 → ⊥) → run_lent spans keys o ≡ true → r ≡ run_good n (tokens_from spans keys o.first o.count)
      → r ≡ is_run n spans keys o
  run_is r h e f = rw (lt-ltb 0 o.count (omega arith), e) f

  pub record_side : 1 < o.side → false ≡ is_record n spans keys o
  record_side h = rw (le-ltb o.side 2 (omega arith))

  module _ (s : o.side ≤ 1) where
    pub record_insert : (r : Bool) → o.kind ≡ 1 → r ≡ is_run n spans keys o → r ≡ is_record n spans keys o
    record_insert r h e = rw (lt-ltb o.side 2 (omega arith), eq-eqb _ _ h) e

    pub record_unknown : 2 < o.kind → false ≡ is_record n spans keys o
    record_unknown h =
        rw (
          lt-ltb o.side 2 (omega arith),
          ne_eqb o.kind 1 (λ e. omega arith),
          ne_eqb o.kind 0 (λ e. omega arith),
          ne_eqb o.kind 2 (λ e. omega arith),
        )

    pub record_part : (o.kind ≡ 1 → ⊥) → o.kind ≤ 2 → ltb 0 o.length ≡ is_record n spans keys o
    record_part h g = go (ℕ_discrete o.kind 0)
      where
        go : Dec (o.kind ≡ 0) → ltb 0 o.length ≡ is_record n spans keys o
        go (yes e) = rw (lt-ltb o.side 2 (omega arith), ne_eqb o.kind 1 h, eq-eqb o.kind 0 e)
        go (no e) = rw (lt-ltb o.side 2 (omega arith), ne_eqb o.kind 1 h, ne_eqb o.kind 0 e, eq-eqb o.kind 2 (omega arith))

-- the operations of a list

pub record Recording (n : ℕ) (spans keys xs : List ℕ) (count i : ℕ) : Type 0 where
  pub most : i ≤ count
  pub rest : records_from n spans keys (operations_from xs i (count - i)) i ≡ records_from n spans keys (operations_of xs) 0

pub records_begin : (n : ℕ) (spans keys xs : List ℕ) (count : ℕ) → count ≡ length xs / 6 → Recording n spans keys xs count 0
unfolding operations_of
records_begin n spans keys xs count e = record { most = zero-le; rest = rw (sub-zero, e) }

module _ {n : ℕ} {spans keys xs : List ℕ} {count i : ℕ} (h : Recording n spans keys xs count i) where
  module _ (o : Operation) (l : i < count) (e : o ≡ operation_at xs i) where
    whole_from : records_from n spans keys (o ∷ operations_from xs (i + 1) (count - (i + 1))) i ≡ records_from n spans keys (operations_of xs) 0
    whole_from = rw e (rw (O.from_more xs i count l) at h.rest)

    pub records_on : is_record n spans keys o ≡ true → Recording n spans keys xs count (i + 1)
    unfolding records_from
    records_on b = record { most = omega arith; rest = rw (b, records_from) at whole_from }

    pub records_bad : is_record n spans keys o ≡ false → Err (Record i) ≡ records_from n spans keys (operations_of xs) 0
    unfolding records_from
    records_bad b = rw (b, records_from) at whole_from

  pub records_end : count ≤ i → accepted ≡ records_from n spans keys (operations_of xs) 0
  unfolding records_from
  records_end l = rw (O.from_none xs i count l) at h.rest
