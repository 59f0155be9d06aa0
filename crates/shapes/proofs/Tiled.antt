-- Refusals 2 and 5: a list's operations against the original, and cursors against the text's end, one after another.
-- What is left, from where the loop stands, gives the answer of the whole. Assumes nothing.
use Prim.Native.Nat.{ℕ, ◌+◌, ◌-◌, ◌/◌, ◌≤◌, ◌<◌, zero-le}
use mathlib.Core.Path.{◌≡◌}
use mathlib.Core.List.{List, [], ◌∷◌}
use native.Mathlib.Omega.{arith}
use native.Mathlib.Nat.{sub-zero}
use lib.ListN.{length}
use borrow.Author.Tests.{eq-eqb, ne_eqb, le-leb, lt-leb}
use Rattle.refusal.specs.declared.Refusal.TheVariants as R
use Rattle.records.specs.declared.Operation.{Operation}
use Rattle.records.specs.declared.Cursor.{Cursor}
use Rattle.records.specs.Operations.{operation_at, operations_from, operations_of}
use Rattle.records.specs.Cursors.{cursor_at, cursors_from, cursors_of}
use Rattle.records.proofs.OperationLaws as O
use Rattle.records.proofs.CursorLaws as C
use Rattle.shapes.specs.Tiling.{tiling_from, tiling_of, within_from}
use Rattle.std.specs.Prelude.{Err}
use Rattle.verdict.specs.Verdicts.{accepted}

pub record Tiled (n : ℕ) (xs : List ℕ) (count i at : ℕ) : Type 0 where
  pub most : i ≤ count
  pub inside : at ≤ n
  pub rest : tiling_from n (operations_from xs i (count - i)) i at ≡ tiling_of n (operations_of xs)

pub tiled_begin : (n : ℕ) (xs : List ℕ) (count : ℕ) → count ≡ length xs / 6 → Tiled n xs count 0 0
unfolding operations_of
tiled_begin n xs count e = record { most = zero-le; inside = zero-le; rest = rw (sub-zero, e) }

module _ {n : ℕ} {xs : List ℕ} {count i at : ℕ} (h : Tiled n xs count i at) where
  module _ (o : Operation) (l : i < count) (e : o ≡ operation_at xs i) where
    here : tiling_from n (o ∷ operations_from xs (i + 1) (count - (i + 1))) i at ≡ tiling_of n (operations_of xs)
    here = rw e (rw (O.from_more xs i count l) at h.rest)

    pub tiled_insert : o.kind ≡ 1 → Tiled n xs count (i + 1) at
    unfolding tiling_from
    tiled_insert k = record { most = omega arith; inside = h.inside; rest = rw (eq-eqb _ _ k, tiling_from) at here }

    module _ (k : o.kind ≡ 1 → ⊥) where
      pub tiled_order : (o.order ≡ at → ⊥) → Err (R.Tiling i) ≡ tiling_of n (operations_of xs)
      unfolding tiling_from
      tiled_order q = rw (ne_eqb _ _ k, ne_eqb _ _ q, tiling_from) at here

      pub tiled_long : o.order ≡ at → n - at < o.length → Err (R.Tiling i) ≡ tiling_of n (operations_of xs)
      unfolding tiling_from
      tiled_long q g = rw (ne_eqb _ _ k, eq-eqb _ _ q, lt-leb (at + o.length) n (omega (arith, h.inside)), tiling_from) at here

      pub tiled_on : o.order ≡ at → o.length ≤ n - at → Tiled n xs count (i + 1) (at + o.length)
      unfolding tiling_from
      tiled_on q g =
          let w : at + o.length ≤ n = omega (arith, h.inside) in
          record { most = omega arith; inside = w; rest = rw (ne_eqb _ _ k, eq-eqb _ _ q, le-leb (at + o.length) n w, tiling_from) at here }

  module _ (l : count ≤ i) where
    none : tiling_from n [] i at ≡ tiling_of n (operations_of xs)
    none = rw (O.from_none xs i count l) at h.rest

    pub tiled_end : at ≡ n → accepted ≡ tiling_of n (operations_of xs)
    unfolding tiling_from
    tiled_end q = rw (eq-eqb _ _ q, tiling_from) at none

    pub tiled_short : (at ≡ n → ⊥) → Err (R.Tiling count) ≡ tiling_of n (operations_of xs)
    unfolding tiling_from
    tiled_short q =
        let e : i ≡ count = omega (arith, h.most) in
        rw (ne_eqb _ _ q, e, tiling_from) at none

-- cursors

pub record Marking (end : ℕ) (xs : List ℕ) (count i : ℕ) : Type 0 where
  pub most : i ≤ count
  pub rest : within_from end (cursors_from xs i (count - i)) i ≡ within_from end (cursors_of xs) 0

pub marks_begin : (end : ℕ) (xs : List ℕ) (count : ℕ) → count ≡ length xs / 2 → Marking end xs count 0
unfolding cursors_of
marks_begin end xs count e = record { most = zero-le; rest = rw (sub-zero, e) }

module _ {end : ℕ} {xs : List ℕ} {count i : ℕ} (h : Marking end xs count i) where
  module _ (c : Cursor) (l : i < count) (e : c ≡ cursor_at xs i) where
    mark : within_from end (c ∷ cursors_from xs (i + 1) (count - (i + 1))) i ≡ within_from end (cursors_of xs) 0
    mark = rw e (rw (C.from_more xs i count l) at h.rest)

    pub marks_on : c.index ≤ end → Marking end xs count (i + 1)
    unfolding within_from
    marks_on g = record { most = omega arith; rest = rw (le-leb _ _ g, within_from) at mark }

    pub marks_past : end < c.index → Err (R.Cursor i) ≡ within_from end (cursors_of xs) 0
    unfolding within_from
    marks_past g = rw (lt-leb _ _ g, within_from) at mark

  pub marks_end : count ≤ i → accepted ≡ within_from end (cursors_of xs) 0
  unfolding within_from
  marks_end l = rw (C.from_none xs i count l) at h.rest
