-- The loop over the pairs of two lists: what is left of both has the priority of the whole.
-- What is left of a list is taken apart once, by its next record; the rest are cases of the definition. Assumes nothing.
use Prim.Native.Nat.{ℕ, ◌+◌, ◌-◌, ◌/◌, min, ◌≤◌, ◌<◌, zero-le}
use mathlib.Core.Path.{◌≡◌, refl, sym, ◌∙◌}
use mathlib.Core.List.{List, [], ◌∷◌}
use mathlib.Core.Logic.{◌⊎◌, ⊎_elim}
use native.Mathlib.Omega.{arith}
use native.Mathlib.Decide.{dec_le}
use Rattle.std.proofs.lemmas.Cmp.{by_ranked, ranked}
use lib.ListN.{length}
use Rattle.std.specs.declared.cmp.Ordering.{Ordering}
use Rattle.std.specs.declared.cmp.Ordering.TheVariants.{Less, Equal, Greater}
use Rattle.std.specs.Ordering.{nat_cmp, ordering_then}
use Rattle.records.specs.declared.Operation.{Operation}
use Rattle.records.specs.Operations.{operation_at, operations_from, operations_of}
use Rattle.records.proofs.OperationLaws.{from_more, from_none}
use Rattle.merging.specs.declared.Op.{Op}
use Rattle.merging.specs.Lent.{Lent}
use Rattle.merging.specs.Operations.{op_of, ops_from, span_of}
use Rattle.merging.specs.OrderRule.{order_rule, priority_of}
use Rattle.numbers.specs.Sizes.{most}
use Rattle.order.specs.Readable.{Readable, Ready, SamePart}
use Rattle.merging.proofs.Decoded.{op_delete, op_retain}
use Rattle.order.proofs.Comparing.{itself, equal_spans}

-- what is left of a list at place i, with `at` of the original consumed before
abbrev pub rest : List ℕ → ℕ → ℕ → List Op
rest xs at i = ops_from at (operations_from xs i (length xs / 6 - i))

module _ (xs : List ℕ) where
  rest_start : rest xs 0 0 ≡ ops_from 0 (operations_of xs)
  unfolding operations_of
  rest_start = let e : length xs / 6 - 0 ≡ length xs / 6 = omega arith in rw e

  module _ (at i : ℕ) where
    rest_none : length xs / 6 ≤ i → rest xs at i ≡ []
    unfolding ops_from
    rest_none h = rw (from_none xs i (length xs / 6) h)

    rest_more : {o : Operation} {a : Op} → i < length xs / 6 → o ≡ operation_at xs i → a ≡ op_of at o → rest xs at i ≡ a ∷ rest xs (at + span_of a) (i + 1)
    unfolding ops_from
    rest_more h e f = rw (from_more xs i (length xs / 6) h, f, e)

-- two records that are one retain or delete: one operation, and what it consumes
module _ {x y : Operation} (s : SamePart x y) (at : ℕ) where
  same_op : op_of at x ≡ op_of at y
  same_op =
      let n : y.kind ≡ 1 → ⊥ = λ e. s.part (s.kind ∙ e) in
      elim (dec_le x.kind 0) [
        | yes h ↦ op_delete at x s.part (omega arith) ∙ rw (s.order, s.length) (sym (op_delete at y n (omega (arith, s.kind))))
        | no h ↦ op_retain at x s.part (λ e. h (omega arith)) ∙ rw (s.order, s.length) (sym (op_retain at y n (λ e. h (omega (arith, s.kind)))))
      ]

  part_span : x.length ≡ span_of (op_of at x)
  part_span =
      elim (dec_le x.kind 0) [ yes h ↦ rw (op_delete at x s.part (omega arith)) | no h ↦ rw (op_retain at x s.part (λ e. h (omega arith))) ]

  same_order : (lent : Lent) → order_rule lent (op_of at x) (op_of at y) ≡ Equal
  same_order lent = rw same_op (itself lent (op_of at y))

-- the next operation of a list that is ready, and what is behind it
ready_more : (text spans keys : List ℕ) (at : ℕ) {a : Op} {ls ms : List Op} → Ready text spans keys at ls → ls ≡ a ∷ ms
    → Readable text spans keys a × (at + span_of a ≤ most) × Ready text spans keys (at + span_of a) ms
unfolding Ready
ready_more text spans keys at h e = rw e at h

decides : (x y : Ordering) → (x ≡ Equal → ⊥) → ordering_then x y ≡ x
decides Less y n = refl
decides Equal y n = absurd (n refl)
decides Greater y n = refl

-- the priority of the whole lists
abbrev pub whole : Lent → List ℕ → List ℕ → Ordering
whole lent left right = priority_of lent (ops_from 0 (operations_of left)) (ops_from 0 (operations_of right))

-- between two turns, before the pair at i, which no list ends before. Equal pairs consume as much, so both lists consumed `at`.
pub record Paired (lent : Lent) (left right : List ℕ) (at i : ℕ) : Type 0 where
  pub left_most : i ≤ length left / 6
  pub right_most : i ≤ length right / 6
  pub left_ready : Ready lent.inserted lent.spans lent.keys at (rest left at i)
  pub right_ready : Ready lent.inserted lent.spans lent.keys at (rest right at i)
  pub same : priority_of lent (rest left at i) (rest right at i) ≡ whole lent left right

module _ {lent : Lent} {left right : List ℕ} where
  pub paired_starts : Ready lent.inserted lent.spans lent.keys 0 (ops_from 0 (operations_of left))
      → Ready lent.inserted lent.spans lent.keys 0 (ops_from 0 (operations_of right)) → Paired lent left right 0 0
  paired_starts h k =
      record { left_most = zero-le; right_most = zero-le; left_ready = rw (rest_start left) h; right_ready = rw (rest_start right) k; same = rw (rest_start left, rest_start right) }

  module _ {at i : ℕ} (g : Paired lent left right at i) where
    both_end : length left / 6 ≤ i → length right / 6 ≤ i → Equal ≡ whole lent left right
    unfolding priority_of
    both_end h k = rw (rest_none left at i h, rest_none right at i k) at g.same

    left_ends : length left / 6 ≤ i → i < length right / 6 → Less ≡ whole lent left right
    unfolding priority_of
    left_ends h k = rw (rest_none left at i h, rest_more right at i k refl refl) at g.same

    right_ends : i < length left / 6 → length right / 6 ≤ i → Greater ≡ whole lent left right
    unfolding priority_of
    right_ends h k = rw (rest_more left at i h refl refl, rest_none right at i k) at g.same

    -- the pair at i
    module _ {o q : Operation} {a b : Op} (h : i < length left / 6) (k : i < length right / 6) (d : o ≡ operation_at left i) (e : a ≡ op_of at o)
        (f : q ≡ operation_at right i) (z : b ≡ op_of at q) where
      pub left_reads : Readable lent.inserted lent.spans lent.keys a × (at + span_of a ≤ most) × Ready lent.inserted lent.spans lent.keys (at + span_of a) (rest left (at + span_of a) (i + 1))
      left_reads = ready_more _ _ _ at g.left_ready (rest_more left at i h d e)

      pub right_reads : Readable lent.inserted lent.spans lent.keys b × (at + span_of b ≤ most) × Ready lent.inserted lent.spans lent.keys (at + span_of b) (rest right (at + span_of b) (i + 1))
      right_reads = ready_more _ _ _ at g.right_ready (rest_more right at i k f z)

      -- it comes first, and what is behind it where it is equal
      pair : ordering_then (order_rule lent a b) (priority_of lent (rest left (at + span_of a) (i + 1)) (rest right (at + span_of b) (i + 1))) ≡ whole lent left right
      unfolding priority_of
      pair = rw (rest_more left at i h d e, rest_more right at i k f z) at g.same

      pub pair_decides : {r : Ordering} → r ≡ order_rule lent a b → (r ≡ Equal → ⊥) → r ≡ whole lent left right
      pair_decides {r} x n = sym (decides r _ n) ∙ (rw (← x) at pair)

      pub pair_equal : {s : ℕ} → order_rule lent a b ≡ Equal → s ≡ span_of a → Paired lent left right (at + s) (i + 1)
      pair_equal x u =
          let e : span_of b ≡ span_of a = sym (equal_spans lent a b x) in
          rw u (record { left_most = omega arith; right_most = omega arith; left_ready = left_reads.2; right_ready = rw e at right_reads.2; same = rw (x, e) at pair })

    -- where it is one retain or delete
    module _ {o q : Operation} (h : i < length left / 6) (k : i < length right / 6) (d : o ≡ operation_at left i) (f : q ≡ operation_at right i) (s : SamePart o q) where
      pub part_fits : at + o.length ≤ most
      part_fits = rw (part_span s at) (left_reads h k d refl f refl).1

      pub part_same : Paired lent left right (at + o.length) (i + 1)
      part_same = pair_equal h k d refl f refl (same_order s at lent) (part_span s at)

    -- the shorter list first
    pub ends : (length left / 6 ≤ i) ⊎ (length right / 6 ≤ i) → nat_cmp (length left / 6) (length right / 6) ≡ whole lent left right
    ends e =
        let m : min (length left / 6) (length right / 6) ≤ i = ⊎_elim (λ (h : length left / 6 ≤ i). omega arith) (λ (k : length right / 6 ≤ i). omega arith) e in
        let a : i ≤ length left / 6 = g.left_most in
        let b : i ≤ length right / 6 = g.right_most in
        by_ranked _ _ _ (nat_cmp (length left / 6) (length right / 6)) (ranked (length left / 6) (length right / 6) _ refl)
        (λ r z. r ∙ left_ends (omega arith) (omega arith)) (λ r z. r ∙ both_end (omega arith) (omega arith)) (λ r z. r ∙ right_ends (omega arith) (omega arith))
