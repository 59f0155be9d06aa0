-- Shown: of an accepted list, that its operations lie in what was lent, that its text and history are what its records give one by one, and how long they are.
-- How: by induction on the list, each operation by its kind; its order is the original text consumed before it.
use Prim.Native.Nat.{ℕ, suc, ◌+◌, ◌*◌, ◌≤◌}
use mathlib.Core.Path.{◌≡◌, refl, sym, ◌∙◌, ap}
use mathlib.Core.Logic.{◌⊎◌, inl, inr, ⊎_elim}
use mathlib.Core.List.{List, [], ◌∷◌, ◌++◌}
use native.Mathlib.Decide.{ℕ_discrete}
use native.Mathlib.Omega.{arith}
use lib.ListN.{length, length-append}
use borrow.Author.Tests.{eq-eqb, ne_eqb}
use Rattle.records.specs.declared.Operation.{Operation}
use Rattle.records.specs.declared.Cursor.{Cursor}
use Rattle.sizes.specs.declared.Limits.{Limits}
use Rattle.sizes.specs.Texts.{total, text_length}
use Rattle.shapes.specs.Accepted.{Tiles, Insert as Adds, Part, Shapes, AcceptedList}
use Rattle.shapes.proofs.Accepted.{text_length_lem}
use Rattle.merging.specs.declared.Op.{Op}
use Rattle.merging.specs.declared.Op.TheVariants.{Delete, Insert, Retain}
use Rattle.merging.specs.Lent.{Lent}
use Rattle.merging.specs.Operations.{op_of, span_of, ops_from, outs_from}
use Rattle.merging.specs.Outputs.{text_of, Span, spanned, history_of, history_text, flat_spans}
use Rattle.merging.proofs.Decoded.{op_insert, op_delete, op_retain}
use Rattle.merging_laws.proofs.Decoding.{text_of_lem, tiles_insert, tiles_part}
use Rattle.written_lists.specs.Parts.{words_by, given, given_by, text_by, span_by, history_by, removed_by, Lies, AllLie}
use Rattle.apply.specs.Answers.{text_on, history_on}
use Rattle.written_lists.proofs.Parts.{length_part, given_none, given_words, span_is}

-- where an operation stands changes nothing of what it gives

by_kind : (o : Operation) (P : Type 0) → (o.kind ≡ 1 → P) → ((o.kind ≡ 1 → ⊥) → o.kind ≡ 0 → P) → ((o.kind ≡ 1 → ⊥) → (o.kind ≡ 0 → ⊥) → P) → P
by_kind o P f g h = elim (ℕ_discrete o.kind 1) [ yes k ↦ f k | no k ↦ elim (ℕ_discrete o.kind 0) [ yes z ↦ g k z | no z ↦ h k z ] ]

module _ (lent : Lent) where
  given_at : (at : ℕ) (o : Operation) → given lent (op_of at o) ≡ given_by lent o
  unfolding given_by
  given_at at o =
      by_kind o _ (λ k. ap (given lent) (op_insert at o k) ∙ sym (ap (given lent) (op_insert 0 o k)))
      (λ k z. ap (given lent) (op_delete at o k z) ∙ sym (ap (given lent) (op_delete 0 o k z)))
      (λ k z. ap (given lent) (op_retain at o k z) ∙ sym (ap (given lent) (op_retain 0 o k z)))

  spanned_at : (at : ℕ) (o : Operation) → spanned lent o.side (op_of at o) ≡ span_by lent o
  unfolding span_by
  spanned_at at o =
      by_kind o _ (λ k. ap (spanned lent o.side) (op_insert at o k) ∙ sym (ap (spanned lent o.side) (op_insert 0 o k)))
      (λ k z. ap (spanned lent o.side) (op_delete at o k z) ∙ sym (ap (spanned lent o.side) (op_delete 0 o k z)))
      (λ k z. ap (spanned lent o.side) (op_retain at o k z) ∙ sym (ap (spanned lent o.side) (op_retain 0 o k z)))

  text_first : (a : Op) (ls : List Op) → text_of lent (a ∷ ls) ≡ given lent a ++ text_of lent ls
  unfolding text_of
  text_first (Delete o l) ls = refl
  text_first (Insert o f n) ls = refl
  text_first (Retain o l) ls = refl

  text_records : (os : List Operation) (at : ℕ) → text_of lent (ops_from at os) ≡ text_by lent os
  unfolding text_by ops_from text_of
  text_records [] at = refl
  text_records (o ∷ os) at = text_first (op_of at o) (ops_from (at + span_of (op_of at o)) os) ∙ rw (given_at at o, text_records os (at + span_of (op_of at o)))

  history_records : (os : List Operation) (at : ℕ) → history_of lent (outs_from at os) ≡ history_by lent os
  unfolding history_by outs_from history_of
  history_records [] at = refl
  history_records (o ∷ os) at = rw (spanned_at at o, history_records os (at + span_of (op_of at o)))

  pub history_is : (os : List Operation) → history_on lent os ≡ history_by lent os
  unfolding history_on
  history_is os = history_records os 0

  -- an accepted list's operations lie in what was lent

  lies : (o : Operation) → Adds (length lent.inserted) lent.spans lent.keys o ⊎ Part o → ((o.kind ≡ 1 → ⊥) → o.order + o.length ≤ length lent.original)
      → Lies lent o
  lies o (inl a) i = record { known = omega (arith, a.kind); lends = λ k. a.lent; tokens = λ k. a.tokens; inside = i }
  lies o (inr p) i =
      ⊎_elim
      (λ (z : o.kind ≡ 0). record { known = omega arith; lends = λ k. absurd (omega arith); tokens = λ k. absurd (omega arith); inside = i })
      (λ (z : o.kind ≡ 2). record { known = omega arith; lends = λ k. absurd (omega arith); tokens = λ k. absurd (omega arith); inside = i })
      p.kind

  abbrev n : ℕ
  n = length lent.original

  all_lie : (os : List Operation) (at : ℕ) → Shapes (length lent.inserted) lent.spans lent.keys os → Tiles n os at → AllLie lent os
  unfolding Shapes AllLie
  all_lie [] at s t = tt
  all_lie (o ∷ os) at s t = (
    lies o s.1.0 (λ k. omega (arith, (tiles_part n o os at k t).0, (tiles_part n o os at k t).1.0)),
    elim (ℕ_discrete o.kind 1) [
      | yes k ↦ all_lie os at s.1.1 (tiles_insert n o os at k t)
      | no k ↦ all_lie os (at + o.length) s.1.1 (tiles_part n o os at k t).1.1
    ],
  )

  removed_none : (o : Operation) → (o.kind ≡ 0 → ⊥) → removed_by o ≡ 0
  removed_none o z = rw (ne_eqb o.kind 0 z)

  removed_all : (o : Operation) → o.kind ≡ 0 → removed_by o ≡ o.length
  removed_all o z = rw (eq-eqb o.kind 0 z)

  -- what is removed is of the original
  removed_from : (os : List Operation) (at : ℕ) → Tiles n os at → at + total removed_by os ≤ n
  unfolding total Tiles
  removed_from [] at t = omega (arith, t)
  removed_from (o ∷ os) at t =
      by_kind o _ (λ k. omega (arith, removed_none o (λ z. omega arith), removed_from os at (tiles_insert n o os at k t)))
      (λ k z. omega (arith, removed_all o z, removed_from os (at + o.length) (tiles_part n o os at k t).1.1))
      (λ k z. omega (arith, removed_none o z, removed_from os (at + o.length) (tiles_part n o os at k t).1.1))

  -- the history's text is the list's text and what is removed
  span_words : (o : Operation) → Lies lent o → length (span_by lent o).text ≡ length (given_by lent o) + removed_by o
  span_words o l =
      let e : length (span_by lent o).text ≡ length (words_by lent o) = ap (λ (s : Span). length s.text) (span_is lent o l.known) in
      elim (ℕ_discrete o.kind 0) [
        | yes z ↦
            let g : length (given_by lent o) ≡ 0 = ap length (given_none lent o z) in
            omega (arith, e, g, removed_all o z, length_part lent o (λ k. omega arith) l)
        | no z ↦
            let g : length (given_by lent o) ≡ length (words_by lent o) = ap length (given_words lent o z) in
            omega (arith, e, g, removed_none o z)
      ]

  told_length : (os : List Operation) → AllLie lent os → length (history_text (history_by lent os)) ≡ length (text_by lent os) + total removed_by os
  unfolding AllLie history_by history_text text_by total
  told_length [] a = refl
  told_length (o ∷ os) a = rw (length-append (span_by lent o).text (history_text (history_by lent os)), length-append (given_by lent o) (text_by lent os)) (omega (arith, span_words o a.0, told_length os a.1))

  pub length_history : (os : List Operation) → length (history_by lent os) ≡ length os
  unfolding history_by
  length_history [] = refl
  length_history (o ∷ os) = ap suc (length_history os)

  pub length_spans : (ss : List Span) (at : ℕ) → length (flat_spans at ss) ≡ length ss * 4
  unfolding flat_spans
  length_spans [] at = refl
  length_spans (s ∷ ss) at = omega (arith, length_spans ss (at + length s.text))

  module _ (l : Limits) (os : List Operation) (cs : List Cursor) (a : AcceptedList l lent.original lent.inserted lent.spans lent.keys os cs) where
    pub lists_lie : AllLie lent os
    lists_lie = all_lie os 0 a.shapes a.tiles

    pub text_is : text_on lent os ≡ text_by lent os
    unfolding text_on
    text_is = text_of_lem lent n os 0 (record { shapes = a.shapes; tiles = a.tiles }) ∙ text_records os 0

    pub text_count : length (text_on lent os) ≡ text_length (length lent.inserted) lent.spans lent.keys os
    unfolding text_on
    text_count = text_length_lem lent.original lent.inserted lent.spans lent.keys l os cs a

    pub removed_most : total removed_by os ≤ 65535
    removed_most = omega (arith, removed_from os 0 a.tiles, a.original_most)

    pub told_count : length (history_text (history_on lent os)) ≡ length (text_on lent os) + total removed_by os
    told_count = rw (history_is os, text_is) (told_length os lists_lie)
