-- Shown: what an operation gives, by its kind, and how the leaf calls put it.
-- How: each kind is a case of the definition's tests.
use Prim.Native.Nat.{ℕ, ◌+◌, ◌-◌, ◌*◌, ◌/◌, ◌<◌, ◌≤◌}
use mathlib.Core.Path.{◌≡◌, sym, ◌∙◌, ap}
use mathlib.Core.Bool.{true, false}
use mathlib.Core.List.{List, [], ◌∷◌}
use native.Mathlib.Decide.{ℕ_discrete}
use native.Mathlib.Omega.{arith}
use lib.ListN.{length, take, drop, length-take, length-drop}
use lib.Dec.{leb}
use Rattle.std.proofs.Math.Nat.{le-div_iff_mul-le}
use borrow.Author.Tests.{eq-eqb, ne_eqb, le-leb, lt-leb}
use Rattle.room.specs.Placed.{placed, Put}
use Rattle.room.proofs.Placing.{put_none}
use Rattle.records.specs.declared.Operation.{Operation}
use Rattle.words.specs.Words.{Lends}
use Rattle.merging.specs.Lent.{Lent, spelling_of}
use Rattle.merging.specs.Outputs.{words_of, Span, spanned}
use Rattle.merging.proofs.Decoded.{op_insert, op_delete, op_retain}
use Rattle.written_lists.specs.Parts.{words_by, given, given_by, span_by, side_of, Lies, Told}

same_span : {k k' s s' : ℕ} {t t' : List ℕ} → k ≡ k' → s ≡ s' → t ≡ t'
    → ◌≡◌ {A = Span} (record { kind = k; side = s; text = t }) (record { kind = k'; side = s'; text = t' })
same_span p q r = λ i. record { kind = p i; side = q i; text = r i }

module _ (lent : Lent) (o : Operation) where
  words_insert : o.kind ≡ 1 → words_by lent o ≡ spelling_of lent o.first o.count
  unfolding words_by
  words_insert k = ap (words_of lent) (op_insert 0 o k)

  words_part : (o.kind ≡ 1 → ⊥) → words_by lent o ≡ take o.length (drop o.order lent.original)
  unfolding words_by
  words_part k =
      elim (ℕ_discrete o.kind 0) [
        | yes z ↦ ap (words_of lent) (op_delete 0 o k z)
        | no z ↦ ap (words_of lent) (op_retain 0 o k z)
      ]

  pub length_part : (o.kind ≡ 1 → ⊥) → Lies lent o → length (words_by lent o) ≡ o.length
  length_part k h = rw (words_part k, length-take, length-drop) (omega (arith, h.inside k))

  pub given_none : o.kind ≡ 0 → given_by lent o ≡ []
  unfolding given_by
  given_none z = ap (given lent) (op_delete 0 o (λ e. omega arith) z)

  pub given_words : (o.kind ≡ 0 → ⊥) → given_by lent o ≡ words_by lent o
  unfolding given_by words_by
  given_words z =
      elim (ℕ_discrete o.kind 1) [
        | yes k ↦ ap (given lent) (op_insert 0 o k) ∙ sym (ap (words_of lent) (op_insert 0 o k))
        | no k ↦ ap (given lent) (op_retain 0 o k z) ∙ sym (ap (words_of lent) (op_retain 0 o k z))
      ]

  sided : (o.kind ≡ 2 → ⊥) → side_of o ≡ o.side
  sided k = rw (ne_eqb o.kind 2 k)

  unsided : o.kind ≡ 2 → side_of o ≡ 0
  unsided k = rw (eq-eqb o.kind 2 k)

  -- a span's numbers and text
  abbrev seen : Span
  seen = record { kind = 2 - o.kind; side = side_of o; text = words_by lent o }

  pub span_is : o.kind ≤ 2 → span_by lent o ≡ seen
  unfolding span_by words_by
  span_is l =
      elim (ℕ_discrete o.kind 1) [
        | yes k ↦
            ap (spanned lent o.side) (op_insert 0 o k)
            ∙ same_span (omega arith) (sym (sided (λ e. omega arith))) (sym (ap (words_of lent) (op_insert 0 o k)))
        | no k ↦
            elim (ℕ_discrete o.kind 0) [
              | yes z ↦
                  ap (spanned lent o.side) (op_delete 0 o k z)
                  ∙ same_span (omega arith) (sym (sided (λ e. omega arith))) (sym (ap (words_of lent) (op_delete 0 o k z)))
              | no z ↦
                  ap (spanned lent o.side) (op_retain 0 o k z)
                  ∙ same_span (omega arith) (sym (unsided (omega arith))) (sym (ap (words_of lent) (op_retain 0 o k z)))
            ]
      ]

  -- the words, put by their kind
  module _ (d : List ℕ) (at : ℕ) where
    pub asks_tokens : o.kind ≡ 1 → Lies lent o → at + length (words_by lent o) ≤ length d
        → Lends lent.inserted lent.spans lent.keys o.first o.count d at
    asks_tokens k h p = record { lent = h.lends k; tokens = h.tokens k; place = rw (words_insert k) at p }

    pub puts_tokens : {d' : List ℕ} {r : ℕ} → o.kind ≡ 1 → Put (spelling_of lent o.first o.count) d at d' r → Put (words_by lent o) d at d' r
    puts_tokens k p = rw (words_insert k) p

    pub asks_original : (o.kind ≡ 1 → ⊥) → Lies lent o → at + length (words_by lent o) ≤ length d
        → (o.order + o.length ≤ length lent.original) × (at + o.length ≤ length d)
    asks_original k h p = (h.inside k, omega (arith, p, length_part k h))

    pub puts_original : {d' : List ℕ} {r : ℕ} → (o.kind ≡ 1 → ⊥) → Put (take o.length (drop o.order lent.original)) d at d' r → Put (words_by lent o) d at d' r
    puts_original k p = rw (words_part k) p

    pub gives_none : o.kind ≡ 0 → Put (given_by lent o) d at d at
    gives_none z = rw (given_none z) (put_none d at)

    pub asks_words : (o.kind ≡ 0 → ⊥) → at + length (given_by lent o) ≤ length d → at + length (words_by lent o) ≤ length d
    asks_words z p = rw (given_words z) at p

    pub gives_words : {d' : List ℕ} {r : ℕ} → (o.kind ≡ 0 → ⊥) → Put (words_by lent o) d at d' r → Put (given_by lent o) d at d' r
    gives_words z p = rw (given_words z) p

-- a span is told where its words were put
pub tells : (lent : Lent) (o : Operation) (h d : List ℕ) (i at : ℕ) {h' d' : List ℕ} {r side : ℕ} → Lies lent o → Put (words_by lent o) d at d' r → side ≡ side_of o
    → h' ≡ placed h (i * 4) ((2 - o.kind) ∷ side ∷ at ∷ (r - at) ∷ []) → Told (span_by lent o) h d i at h' d' r
tells lent o h d i at {h'} {d'} {r} {side} l p e f =
    let n : r - at ≡ length (words_by lent o) = omega (arith, p.next) in
    rw (span_is lent o l.known) (record { next = p.next; text = p.stands; span = f ∙ rw (e, n) })

-- so many records fit a room exactly when they are no more than it holds

pub room_holds : (w n x : ℕ) → 0 < w → n ≤ x / w → leb (n * w) x ≡ true
room_holds w n x h l = le-leb (n * w) x ((le-div_iff_mul-le {k = w} {x = n} {y = x} h).0 l)

pub room_short : (w n x : ℕ) → 0 < w → x / w < n → leb (n * w) x ≡ false
room_short w n x h l =
    let p : n * w ≤ x → ⊥ = λ g. omega (arith, (le-div_iff_mul-le {k = w} {x = n} {y = x} h).1 g) in
    lt-leb (n * w) x (omega arith)
