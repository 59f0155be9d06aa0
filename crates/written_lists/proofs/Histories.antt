-- Shown: the history of a list is put into its two rooms, one operation at a turn: the invariant, and its three ways.
-- How: the text room is filled as the list's text is; a span is put where the last one ended.
use Prim.Native.Nat.{ℕ, ◌+◌, ◌*◌, ◌/◌, ◌≤◌, ◌<◌}
use mathlib.Core.Path.{◌≡◌, refl, sym, ◌∙◌, ap}
use mathlib.Core.List.{List, [], ◌∷◌, ◌++◌}
use native.Mathlib.Omega.{arith}
use lib.ListN.{length}
use Rattle.room.specs.Placed.{placed}
use Rattle.room.proofs.Answers.{at_start}
use Rattle.room.proofs.Placing.{placed_none, placed_length, placed_more}
use Rattle.records.specs.declared.Operation.{Operation}
use Rattle.records.specs.Operations.{operation_at, operations_of}
use Rattle.records.proofs.OperationLaws.{from_more, from_none, length_of_lem}
use Rattle.merging.specs.Lent.{Lent}
use Rattle.merging.specs.Outputs.{Span, history_text, flat_spans}
use Rattle.written_lists.specs.Parts.{words_by, span_by, history_by, Lies, AllLie, Told, Wrote}
use Rattle.written_lists.proofs.Parts.{span_is}
use Rattle.written_lists.proofs.Texts.{left, left_all, Gives, Filling, fill_begins, fill_ends, fill_fits, fill_on, lie_all, lie_first, lie_rest}

-- the text of a list's spans
abbrev told_by : Lent → List Operation → List ℕ
told_by lent os = history_text (history_by lent os)

abbrev told_in : Lent → Operation → List ℕ
told_in lent o = (span_by lent o).text

pub gives_told : (lent : Lent) → Gives (told_in lent) (told_by lent)
unfolding history_text history_by
gives_told lent = record { none = refl; more = λ o os. refl }

pub record Telling (lent : Lent) (xs h d h' d' : List ℕ) (i at : ℕ) : Type 0 where
  pub lie : AllLie lent (left xs i)
  pub text : Filling (told_by lent) xs d d' i at
  pub same : length h' ≡ length h
  pub stands : placed h' (i * 4) (flat_spans at (history_by lent (left xs i))) ≡ placed h 0 (flat_spans 0 (history_by lent (operations_of xs)))

module _ (lent : Lent) (xs h d : List ℕ) where
  pub tell_begins : AllLie lent (operations_of xs) → Telling lent xs h d h d 0 0
  tell_begins a =
      record {
        lie = lie_all lent xs a;
        text = fill_begins (told_in lent) (told_by lent) (gives_told lent) xs d;
        same = refl;
        stands = ap (λ (os : List Operation). placed h 0 (flat_spans 0 (history_by lent os))) (left_all xs);
      }

  module _ {h' d' : List ℕ} {i at : ℕ} (t : Telling lent xs h d h' d' i at) where
    pub tell_ends : length xs / 6 ≤ i → Wrote (history_by lent (operations_of xs)) h d h' d'
    unfolding history_by flat_spans
    tell_ends l =
        let n : flat_spans at (history_by lent (left xs i)) ≡ [] = ap (λ (os : List Operation). flat_spans at (history_by lent os)) (from_none xs i (length xs / 6) l) in
        record {
          spans = sym (placed_none h' (i * 4)) ∙ ap (placed h' (i * 4)) (sym n) ∙ t.stands ∙ at_start (flat_spans 0 (history_by lent (operations_of xs))) h;
          text = fill_ends (told_in lent) (told_by lent) (gives_told lent) xs d t.text l;
        }

    module _ (l : i < length xs / 6) (spans : length (operations_of xs) * 4 ≤ length h) (room : length (told_by lent (operations_of xs)) ≤ length d) (o : Operation)
        (e : o ≡ operation_at xs i) where
      abbrev four : List ℕ
      four = (span_by lent o).kind ∷ (span_by lent o).side ∷ at ∷ length (span_by lent o).text ∷ []

      next : flat_spans at (history_by lent (left xs i)) ≡ four ++ flat_spans (at + length (span_by lent o).text) (history_by lent (left xs (i + 1)))
      unfolding history_by flat_spans
      next = ap (λ (os : List Operation). flat_spans at (history_by lent os)) (from_more xs i (length xs / 6) l) ∙ rw e

      lies : Lies lent o
      lies = lie_first lent xs i o l e t.lie

      place : i * 4 + 4 ≤ length h'
      place = omega (arith, t.same, spans, length_of_lem xs)

      pub tell_asks : Lies lent o × ((i * 4 + 4 ≤ length h') × (at + length (words_by lent o) ≤ length d'))
      tell_asks =
          let s : (span_by lent o).text ≡ words_by lent o = ap (λ (q : Span). q.text) (span_is lent o lies.known) in
          (lies, (place, omega (arith, ap length s, fill_fits (told_in lent) (told_by lent) (gives_told lent) xs d t.text l room o e)))

      pub tell_on : {h'' d'' : List ℕ} {r : ℕ} → Told (span_by lent o) h' d' i at h'' d'' r → Telling lent xs h d h'' d'' (i + 1) r
      tell_on {h''} {d''} {r} p =
          let f : (i + 1) * 4 ≡ i * 4 + length four = omega arith in
          record {
            lie = lie_rest lent xs i l t.lie;
            text = fill_on (told_in lent) (told_by lent) (gives_told lent) xs d t.text l room o e (record { next = p.next; stands = p.text });
            same = ap length p.span ∙ placed_length h' (i * 4) four place ∙ t.same;
            stands =
                rw (p.span, p.next, f)
                (placed_more h' (i * 4) four (flat_spans (at + length (span_by lent o).text) (history_by lent (left xs (i + 1)))) (omega (arith, place))
                ∙ ap (placed h' (i * 4)) (sym next)
                ∙ t.stands);
          }
