-- Shown: the lists of two accepted edit files, in one text and one run of tokens, are those of the definition, and few enough to be merged.
-- How: what was put behind something that stands at the front of a room stands at the front with it.
use Prim.Native.Nat.{ℕ, ◌+◌, ◌*◌, ◌≤◌}
use mathlib.Core.Path.{◌≡◌, sym, ◌∙◌, ap}
use mathlib.Core.List.{List, ◌++◌}
use native.Mathlib.Omega.{arith}
use lib.ListN.{length, take, length-append}
use Rattle.room.specs.Placed.{placed, answered}
use Rattle.room.proofs.Answers.{at_start, one_more, same_room}
use Rattle.records.specs.declared.Operation.{Operation}
use Rattle.records.specs.Operations.{operations_of}
use Rattle.records.proofs.OperationLaws.{of_answered, length_answered}
use Rattle.raw_lists.specs.Raws.{Piece, flat_spans, flat_keys}
use Rattle.raw_lists.proofs.Pieces.{length_spans, length_keys, spans_append, keys_append}
use Rattle.elongate.specs.Elongated.{cooked_from, all_tokens}
use Rattle.elongate.proofs.Joining.{cooked_length}
use Rattle.edit_format.specs.Items.{Item, texts}
use Rattle.edit_format.specs.Reading.{read_file}
use Rattle.edit_format.proofs.Accepts.{accepted_good}
use Rattle.edit_format.proofs.TextLaws.{texts_length}
use Rattle.outputs.proofs.Replaying.{front}
use Rattle.edit_list.specs.declared.Listed.{Listed}
use Rattle.edit_list.specs.Raws.{list_of, items_in}
use Rattle.edit_list.specs.Lists.{Listable, Lists}
use Rattle.edit_list.proofs.Points.{good_text}
use Rattle.merge_files.specs.declared.Outcome.{Outcome}
use Rattle.merge_files.specs.Program.{tokens_of, right_of, Written}
use Rattle.merge_files.specs.Steps.{merge_result, good_result, Mergeable, Files, Texted, Rooms}
use Rattle.merge_files.proofs.Added.{left_adds, right_adds, left_claims, right_claims}

-- the front of a room that two puts made
two_puts : {A : Type 0} (s t d d₁ d₂ : List A) (n : ℕ) → d₁ ≡ placed d 0 s → n ≡ length s → d₂ ≡ placed d₁ n t → d₂ ≡ answered (s ++ t) d
two_puts s t d d₁ d₂ n e q f = f ∙ rw (q, e, at_start s d) (one_more s t d)

module _ (left right : List ℕ) (F : Files left right) (text : List ℕ) (T : Texted left right text) (lefts rights spans keys : List ℕ)
    (R : Rooms lefts rights spans keys) where
  abbrev ls : List Item
  ls = items_in (read_file left)

  abbrev rs : List Item
  rs = items_in (read_file right)

  pub left_listable : Listable left 0 0 text lefts spans keys
  left_listable =
      record {
        accepted = F.left_accepted;
        short = F.left_short;
        good = T.good;
        long = T.left_long;
        most = T.text_most;
        text_fits = omega (arith, T.text_long);
        operations_fit = R.lefts_fit;
        spans_fit = omega (arith, R.spans_fit);
        keys_fit = omega (arith, R.keys_fit);
      }

  module _ {text₁ lefts₁ spans₁ keys₁ : List ℕ} {l : Listed} (L : Lists ls 0 0 text text₁ lefts lefts₁ spans spans₁ keys keys₁ l) where
    text_same : length text₁ ≡ length text
    text_same =
        rw (L.text_is, at_start (texts ls) text) (same_room (texts ls) text (omega (arith, L.many_points, L.points_most, T.text_long)))

    spans_same : length spans₁ ≡ length spans
    spans_same =
        rw (L.spans_are, at_start (flat_spans (all_tokens (list_of 0 ls))) spans)
        (same_room (flat_spans (all_tokens (list_of 0 ls))) spans (omega (arith, length_spans (all_tokens (list_of 0 ls)), L.many_tokens, L.tokens_most, R.spans_fit)))

    keys_same : length keys₁ ≡ length keys
    keys_same =
        rw (L.keys_are, at_start (flat_keys (all_tokens (list_of 0 ls))) keys)
        (same_room (flat_keys (all_tokens (list_of 0 ls))) keys (omega (arith, length_keys (all_tokens (list_of 0 ls)), L.many_tokens, L.tokens_most, R.keys_fit)))

    pub right_listable : Listable right l.text l.tokens text₁ rights spans₁ keys₁
    right_listable =
        record {
          accepted = F.right_accepted;
          short = F.right_short;
          good = rw L.text_is (good_text text 0 ls T.good (accepted_good left F.left_accepted).each);
          long = omega (arith, text_same, T.right_long);
          most = omega (arith, text_same, T.text_most);
          text_fits = omega (arith, text_same, T.text_long, L.points_most);
          operations_fit = R.rights_fit;
          spans_fit = omega (arith, spans_same, R.spans_fit, L.tokens_most);
          keys_fit = omega (arith, keys_same, R.keys_fit, L.tokens_most);
        }

    module _ {text₂ rights₁ spans₂ keys₂ : List ℕ} {r : Listed} (M : Lists rs l.text l.tokens text₁ text₂ rights rights₁ spans₁ spans₂ keys₁ keys₂ r) where
      abbrev lt : List Piece
      lt = all_tokens (list_of 0 ls)

      abbrev rt : List Piece
      rt = all_tokens (list_of l.text rs)

      all_text : text₂ ≡ answered (texts ls ++ texts rs) text
      all_text = two_puts (texts ls) (texts rs) text text₁ text₂ l.text L.text_is L.many_points M.text_is

      all_spans : spans₂ ≡ answered (flat_spans lt ++ flat_spans rt) spans
      all_spans =
          two_puts (flat_spans lt) (flat_spans rt) spans spans₁ spans₂ (l.tokens * 2) L.spans_are (omega (arith, L.many_tokens, length_spans lt)) M.spans_are

      all_keys : keys₂ ≡ answered (flat_keys lt ++ flat_keys rt) keys
      all_keys = two_puts (flat_keys lt) (flat_keys rt) keys keys₁ keys₂ l.tokens L.keys_are (omega (arith, L.many_tokens, length_keys lt)) M.keys_are

      many_points : l.text + r.text ≡ length (texts ls ++ texts rs)
      many_points = omega (arith, L.many_points, M.many_points, length-append (texts ls) (texts rs))

      many_spans : (l.tokens + r.tokens) * 2 ≡ length (flat_spans lt ++ flat_spans rt)
      many_spans = omega (arith, L.many_tokens, M.many_tokens, length_spans lt, length_spans rt, length-append (flat_spans lt) (flat_spans rt))

      many_keys : l.tokens + r.tokens ≡ length (flat_keys lt ++ flat_keys rt)
      many_keys = omega (arith, L.many_tokens, M.many_tokens, length_keys lt, length_keys rt, length-append (flat_keys lt) (flat_keys rt))

      pub text_in : l.text + r.text ≤ length text₂
      text_in =
          let e : length text₂ ≡ length text = rw all_text (same_room (texts ls ++ texts rs) text (omega (arith, many_points, L.points_most, M.points_most, T.text_long))) in
          omega (arith, L.points_most, M.points_most, T.text_long)

      pub spans_in : (l.tokens + r.tokens) * 2 ≤ length spans₂
      spans_in =
          let e : length spans₂ ≡ length spans = rw all_spans (same_room (flat_spans lt ++ flat_spans rt) spans (omega (arith, many_spans, L.tokens_most, M.tokens_most, R.spans_fit))) in
          omega (arith, L.tokens_most, M.tokens_most, R.spans_fit)

      pub keys_in : l.tokens + r.tokens ≤ length keys₂
      keys_in =
          let e : length keys₂ ≡ length keys = rw all_keys (same_room (flat_keys lt ++ flat_keys rt) keys (omega (arith, many_keys, L.tokens_most, M.tokens_most, R.keys_fit))) in
          omega (arith, L.tokens_most, M.tokens_most, R.keys_fit)

      abbrev lo : List Operation
      lo = cooked_from (list_of 0 ls) 0 0

      abbrev ro : List Operation
      ro = cooked_from (list_of l.text rs) 0 l.tokens

      left_many : l.operations ≡ length lo
      left_many = omega (arith, L.many_operations, cooked_length (list_of 0 ls) 0 0)

      right_many : r.operations ≡ length ro
      right_many = omega (arith, M.many_operations, cooked_length (list_of l.text rs) 0 l.tokens)

      pub left_in : l.operations * 6 ≤ length lefts₁
      left_in =
          let e : length lefts₁ ≡ length lefts = rw L.operations_are (length_answered lo lefts (omega (arith, left_many, L.operations_most, R.lefts_fit))) in
          omega (arith, L.operations_most, R.lefts_fit)

      pub right_in : r.operations * 6 ≤ length rights₁
      right_in =
          let e : length rights₁ ≡ length rights = rw M.operations_are (length_answered ro rights (omega (arith, right_many, M.operations_most, R.rights_fit))) in
          omega (arith, M.operations_most, R.rights_fit)

      left_is : operations_of (take (l.operations * 6) lefts₁) ≡ lo
      left_is = rw L.operations_are (of_answered lo lefts (l.operations * 6) (ap (λ (k : ℕ). k * 6) left_many))

      right_is : operations_of (take (r.operations * 6) rights₁) ≡ ro
      right_is = rw M.operations_are (of_answered ro rights (r.operations * 6) (ap (λ (k : ℕ). k * 6) right_many))

      text_is : take (l.text + r.text) text₂ ≡ texts ls ++ texts rs
      text_is = front (texts ls ++ texts rs) text text₂ (l.text + r.text) many_points all_text

      tokens_are : lt ++ rt ≡ tokens_of ls rs
      unfolding tokens_of
      tokens_are = ap (λ (k : ℕ). lt ++ all_tokens (list_of k rs)) L.many_points

      spans_are : take ((l.tokens + r.tokens) * 2) spans₂ ≡ flat_spans (tokens_of ls rs)
      spans_are =
          front (flat_spans lt ++ flat_spans rt) spans spans₂ ((l.tokens + r.tokens) * 2) many_spans all_spans ∙ (sym (spans_append lt rt) ∙ ap flat_spans tokens_are)

      keys_are : take (l.tokens + r.tokens) keys₂ ≡ flat_keys (tokens_of ls rs)
      keys_are = front (flat_keys lt ++ flat_keys rt) keys keys₂ (l.tokens + r.tokens) many_keys all_keys ∙ (sym (keys_append lt rt) ∙ ap flat_keys tokens_are)

      right_list : ro ≡ right_of ls rs
      right_list = λ i. cooked_from (list_of (L.many_points i) rs) 0 (L.many_tokens i)

      pub mergeable : (text₃ : List ℕ)
          → Mergeable text₃ (take ((l.tokens + r.tokens) * 2) spans₂) (take (l.tokens + r.tokens) keys₂) (take (l.operations * 6) lefts₁) (take (r.operations * 6) rights₁)
      mergeable text₃ =
          record {
            left_few = rw left_is (omega (arith, left_many, L.operations_most));
            right_few = rw right_is (omega (arith, right_many, M.operations_most));
            left_tokens = rw left_is (omega (arith, left_claims ls rs, texts_length ls, L.many_points, L.points_most));
            right_tokens = rw (right_is, right_list) (omega (arith, right_claims ls rs, texts_length rs, M.many_points, M.points_most));
            left_little = rw (left_is, spans_are) (omega (arith, left_adds ls rs (length text₃) (take (l.tokens + r.tokens) keys₂), texts_length ls, L.many_points, L.points_most));
            right_little = rw (right_is, right_list, spans_are) (omega (arith, right_adds ls rs (length text₃) (take (l.tokens + r.tokens) keys₂), texts_length rs, M.many_points, M.points_most));
          }

      pub result : (original out out' : List ℕ) (z : Outcome)
          → Written (merge_result original (take (l.text + r.text) text₂) (take ((l.tokens + r.tokens) * 2) spans₂) (take (l.tokens + r.tokens) keys₂) (take (l.operations * 6) lefts₁) (take (r.operations * 6) rights₁)) out out' z
          → Written (good_result original (read_file left) (read_file right)) out out' z
      result original out out' z h = rw (text_is, spans_are, keys_are, left_is, right_is, right_list) at h

-- zeros in rooms of these lengths
pub rooms : (lefts rights spans keys : List ℕ) → length lefts ≡ 2046 → length rights ≡ 2046 → length spans ≡ 4096 → length keys ≡ 2048 → Rooms lefts rights spans keys
rooms lefts rights spans keys nl nr ns nk =
    record { lefts_fit = omega arith; rights_fit = omega arith; spans_fit = omega arith; keys_fit = omega arith }
