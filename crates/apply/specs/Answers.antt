-- What the calls answer, and what they leave in their rooms. Assumes nothing.
use Rattle.std.specs.Prelude.{ℕ, ◌≡◌, Bool, ◌&&◌, List, [], leb, length, Result, Ok}
use Rattle.refusal.specs.declared.Refusal.{Refusal}
use Rattle.records.specs.declared.Operation.{Operation}
use Rattle.records.specs.declared.Cursor.{Cursor}
use Rattle.records.specs.Cursors.{flat_cursors}
use Rattle.cursors.specs.Sorted.{sorted}
use Rattle.verdict.specs.Verdicts.{and_then, roomed, leaves, Verdict}
use Rattle.sizes.specs.Texts.{list_text}
use Rattle.sizes.specs.Sizes.{otherwise}
use Rattle.checks.specs.Lists.{list_verdict}
use Rattle.merging.specs.Lent.{Lent}
use Rattle.merging.specs.Operations.{outs_from}
use Rattle.merging.specs.Outputs.{Span, history_of, history_text, flat_spans}
use Rattle.apply.specs.declared.Applied.{Applied}
use Rattle.apply.specs.declared.WithHistory.{WithHistory}
use Rattle.apply.specs.declared.WithAll.{WithAll}

-- "Order for lists: 3, 4, 1, 2, 5", with the sizes "for text, history and diff"
unfoldable pub verdict_on : Lent → List Operation → List Cursor → Verdict
verdict_on lent os cs = list_verdict otherwise lent.original lent.inserted lent.spans lent.keys os cs

-- "A list's text: retained original and insert tokens' spelling, in list order."
unfoldable pub text_on : Lent → List Operation → List ℕ
text_on lent os = list_text lent.original lent.inserted lent.spans lent.keys os

-- "History has one span for each operation, in order."
unfoldable pub history_on : Lent → List Operation → List Span
history_on lent os = history_of lent (outs_from 0 os)

-- "All others: the exact length of the answer."
abbrev pub fits : List ℕ → List ℕ → Bool
fits answer room = leb (length answer) (length room)

-- "Order for lists: 3, 4, 1, 2, 5, 7": of apply
unfoldable pub apply_verdict : Lent → List Operation → List Cursor → List ℕ → List ℕ → Verdict
apply_verdict lent os cs out moved = and_then (verdict_on lent os cs) (roomed (fits (flat_cursors (sorted cs)) moved && fits (text_on lent os) out))

-- "Order for lists: 3, 4, 1, 2, 5, 7": of apply_with_history, which takes no cursors
unfoldable pub history_verdict : Lent → List Operation → List ℕ → List ℕ → Verdict
history_verdict lent os history out =
    and_then (verdict_on lent os []) (roomed (fits (flat_spans 0 (history_on lent os)) history && fits (history_text (history_on lent os)) out))

-- "Order for lists: 3, 4, 1, 2, 5, 7": of apply_with_all
unfoldable pub all_verdict : Lent → List Operation → List Cursor → List ℕ → List ℕ → List ℕ → List ℕ → Verdict
all_verdict lent os cs out moved history texts =
    and_then (verdict_on lent os cs)
    (roomed
    ((fits (flat_cursors (sorted cs)) moved && fits (text_on lent os) out)
    && (fits (flat_spans 0 (history_on lent os)) history && fits (history_text (history_on lent os)) texts)))

-- "its result, numbers of a refusal included": how many code points and cursors, or the refusal
abbrev pub applied : Verdict → ℕ → ℕ → Result Applied Refusal
applied v text cursors = and_then v (Ok (record { text = text; cursors = cursors }))

-- "its result, numbers of a refusal included": of a history, how many spans, and code points of their text, or the refusal
abbrev pub told : Verdict → ℕ → ℕ → Result WithHistory Refusal
told v spans text = and_then v (Ok (record { spans = spans; text = text }))

-- "its result, numbers of a refusal included": of both
abbrev pub told_all : Verdict → ℕ → ℕ → ℕ → ℕ → Result WithAll Refusal
told_all v text cursors spans texts = and_then v (Ok (record { text = text; cursors = cursors; spans = spans; history_text = texts }))

-- "All others: the exact length of the answer": how much to lend to apply, or the refusal
abbrev pub applied_on : Lent → List Operation → List Cursor → Result Applied Refusal
applied_on lent os cs = applied (verdict_on lent os cs) (length (text_on lent os)) (length (sorted cs))

-- "All others: the exact length of the answer": to apply_with_history, which takes no cursors
abbrev pub told_on : Lent → List Operation → Result WithHistory Refusal
told_on lent os = told (verdict_on lent os []) (length (history_on lent os)) (length (history_text (history_on lent os)))

-- "All others: the exact length of the answer": to apply_with_all
abbrev pub told_all_on : Lent → List Operation → List Cursor → Result WithAll Refusal
told_all_on lent os cs =
    told_all (verdict_on lent os cs) (length (text_on lent os)) (length (sorted cs)) (length (history_on lent os)) (length (history_text (history_on lent os)))

-- apply: "A list's text", "Cursors are sorted stably by index, going in and coming out"
pub record Applies (lent : Lent) (os : List Operation) (cs : List Cursor) (out moved out' moved' : List ℕ) (r : Result Applied Refusal) : Type 0 where
  pub answer : r ≡ applied (apply_verdict lent os cs out moved) (length (text_on lent os)) (length (sorted cs))
  pub text : out' ≡ leaves (apply_verdict lent os cs out moved) (text_on lent os) out
  pub cursors : moved' ≡ leaves (apply_verdict lent os cs out moved) (flat_cursors (sorted cs)) moved

-- apply_with_history: "History has one span for each operation, in order."
pub record Tells (lent : Lent) (os : List Operation) (history out history' out' : List ℕ) (r : Result WithHistory Refusal) : Type 0 where
  pub answer : r ≡ told (history_verdict lent os history out) (length (history_on lent os)) (length (history_text (history_on lent os)))
  pub spans : history' ≡ leaves (history_verdict lent os history out) (flat_spans 0 (history_on lent os)) history
  pub text : out' ≡ leaves (history_verdict lent os history out) (history_text (history_on lent os)) out

-- apply_with_all: "A list's text", "Cursors are sorted stably by index, going in and coming out", "History has one span for each operation, in order."
pub record AppliesAll (lent : Lent) (os : List Operation) (cs : List Cursor) (out moved history texts out' moved' history' texts' : List ℕ) (r : Result WithAll Refusal) : Type 0 where
  pub answer :
      r
      ≡ told_all (all_verdict lent os cs out moved history texts) (length (text_on lent os)) (length (sorted cs)) (length (history_on lent os))
      (length (history_text (history_on lent os)))
  pub text : out' ≡ leaves (all_verdict lent os cs out moved history texts) (text_on lent os) out
  pub cursors : moved' ≡ leaves (all_verdict lent os cs out moved history texts) (flat_cursors (sorted cs)) moved
  pub spans : history' ≡ leaves (all_verdict lent os cs out moved history texts) (flat_spans 0 (history_on lent os)) history
  pub history_text_lem : texts' ≡ leaves (all_verdict lent os cs out moved history texts) (history_text (history_on lent os)) texts
