-- Shown: what an accepted list allows to be counted and written, shared by the calls; and the calls on lengths.
-- How: by the verdict, and by the lengths of what the records give.
use Prim.Native.Nat.{ℕ, ◌+◌, ◌*◌, ◌≤◌, min}
use mathlib.Core.Path.{◌≡◌, sym, ◌∙◌, ap}
use mathlib.Core.Bool.{Bool, true, ◌&&◌}
use mathlib.Core.List.{List, []}
use native.Mathlib.Omega.{arith}
use lib.ListN.{length}
use lib.Dec.{leb}
use borrow.Author.Tests.{leb-true}
use Rattle.refusal.specs.declared.Refusal.{Refusal}
use Rattle.records.specs.declared.Operation.{Operation}
use Rattle.records.specs.declared.Cursor.{Cursor}
use Rattle.records.specs.Cursors.{cursors_from, cursors_of, flat_cursors}
use Rattle.records.proofs.CursorLaws as cursors
use Rattle.cursors.specs.Sorted.{sorted}
use Rattle.cursors.proofs.Sinks.{length_sorted}
use Rattle.sizes.specs.declared.Limits.{Limits}
use Rattle.sizes.specs.Texts.{total, text_length}
use Rattle.sizes.specs.Sizes.{otherwise}
use Rattle.checks.specs.declared.Lengths.{Lengths}
use Rattle.checks.specs.Lists.{lengths_on}
use Rattle.shapes.specs.Accepted.{AcceptedList}
use Rattle.shapes.proofs.Accepted.{text_most}
use Rattle.checks.proofs.Accepted.{accepted_list}
use Rattle.checks.proofs.Telling.{says_no, says_yes, says_what}
use Rattle.room.proofs.Bools.{and_left, and_right}
use Rattle.merging.specs.Lent.{Lent}
use Rattle.merging.specs.Outputs.{history_text, flat_spans}
use Rattle.written_lists.specs.Parts.{text_by, history_by, removed_by, AllLie}
use Rattle.apply.specs.Answers.{verdict_on, text_on, history_on, fits, applied_on, told_on, told_all_on}
use Rattle.apply.proofs.Lists.{history_is, length_history, length_spans, lists_lie, text_is, text_count, removed_most, told_count as told_length}
use Rattle.std.specs.Prelude.{Result, Ok, Err}
use Rattle.verdict.specs.Verdicts.{accepted}

-- what the check of a list gave

abbrev sums : Limits → Lent → List Operation → List Cursor → Result Lengths Refusal
sums l lent os cs = lengths_on l lent.original lent.inserted lent.spans lent.keys os cs

-- where no cursors are lent
pub checks_none : (lent : Lent) (os : List Operation) (l : Limits) {x : Result Lengths Refusal} → x ≡ sums l lent os (cursors_of []) → x ≡ sums l lent os []
unfolding cursors_of cursors_from
checks_none lent os l f = f

module _ (lent : Lent) (os : List Operation) (cs : List Cursor) {l : Limits} (e : l ≡ otherwise) where
  pub judged_no : (r : Refusal) → Err r ≡ sums l lent os cs → verdict_on lent os cs ≡ Err r
  unfolding verdict_on
  judged_no r f = says_no (verdict_on lent os cs) _ r (sym (rw e at f))

  pub judged_yes : (n : Lengths) → Ok n ≡ sums l lent os cs
      → (verdict_on lent os cs ≡ accepted) × (n.text ≡ text_length (length lent.inserted) lent.spans lent.keys os)
  unfolding verdict_on
  judged_yes n f =
      let g = sym (rw e at f) in
      (says_yes (verdict_on lent os cs) _ n g, ap (λ (m : Lengths). m.text) (sym (says_what (verdict_on lent os cs) _ n g)))

module _ (lent : Lent) (os : List Operation) where
  abbrev n : ℕ
  n = length lent.inserted

  module _ (cs : List Cursor) (v : verdict_on lent os cs ≡ accepted) where
    facts : AcceptedList otherwise lent.original lent.inserted lent.spans lent.keys os cs
    unfolding verdict_on
    facts = accepted_list otherwise lent.original lent.inserted lent.spans lent.keys os cs v

    pub all_lies : AllLie lent os
    all_lies = lists_lie lent otherwise os cs facts

    -- the counts that the code sums
    text_counted : (t : ℕ) → t ≡ text_length n lent.spans lent.keys os → t ≡ length (text_on lent os)
    text_counted t e = omega (arith, e, text_count lent otherwise os cs facts)

    pub text_low : (t : ℕ) → t ≡ text_length n lent.spans lent.keys os → t ≤ 1000000
    text_low t e = omega (arith, e, text_most otherwise lent.original lent.inserted lent.spans lent.keys os cs facts)

    told_counted : (t g : ℕ) → t ≡ text_length n lent.spans lent.keys os → g ≡ min 1000000 (total removed_by os)
        → t + g ≡ length (history_text (history_on lent os))
    told_counted t g e f =
        omega (arith, text_counted t e, f, removed_most lent otherwise os cs facts, told_length lent otherwise os cs facts)

    pub same_text : text_on lent os ≡ text_by lent os
    same_text = text_is lent otherwise os cs facts

  spans_counted : (k : ℕ) → k ≡ length os → k ≡ length (history_on lent os)
  spans_counted k e = omega (arith, e, ap length (history_is lent os), length_history lent os)

  flat_spans_lem : length (flat_spans 0 (history_on lent os)) ≡ length (history_on lent os) * 4
  flat_spans_lem = length_spans lent (history_on lent os) 0

  flat_cursors_lem : (cs : List Cursor) → length (flat_cursors (sorted cs)) ≡ length (sorted cs) * 2
  flat_cursors_lem cs = cursors.length_flat (sorted cs)

  -- the rooms

  pub text_rooms : (cs : List Cursor) (out moved : List ℕ) (t k : ℕ) (b : Bool) → t ≡ length (text_on lent os) → k ≡ length (sorted cs)
      → b ≡ leb (k * 2) (length moved) && leb t (length out) → b ≡ fits (flat_cursors (sorted cs)) moved && fits (text_on lent os) out
  text_rooms cs out moved t k b e f g = g ∙ rw (flat_cursors_lem cs, e, f)

  pub history_rooms : (history out : List ℕ) (k t : ℕ) (b : Bool) → k ≡ length (history_on lent os) → t ≡ length (history_text (history_on lent os))
      → b ≡ leb (k * 4) (length history) && leb t (length out)
      → b ≡ fits (flat_spans 0 (history_on lent os)) history && fits (history_text (history_on lent os)) out
  history_rooms history out k t b e f g = g ∙ rw (flat_spans_lem, e, f)

  -- what the rooms must hold for the text, the cursors and the history to be written
  pub text_fits : (cs : List Cursor) (out moved : List ℕ) → verdict_on lent os cs ≡ accepted
      → fits (flat_cursors (sorted cs)) moved && fits (text_on lent os) out ≡ true
      → (length (text_by lent os) ≤ length out) × (length cs * 2 ≤ length moved)
  text_fits cs out moved v h =
      let a = leb-true (length (flat_cursors (sorted cs))) (length moved) (and_left (fits (flat_cursors (sorted cs)) moved) (fits (text_on lent os) out) h) in
      let b = leb-true (length (text_on lent os)) (length out) (and_right (fits (flat_cursors (sorted cs)) moved) (fits (text_on lent os) out) h) in
      (omega (arith, b, ap length (same_text cs v)), omega (arith, a, flat_cursors_lem cs, length_sorted cs))

  pub history_fits : (history out : List ℕ) → fits (flat_spans 0 (history_on lent os)) history && fits (history_text (history_on lent os)) out ≡ true
      → (length os * 4 ≤ length history) × (length (history_text (history_by lent os)) ≤ length out)
  history_fits history out h =
      let s = flat_spans 0 (history_on lent os) in
      let t = history_text (history_on lent os) in
      let a = leb-true (length s) (length history) (and_left (fits s history) (fits t out) h) in
      let b = leb-true (length t) (length out) (and_right (fits s history) (fits t out) h) in
      let e = history_is lent os in (
        omega (arith, a, flat_spans_lem, ap length e, length_history lent os),
        omega (arith, b, ap (λ ss. length (history_text ss)) e),
      )

-- the lengths, as the code sums them

module _ (lent : Lent) (os : List Operation) (cs : List Cursor) {l : Limits} (e : l ≡ otherwise) where
  pub lengths_refuse : (r : Refusal) → Err r ≡ sums l lent os cs → Err r ≡ applied_on lent os cs
  lengths_refuse r f = rw (judged_no lent os cs e r f)

  pub all_refuse : (r : Refusal) → Err r ≡ sums l lent os cs → Err r ≡ told_all_on lent os cs
  all_refuse r f = rw (judged_no lent os cs e r f)

  module _ (n : Lengths) (f : Ok n ≡ sums l lent os cs) where
    v : verdict_on lent os cs ≡ accepted
    v = (judged_yes lent os cs e n f).0

    t : n.text ≡ text_length (length lent.inserted) lent.spans lent.keys os
    t = (judged_yes lent os cs e n f).1

    pub text_small : n.text ≤ 1000000
    text_small = text_low lent os cs v n.text t

    pub lengths_count : (k : ℕ) → k ≡ length cs → Ok (record { text = n.text; cursors = k }) ≡ applied_on lent os cs
    lengths_count k g = rw (v, text_counted lent os cs v n.text t, g, length_sorted cs)

    pub all_count : (c k g : ℕ) → c ≡ length cs → k ≡ length os → g ≡ min 1000000 (total removed_by os)
        → Ok (record { text = n.text; cursors = c; spans = k; history_text = n.text + g }) ≡ told_all_on lent os cs
    all_count c k g h i j =
        rw (v, told_counted lent os cs v n.text g t j, text_counted lent os cs v n.text t, h, length_sorted cs, spans_counted lent os k i)

module _ (lent : Lent) (os : List Operation) {l : Limits} (e : l ≡ otherwise) where
  pub told_refuse : (r : Refusal) → Err r ≡ sums l lent os [] → Err r ≡ told_on lent os
  told_refuse r f = rw (judged_no lent os [] e r f)

  pub told_count : (n : Lengths) → Ok n ≡ sums l lent os [] → (k g : ℕ) → k ≡ length os → g ≡ min 1000000 (total removed_by os)
      → Ok (record { spans = k; text = n.text + g }) ≡ told_on lent os
  told_count n f k g h i =
      let p = judged_yes lent os [] e n f in
      rw (p.0, spans_counted lent os k h, told_counted lent os [] p.0 n.text g p.1 i)
