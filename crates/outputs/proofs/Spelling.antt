-- Shown: whenever `apply` and `apply_with_history` accept the same list, the unchanged and added spans spell the text, the unchanged and removed ones the original; and what `to_diff` wrote replays to that text: from rooms to rooms.
-- How: the spans that stand in the rooms are the history's, and history, diff and text agree.
use Prim.Native.Nat.{ℕ, ◌+◌, ◌*◌, ◌≤◌}
use mathlib.Core.Path.{◌≡◌, refl, sym, ◌∙◌, ap}
use mathlib.Core.Bool.{◌&&◌}
use mathlib.Core.List.{List, [], ◌∷◌, ◌++◌, append_assoc}
use native.Mathlib.Omega.{arith}
use lib.ListN.{length, take, drop, length-append}
use lib.Seq.{get_or-append-add, take-append_seam, drop-append_seam, drop-drop}
use lib.IntN.{ℤ}
use Rattle.room.specs.Placed.{answered}
use Rattle.records.specs.declared.Operation.{Operation}
use Rattle.records.specs.declared.Cursor.{Cursor}
use Rattle.records.specs.Cursors.{flat_cursors}
use Rattle.cursors.specs.Sorted.{sorted}
use Rattle.replay.specs.Answers.{diff, covering, Replayed}
use Rattle.verdict.specs.Verdicts.{and_then, roomed, Verdict, accepted}
use Rattle.sizes.specs.Sizes.{otherwise}
use Rattle.shapes.specs.Accepted.{AcceptedList}
use Rattle.checks.proofs.Accepted.{accepted_list}
use Rattle.checks.proofs.Telling.{says_yes, says_what}
use Rattle.verdict.proofs.Chains.{first_passed}
use Rattle.merging.specs.Lent.{Lent}
use Rattle.merging.specs.Outputs.{Span, spelled_by, of_text, of_original, history_text, flat_spans}
use Rattle.merging_laws.proofs.Outputs.{agrees}
use Rattle.apply.specs.declared.Applied.{Applied}
use Rattle.apply.specs.declared.WithHistory.{WithHistory}
use Rattle.apply.specs.Answers.{verdict_on, text_on, history_on, fits, apply_verdict, history_verdict, applied, told, Applies, Tells}
use Rattle.to_diff.specs.Answers.{Diffs}
use Rattle.outputs.specs.Spans.{span_at, spans_from}
use Rattle.outputs.proofs.Replaying.{front, written_of, replays_back}
use Rattle.std.specs.Prelude.{Result, Ok}
use Rattle.refusal.specs.declared.Refusal.{Refusal}

-- four numbers of a list, where a part of it begins
span_part : (a b c d : ℕ) (pre post text : List ℕ) (i : ℕ) → length pre ≡ i * 4
    → span_at (pre ++ (a ∷ b ∷ c ∷ d ∷ post)) text i ≡ record { kind = a; side = b; text = take d (drop c text) }
span_part a b c d pre post text i h =
    let xs : List ℕ = a ∷ b ∷ c ∷ d ∷ post in
    let e : i * 4 ≡ length pre + 0 = omega arith in
    let f : i * 4 + 1 ≡ length pre + 1 = omega arith in
    let g : i * 4 + 2 ≡ length pre + 2 = omega arith in
    let j : i * 4 + 3 ≡ length pre + 3 = omega arith in
    rw (f, g, j, e, get_or-append-add pre xs 1 0, get_or-append-add pre xs 2 0, get_or-append-add pre xs 3 0, get_or-append-add pre xs 0 0)

-- the spans of a history, read out of its rooms
read_spans : (ss : List Span) (at i : ℕ) (pre post text rest : List ℕ) → length pre ≡ i * 4 → drop at text ≡ history_text ss ++ rest
    → spans_from (pre ++ (flat_spans at ss ++ post)) text i (length ss) ≡ ss
unfolding flat_spans history_text spans_from
read_spans [] at i pre post text rest h d = refl
read_spans (p ∷ ss) at i pre post text rest h d =
    let n : ℕ = length p.text in
    let four : List ℕ = p.kind ∷ p.side ∷ at ∷ n ∷ [] in
    let more : List ℕ = flat_spans (at + n) ss ++ post in
    let e : drop at text ≡ p.text ++ (history_text ss ++ rest) = d ∙ append_assoc p.text (history_text ss) rest in
    let t : take n (drop at text) ≡ p.text = rw e (take-append_seam p.text (history_text ss ++ rest)) in
    let next : drop (at + n) text ≡ history_text ss ++ rest = sym (drop-drop n at text) ∙ (ap (drop n) e ∙ drop-append_seam p.text (history_text ss ++ rest)) in
    let first : span_at (pre ++ (p.kind ∷ p.side ∷ at ∷ n ∷ more)) text i ≡ p =
    span_part p.kind p.side at n pre more text i h ∙ ap (λ (s : List ℕ). record { kind = p.kind; side = p.side; text = s }) t
    in
    let shift : (pre ++ four) ++ more ≡ pre ++ (p.kind ∷ p.side ∷ at ∷ n ∷ more) = append_assoc pre four more in
    let others : spans_from (pre ++ (p.kind ∷ p.side ∷ at ∷ n ∷ more)) text (i + 1) (length ss) ≡ ss =
    ap (λ (xs : List ℕ). spans_from xs text (i + 1) (length ss)) (sym shift)
    ∙ read_spans ss (at + n) (i + 1) (pre ++ four) post text rest (length-append pre four ∙ omega arith) next
    in
    ap (λ (x : Span). x ∷ spans_from (pre ++ (p.kind ∷ p.side ∷ at ∷ n ∷ more)) text (i + 1) (length ss)) first
    ∙ ap (λ (xs : List Span). p ∷ xs) others

pub spans_back : (ss : List Span) (h t : List ℕ) → spans_from (answered (flat_spans 0 ss) h) (answered (history_text ss) t) 0 (length ss) ≡ ss
spans_back ss h t = read_spans ss 0 0 [] (drop (length (flat_spans 0 ss)) h) (answered (history_text ss) t) (drop (length (history_text ss)) t) refl refl

-- an accepted call of `apply`: its text at the start of the room
pub record TextWritten (lent : Lent) (os : List Operation) (k : ℕ) (out' : List ℕ) : Type 0 where
  pub cursors : List Cursor
  pub list : AcceptedList otherwise lent.original lent.inserted lent.spans lent.keys os cursors
  pub long : k ≡ length (text_on lent os)
  pub text : take k out' ≡ text_on lent os

applied_of : (v w : Verdict) (n m k c : ℕ) → Ok (record { text = k; cursors = c }) ≡ applied (and_then v w) n m → (v ≡ accepted) ×
    ((and_then v w ≡ accepted) × (k ≡ n))
applied_of v w n m k c h =
    let a : and_then v w ≡ accepted = says_yes (and_then v w) _ _ (sym h) in
    (first_passed v w a, (a, ap (λ (x : Applied). x.text) (sym (says_what (and_then v w) _ _ (sym h)))))

pub text_written : (lent : Lent) (os : List Operation) {cs : List Cursor} {out moved out' moved' : List ℕ} {k c : ℕ}
    → Applies lent os cs out moved out' moved' (Ok (record { text = k; cursors = c })) → TextWritten lent os k out'
unfolding apply_verdict verdict_on
text_written lent os {cs} {out} {moved} {out'} {moved'} {k} {c} h =
    let a = applied_of (verdict_on lent os cs) (roomed (fits (flat_cursors (sorted cs)) moved && fits (text_on lent os) out))
    (length (text_on lent os)) (length (sorted cs)) k c h.answer in
    record {
      cursors = cs;
      list = accepted_list otherwise lent.original lent.inserted lent.spans lent.keys os cs a.0;
      long = a.1.1;
      text = front (text_on lent os) out out' k a.1.1 (rw a.1.0 at h.text);
    }

-- an accepted call of `apply_with_history`: its spans, read out of both rooms
told_of : (v : Verdict) (n m k c : ℕ) → Ok (record { spans = k; text = c }) ≡ told v n m → (v ≡ accepted) × (k ≡ n)
told_of v n m k c h = (says_yes v _ _ (sym h), ap (λ (x : WithHistory). x.spans) (sym (says_what v _ _ (sym h))))

pub spans_written : (lent : Lent) (os : List Operation) {history out history' out' : List ℕ} {k c : ℕ} → Tells lent os history out history' out' (Ok (record { spans = k; text = c }))
    → spans_from history' out' 0 k ≡ history_on lent os
spans_written lent os {history} {out} {history'} {out'} {k} {c} h =
    let a = told_of (history_verdict lent os history out)
    (length (history_on lent os)) (length (history_text (history_on lent os))) k c h.answer in
    rw (rw a.0 at h.spans, rw a.0 at h.text, a.1) (spans_back (history_on lent os) history out)

module _ (lent : Lent) (os : List Operation) {k : ℕ} {out' : List ℕ} (w : TextWritten lent os k out') where
  -- "the unchanged and added spans spell the text; the unchanged and removed ones the original", in the rooms of the two calls
  pub spans_spell : {history out history' told' : List ℕ} {n m : ℕ} → Tells lent os history out history' told' (Ok (record { spans = n; text = m }))
      → (spelled_by of_text (spans_from history' told' 0 n) ≡ take k out') × (spelled_by of_original (spans_from history' told' 0 n) ≡ lent.original)
  unfolding text_on history_on
  spans_spell h =
      let g = agrees lent otherwise os w.cursors w.list in
      let s = spans_written lent os h in
      (ap (spelled_by of_text) s ∙ (g.unchanged_added ∙ sym w.text), ap (spelled_by of_original) s ∙ g.unchanged_removed)

  -- replaying what `to_diff` wrote, by `from_covering_diff`, is accepted and leaves in its room what `apply` wrote
  pub diff_spells : {d d' : List ℤ} {e e' room room' : List ℕ} {n m : ℕ} {r : Result ℕ Refusal} → Diffs lent os d e d' e' (Ok (record { items = n; text = m }))
      → Replayed covering (diff lent.original (take (n * 3) d') (take m e')) room r room' → k ≤ length room
      → (r ≡ Ok k) × (room' ≡ answered (take k out') room)
  unfolding text_on
  diff_spells {room = room} h f l =
      let g = replays_back lent os (written_of lent os h) f (rw w.long at l) in
      (g.0 ∙ ap Ok (sym w.long), g.1 ∙ ap (λ (s : List ℕ). answered s room) (sym w.text))
