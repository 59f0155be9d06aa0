-- Shown: "Any two outcomes it allows are shown equal", of each export that is lent a room; the work room is the exception.
-- How: each call's own law, under the telling.
use Prim.Native.Nat.{ℕ}
use mathlib.Core.Path.{◌≡◌, sym, ◌∙◌}
use mathlib.Core.List.{List}
use lib.ListN.{length, drop}
use lib.IntN.{ℤ}
use Rattle.records.specs.declared.Operation.{Operation}
use Rattle.records.specs.declared.Cursor.{Cursor}
use Rattle.merging.specs.Lent.{Lent}
use Rattle.utf8.specs.Answers.{Answered as Coded}
use Rattle.utf8.proofs.Ways.{only_answer as only-coded}
use Rattle.overlap.specs.declared.Range.{Range}
use Rattle.overlap.specs.Overlap.{Answered, touched}
use Rattle.overlap.proofs.Overlaps.{only as only-range}
use Rattle.elongate.specs.declared.Written.{Written as Elongated}
use Rattle.elongate.specs.Verdicts.{Elongates}
use Rattle.edited_text.specs.declared.Counts.{Counts as Merged}
use Rattle.edited_text.specs.Merging.{MergedBy}
use Rattle.edited_text.proofs.Laws.{only_answer as only-merged}
use Rattle.apply.specs.declared.Applied.{Applied}
use Rattle.apply.specs.declared.WithHistory.{WithHistory}
use Rattle.apply.specs.declared.WithAll.{WithAll}
use Rattle.apply.specs.Answers.{Applies, Tells, AppliesAll}
use Rattle.apply.proofs.ApplyWays.{only_answer as only-applied}
use Rattle.apply.proofs.HistoryWays.{only-history}
use Rattle.apply.proofs.AllWays.{only-all}
use Rattle.item_records.specs.declared.Counts.{Counts}
use Rattle.to_diff.specs.Answers.{Diffs}
use Rattle.to_diff.proofs.Laws.{only_answer as only-diff}
use Rattle.replay.specs.Answers.{Diff, Replayed}
use Rattle.replay.proofs.Covering.{only_answer as only-replayed}
use Rattle.edit_format.specs.Items.{Item}
use Rattle.edit_format.specs.Reading.{Found}
use Rattle.edit_read.specs.Answer.{ReadInto}
use Rattle.edit_write.specs.Writing.{Wrote}
use Rattle.merge_files.specs.declared.Outcome.{Outcome}
use Rattle.merge_files.specs.Program.{Output, Written}
use Rattle.reconcile.proofs.Only.{only_elongated, only_read, only_written}
use Rattle.answer.specs.declared.Answer.{Answer}
use Rattle.answer.specs.Tellings.{tell_count, tell_range, tell_elongated, tell_merged, tell_applied, tell_history, tell_all, tell_diff, tell_outcome, ToldBy}
use Rattle.answer.proofs.Laws.{only_told}
use Rattle.std.specs.Prelude.{Result}
use Rattle.verdict.specs.Verdicts.{Verdict}
use Rattle.refusal.specs.declared.Refusal.{Refusal}

-- reading and writing UTF-8
pub only_utf8 : (due : Result ℕ Refusal) (a d d₁ d₂ : List ℕ) {r s : Answer}
    → ToldBy tell_count (λ (x : Result ℕ Refusal). Coded due x a d d₁) r → ToldBy tell_count (λ (x : Result ℕ Refusal). Coded due x a d d₂) s → (r ≡ s) × (d₁ ≡ d₂)
only_utf8 due a d d₁ d₂ = only_told (λ (x : Result ℕ Refusal). d₁ ≡ d₂) (λ x y p q. only-coded p q)

-- the overlap: the work room past what the search may use
pub only_overlap : (old new w w₁ w₂ : List ℕ) {r s : Answer} (x : ToldBy tell_range (Answered old new w w₁) r)
    → ToldBy tell_range (Answered old new w w₂) s
    → (r ≡ s) × (drop (touched x.answer (length new)) w₁ ≡ drop (touched x.answer (length new)) w₂)
only_overlap old new w w₁ w₂ =
    only_told (λ (x : Result Range Refusal). drop (touched x (length new)) w₁ ≡ drop (touched x (length new)) w₂) (λ x y p q. only-range p q)

pub only_elongate : (xs spans keys joins text o s k j o₁ s₁ k₁ j₁ o₂ s₂ k₂ j₂ : List ℕ) (v : Verdict) {r t : Answer}
    → ToldBy tell_elongated (Elongates xs spans keys joins text o s k j o₁ s₁ k₁ j₁ v) r
    → ToldBy tell_elongated (Elongates xs spans keys joins text o s k j o₂ s₂ k₂ j₂ v) t
    → (r ≡ t) × ((o₁ ≡ o₂) × ((s₁ ≡ s₂) × ((k₁ ≡ k₂) × (j₁ ≡ j₂))))
only_elongate xs spans keys joins text o s k j o₁ s₁ k₁ j₁ o₂ s₂ k₂ j₂ v =
    only_told (λ (x : Result Elongated Refusal). (o₁ ≡ o₂) × ((s₁ ≡ s₂) × ((k₁ ≡ k₂) × (j₁ ≡ j₂)))) (λ x y p q. only_elongated p q)

pub only_merge : (original text spans keys left right lcs rcs o o₁ o₂ c c₁ c₂ w w₁ w₂ : List ℕ) {r s : Answer}
    → ToldBy tell_merged (MergedBy original text spans keys left right lcs rcs o o₁ c c₁ w w₁) r
    → ToldBy tell_merged (MergedBy original text spans keys left right lcs rcs o o₂ c c₂ w w₂) s
    → (r ≡ s) × ((o₁ ≡ o₂) × (c₁ ≡ c₂))
only_merge original text spans keys left right lcs rcs o o₁ o₂ c c₁ c₂ w w₁ w₂ =
    only_told (λ (x : Result Merged Refusal). (o₁ ≡ o₂) × (c₁ ≡ c₂)) (λ x y p q. only-merged original text spans keys left right lcs rcs o c w p q)

pub only_apply : (lent : Lent) (os : List Operation) (cs : List Cursor) (d e d₁ e₁ d₂ e₂ : List ℕ) {r s : Answer}
    → ToldBy tell_applied (Applies lent os cs d e d₁ e₁) r → ToldBy tell_applied (Applies lent os cs d e d₂ e₂) s
    → (r ≡ s) × ((d₁ ≡ d₂) × (e₁ ≡ e₂))
only_apply lent os cs d e d₁ e₁ d₂ e₂ = only_told (λ (x : Result Applied Refusal). (d₁ ≡ d₂) × (e₁ ≡ e₂)) (λ x y p q. only-applied p q)

pub only_with_history : (lent : Lent) (os : List Operation) (d e d₁ e₁ d₂ e₂ : List ℕ) {r s : Answer}
    → ToldBy tell_history (Tells lent os d e d₁ e₁) r → ToldBy tell_history (Tells lent os d e d₂ e₂) s
    → (r ≡ s) × ((d₁ ≡ d₂) × (e₁ ≡ e₂))
only_with_history lent os d e d₁ e₁ d₂ e₂ = only_told (λ (x : Result WithHistory Refusal). (d₁ ≡ d₂) × (e₁ ≡ e₂)) (λ x y p q. only-history p q)

pub only_with_all : (lent : Lent) (os : List Operation) (cs : List Cursor) (d e f g d₁ e₁ f₁ g₁ d₂ e₂ f₂ g₂ : List ℕ) {r s : Answer}
    → ToldBy tell_all (AppliesAll lent os cs d e f g d₁ e₁ f₁ g₁) r → ToldBy tell_all (AppliesAll lent os cs d e f g d₂ e₂ f₂ g₂) s
    → (r ≡ s) × ((d₁ ≡ d₂) × ((e₁ ≡ e₂) × ((f₁ ≡ f₂) × (g₁ ≡ g₂))))
only_with_all lent os cs d e f g d₁ e₁ f₁ g₁ d₂ e₂ f₂ g₂ =
    only_told (λ (x : Result WithAll Refusal). (d₁ ≡ d₂) × ((e₁ ≡ e₂) × ((f₁ ≡ f₂) × (g₁ ≡ g₂)))) (λ x y p q. only-all p q)

pub only_to_diff : (lent : Lent) (os : List Operation) (d d₁ d₂ : List ℤ) (e e₁ e₂ : List ℕ) {r s : Answer}
    → ToldBy tell_diff (Diffs lent os d e d₁ e₁) r → ToldBy tell_diff (Diffs lent os d e d₂ e₂) s → (r ≡ s) × ((d₁ ≡ d₂) × (e₁ ≡ e₂))
only_to_diff lent os d d₁ d₂ e e₁ e₂ = only_told (λ (x : Result Counts Refusal). (d₁ ≡ d₂) × (e₁ ≡ e₂)) (λ x y p q. only-diff p q)

-- plain and covering replay
pub only_from_diff : (check : Diff → Verdict) (f : Diff) (d d₁ d₂ : List ℕ) {r s : Answer}
    → ToldBy tell_count (λ (x : Result ℕ Refusal). Replayed check f d x d₁) r → ToldBy tell_count (λ (x : Result ℕ Refusal). Replayed check f d x d₂) s
    → (r ≡ s) × (d₁ ≡ d₂)
only_from_diff check f d d₁ d₂ = only_told (λ (x : Result ℕ Refusal). d₁ ≡ d₂) (λ x y p q. only-replayed check f d p q)

pub only_edit_file_read : (f : Found) (d d₁ d₂ : List ℤ) (e e₁ e₂ : List ℕ) {r s : Answer}
    → ToldBy tell_diff (ReadInto f d e d₁ e₁) r → ToldBy tell_diff (ReadInto f d e d₂ e₂) s → (r ≡ s) × ((d₁ ≡ d₂) × (e₁ ≡ e₂))
only_edit_file_read f d d₁ d₂ e e₁ e₂ = only_told (λ (x : Result Counts Refusal). (d₁ ≡ d₂) × (e₁ ≡ e₂)) (λ x y p q. only_read p q)

pub only_edit_file_write : (is : List Item) (text d d₁ d₂ : List ℕ) {r s : Answer}
    → ToldBy tell_count (Wrote is text d d₁) r → ToldBy tell_count (Wrote is text d d₂) s → (r ≡ s) × (d₁ ≡ d₂)
only_edit_file_write is text d d₁ d₂ = only_told (λ (x : Result ℕ Refusal). d₁ ≡ d₂) (λ x y p q. only_written p q)

pub only_merge_files : (result : Output) (d d₁ d₂ : List ℕ) {r s : Answer}
    → ToldBy tell_outcome (Written result d d₁) r → ToldBy tell_outcome (Written result d d₂) s → (r ≡ s) × (d₁ ≡ d₂)
only_merge_files result d d₁ d₂ =
    only_told (λ (x : Outcome). d₁ ≡ d₂) (λ x y p q. (p.answer ∙ sym q.answer, p.room ∙ sym q.room))
