-- Shown: the ways of `apply`: what was written is the answer, a refusal leaves the rooms; and the answer is the only one.
-- How: by what the call on lengths answered, and by the test of the rooms.
use Prim.Native.Nat.{ℕ, ◌*◌, ◌≤◌}
use mathlib.Core.Path.{◌≡◌, sym, ◌∙◌, ap}
use mathlib.Core.Bool.{Bool, true, false, ◌&&◌}
use mathlib.Core.List.{List}
use lib.ListN.{length}
use lib.Dec.{leb}
use Rattle.refusal.specs.declared.Refusal.{Refusal}
use Rattle.refusal.specs.declared.Refusal.TheVariants.{Room}
use Rattle.room.specs.Placed.{answered}
use Rattle.records.specs.declared.Operation.{Operation}
use Rattle.records.specs.declared.Cursor.{Cursor}
use Rattle.records.specs.Cursors.{flat_cursors}
use Rattle.cursors.specs.Sorted.{sorted}
use Rattle.verdict.proofs.Chains.{stops, has_room, lacks_room}
use Rattle.checks.proofs.Telling.{says_no, says_yes, says_what}
use Rattle.merging.specs.Lent.{Lent}
use Rattle.apply.specs.declared.Applied.{Applied}
use Rattle.written_lists.specs.Parts.{text_by, AllLie}
use Rattle.apply.specs.Answers.{verdict_on, text_on, fits, apply_verdict, applied_on, Applies}
use Rattle.apply.proofs.Answering.{all_lies, same_text, text_rooms, text_fits}
use Rattle.std.specs.Prelude.{Result, Ok, Err}
use Rattle.verdict.specs.Verdicts.{accepted}

module _ (lent : Lent) (os : List Operation) (cs : List Cursor) (out moved : List ℕ) where
  refuses : (r : Refusal) → apply_verdict lent os cs out moved ≡ Err r → Applies lent os cs out moved out moved (Err r)
  refuses r e = record { answer = rw e; text = rw e; cursors = rw e }

  pub apply_stops : (r : Refusal) → Err r ≡ applied_on lent os cs → Applies lent os cs out moved out moved (Err r)
  unfolding apply_verdict
  apply_stops r e = refuses r (sym (stops (verdict_on lent os cs) _ r (says_no (verdict_on lent os cs) _ r (sym e))))

  module _ (a : Applied) (e : Ok a ≡ applied_on lent os cs) where
    v : verdict_on lent os cs ≡ accepted
    v = says_yes (verdict_on lent os cs) _ a (sym e)

    same : a ≡ record { text = length (text_on lent os); cursors = length (sorted cs) }
    same = sym (says_what (verdict_on lent os cs) _ a (sym e))

    module _ (b : Bool) (f : b ≡ leb (a.cursors * 2) (length moved) && leb a.text (length out)) where
      fit : b ≡ fits (flat_cursors (sorted cs)) moved && fits (text_on lent os) out
      fit = text_rooms lent os cs out moved a.text a.cursors b (ap (λ (x : Applied). x.text) same) (ap (λ (x : Applied). x.cursors) same) f

      pub apply_no_room : b ≡ false → Applies lent os cs out moved out moved (Err Room)
      unfolding apply_verdict
      apply_no_room h = refuses Room (lacks_room (verdict_on lent os cs) _ v (sym fit ∙ h))

      module _ (h : b ≡ true) where
        pub apply_asks : AllLie lent os × (length (text_by lent os) ≤ length out)
        apply_asks = (all_lies lent os cs v, (text_fits lent os cs out moved v (sym fit ∙ h)).0)

        pub apply_sorts : length cs * 2 ≤ length moved
        apply_sorts = (text_fits lent os cs out moved v (sym fit ∙ h)).1

        accepts : apply_verdict lent os cs out moved ≡ accepted
        unfolding apply_verdict
        accepts = has_room (verdict_on lent os cs) _ v (sym fit ∙ h)

        pub apply_writes : {out' moved' : List ℕ} → out' ≡ answered (text_by lent os) out → moved' ≡ answered (flat_cursors (sorted cs)) moved
            → Applies lent os cs out moved out' moved' (Ok a)
        apply_writes g i = record { answer = rw accepts (ap Ok same); text = rw (accepts, same_text lent os cs v) g; cursors = rw accepts i }

-- any two outcomes that the statement allows are equal
pub only_answer :
    {lent : Lent} {os : List Operation} {cs : List Cursor} {out moved out₁ moved₁ out₂ moved₂ : List ℕ} {r₁ r₂ : Result Applied Refusal}
    → Applies lent os cs out moved out₁ moved₁ r₁ → Applies lent os cs out moved out₂ moved₂ r₂
    → (r₁ ≡ r₂) × ((out₁ ≡ out₂) × (moved₁ ≡ moved₂))
only_answer h k = (h.answer ∙ sym k.answer, (h.text ∙ sym k.text, h.cursors ∙ sym k.cursors))
