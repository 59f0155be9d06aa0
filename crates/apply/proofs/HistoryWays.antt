-- Shown: the ways of `apply_with_history`: what was written is the answer, a refusal leaves the rooms; and the answer is the only one.
-- How: by what the call on lengths answered, and by the test of the rooms.
use Prim.Native.Nat.{ℕ, ◌*◌, ◌≤◌}
use mathlib.Core.Path.{◌≡◌, sym, ◌∙◌, ap}
use mathlib.Core.Bool.{Bool, true, false, ◌&&◌}
use mathlib.Core.List.{List, []}
use lib.ListN.{length}
use lib.Dec.{leb}
use Rattle.refusal.specs.declared.Refusal.{Refusal}
use Rattle.refusal.specs.declared.Refusal.TheVariants.{Room}
use Rattle.records.specs.declared.Operation.{Operation}
use Rattle.verdict.proofs.Chains.{stops, has_room, lacks_room}
use Rattle.checks.proofs.Telling.{says_no, says_yes, says_what}
use Rattle.merging.specs.Lent.{Lent}
use Rattle.merging.specs.Outputs.{history_text, flat_spans}
use Rattle.apply.specs.declared.WithHistory.{WithHistory}
use Rattle.written_lists.specs.Parts.{history_by, AllLie, Wrote}
use Rattle.apply.specs.Answers.{verdict_on, history_on, fits, history_verdict, told_on, Tells}
use Rattle.apply.proofs.Lists.{history_is}
use Rattle.apply.proofs.Answering.{all_lies, history_rooms, history_fits}
use Rattle.std.specs.Prelude.{Result, Ok, Err}
use Rattle.verdict.specs.Verdicts.{accepted}

module _ (lent : Lent) (os : List Operation) (history out : List ℕ) where
  refuses : (r : Refusal) → history_verdict lent os history out ≡ Err r → Tells lent os history out history out (Err r)
  refuses r e = record { answer = rw e; spans = rw e; text = rw e }

  pub history_stops : (r : Refusal) → Err r ≡ told_on lent os → Tells lent os history out history out (Err r)
  unfolding history_verdict
  history_stops r e = refuses r (sym (stops (verdict_on lent os []) _ r (says_no (verdict_on lent os []) _ r (sym e))))

  module _ (a : WithHistory) (e : Ok a ≡ told_on lent os) where
    v : verdict_on lent os [] ≡ accepted
    v = says_yes (verdict_on lent os []) _ a (sym e)

    same : a ≡ record { spans = length (history_on lent os); text = length (history_text (history_on lent os)) }
    same = sym (says_what (verdict_on lent os []) _ a (sym e))

    module _ (b : Bool) (f : b ≡ leb (a.spans * 4) (length history) && leb a.text (length out)) where
      fit : b ≡ fits (flat_spans 0 (history_on lent os)) history && fits (history_text (history_on lent os)) out
      fit = history_rooms lent os history out a.spans a.text b (ap (λ (x : WithHistory). x.spans) same) (ap (λ (x : WithHistory). x.text) same) f

      pub history_no_room : b ≡ false → Tells lent os history out history out (Err Room)
      unfolding history_verdict
      history_no_room h = refuses Room (lacks_room (verdict_on lent os []) _ v (sym fit ∙ h))

      module _ (h : b ≡ true) where
        pub history_asks : AllLie lent os × ((length os * 4 ≤ length history) × (length (history_text (history_by lent os)) ≤ length out))
        history_asks = (all_lies lent os [] v, history_fits lent os history out (sym fit ∙ h))

        accepts : history_verdict lent os history out ≡ accepted
        unfolding history_verdict
        accepts = has_room (verdict_on lent os []) _ v (sym fit ∙ h)

        pub history_writes : {history' out' : List ℕ} → Wrote (history_by lent os) history out history' out' → Tells lent os history out history' out' (Ok a)
        history_writes w =
            record {
              answer = rw accepts (ap Ok same);
              spans = rw (accepts, history_is lent os) w.spans;
              text = rw (accepts, history_is lent os) w.text;
            }

-- any two outcomes that the statement allows are equal
pub only-history :
    {lent : Lent} {os : List Operation} {history out history₁ out₁ history₂ out₂ : List ℕ} {r₁ r₂ : Result WithHistory Refusal}
    → Tells lent os history out history₁ out₁ r₁ → Tells lent os history out history₂ out₂ r₂
    → (r₁ ≡ r₂) × ((history₁ ≡ history₂) × (out₁ ≡ out₂))
only-history h k = (h.answer ∙ sym k.answer, (h.spans ∙ sym k.spans, h.text ∙ sym k.text))
