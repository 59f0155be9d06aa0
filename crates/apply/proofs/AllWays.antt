-- Shown: the ways of `apply_with_all`: what was written is the answer, a refusal leaves the rooms; and the answer is the only one.
-- How: by what the call on lengths answered, and by the tests of the rooms.
use Prim.Native.Nat.{ℕ, ◌*◌, ◌≤◌}
use mathlib.Core.Path.{◌≡◌, sym, ◌∙◌, ap}
use mathlib.Core.Bool.{Bool, true, false, ◌&&◌}
use mathlib.Core.List.{List}
use lib.ListN.{length}
use lib.Dec.{leb}
use Rattle.refusal.specs.declared.Refusal.{Refusal}
use Rattle.refusal.specs.declared.Refusal.TheVariants.{Room}
use Rattle.room.specs.Placed.{answered}
use Rattle.records.specs.declared.Operation.{Operation}
use Rattle.records.specs.declared.Cursor.{Cursor}
use Rattle.records.specs.Cursors.{flat_cursors}
use Rattle.cursors.specs.Sorted.{sorted}
use Rattle.room.proofs.Bools.{first_no, second_no, both_yes}
use Rattle.verdict.proofs.Chains.{stops, has_room, lacks_room}
use Rattle.checks.proofs.Telling.{says_no, says_yes, says_what}
use Rattle.merging.specs.Lent.{Lent}
use Rattle.merging.specs.Outputs.{history_text, flat_spans}
use Rattle.apply.specs.declared.WithAll.{WithAll}
use Rattle.written_lists.specs.Parts.{text_by, history_by, AllLie, Wrote}
use Rattle.apply.specs.Answers.{verdict_on, text_on, history_on, fits, all_verdict, told_all_on, AppliesAll}
use Rattle.apply.proofs.Lists.{history_is}
use Rattle.apply.proofs.Answering.{all_lies, same_text, text_rooms, history_rooms, text_fits, history_fits}
use Rattle.std.specs.Prelude.{Result, Ok, Err}
use Rattle.verdict.specs.Verdicts.{accepted}

module _ (lent : Lent) (os : List Operation) (cs : List Cursor) (out moved history texts : List ℕ) where
  refuses : (r : Refusal) → all_verdict lent os cs out moved history texts ≡ Err r
      → AppliesAll lent os cs out moved history texts out moved history texts (Err r)
  refuses r e = record { answer = rw e; text = rw e; cursors = rw e; spans = rw e; history_text_lem = rw e }

  pub all_stops : (r : Refusal) → Err r ≡ told_all_on lent os cs → AppliesAll lent os cs out moved history texts out moved history texts (Err r)
  unfolding all_verdict
  all_stops r e = refuses r (sym (stops (verdict_on lent os cs) _ r (says_no (verdict_on lent os cs) _ r (sym e))))

  module _ (a : WithAll) (e : Ok a ≡ told_all_on lent os cs) where
    v : verdict_on lent os cs ≡ accepted
    v = says_yes (verdict_on lent os cs) _ a (sym e)

    same : a
        ≡ record {
          text = length (text_on lent os);
          cursors = length (sorted cs);
          spans = length (history_on lent os);
          history_text = length (history_text (history_on lent os));
        }
    same = sym (says_what (verdict_on lent os cs) _ a (sym e))

    abbrev textual : Bool
    textual = fits (flat_cursors (sorted cs)) moved && fits (text_on lent os) out

    abbrev historical : Bool
    historical = fits (flat_spans 0 (history_on lent os)) history && fits (history_text (history_on lent os)) texts

    module _ (b : Bool) (f : b ≡ leb (a.cursors * 2) (length moved) && leb a.text (length out)) where
      text_fit : b ≡ textual
      text_fit = text_rooms lent os cs out moved a.text a.cursors b (ap (λ (x : WithAll). x.text) same) (ap (λ (x : WithAll). x.cursors) same) f

      pub all_no_room : b ≡ false → AppliesAll lent os cs out moved history texts out moved history texts (Err Room)
      unfolding all_verdict
      all_no_room h = refuses Room (lacks_room (verdict_on lent os cs) _ v (first_no textual historical (sym text_fit ∙ h)))

      module _ (h : b ≡ true) (d : Bool) (g : d ≡ leb (a.spans * 4) (length history) && leb a.history_text (length texts)) where
        history_fit : d ≡ historical
        history_fit = history_rooms lent os history texts a.spans a.history_text d (ap (λ (x : WithAll). x.spans) same) (ap (λ (x : WithAll). x.history_text) same) g

        pub all_no_history : d ≡ false → AppliesAll lent os cs out moved history texts out moved history texts (Err Room)
        unfolding all_verdict
        all_no_history i = refuses Room (lacks_room (verdict_on lent os cs) _ v (second_no textual historical (sym text_fit ∙ h) (sym history_fit ∙ i)))

        module _ (i : d ≡ true) where
          pub all_asks : AllLie lent os
              × ((length (text_by lent os) ≤ length out) × ((length os * 4 ≤ length history) × (length (history_text (history_by lent os)) ≤ length texts)))
          all_asks = (
            all_lies lent os cs v,
            ((text_fits lent os cs out moved v (sym text_fit ∙ h)).0, history_fits lent os history texts (sym history_fit ∙ i)),
          )

          pub all_sorts : length cs * 2 ≤ length moved
          all_sorts = (text_fits lent os cs out moved v (sym text_fit ∙ h)).1

          accepts : all_verdict lent os cs out moved history texts ≡ accepted
          unfolding all_verdict
          accepts = has_room (verdict_on lent os cs) _ v (both_yes textual historical (sym text_fit ∙ h) (sym history_fit ∙ i))

          pub all_writes : {out' moved' history' texts' : List ℕ} → (out' ≡ answered (text_by lent os) out) × Wrote (history_by lent os) history texts history' texts'
              → moved' ≡ answered (flat_cursors (sorted cs)) moved
              → AppliesAll lent os cs out moved history texts out' moved' history' texts' (Ok a)
          all_writes w s =
              record {
                answer = rw accepts (ap Ok same);
                text = rw (accepts, same_text lent os cs v) w.0;
                cursors = rw accepts s;
                spans = rw (accepts, history_is lent os) w.1.spans;
                history_text_lem = rw (accepts, history_is lent os) w.1.text;
              }

-- any two outcomes that the statement allows are equal
pub only-all :
    {lent : Lent} {os : List Operation} {cs : List Cursor} {out moved history texts out₁ moved₁ history₁ texts₁ out₂ moved₂ history₂ texts₂ : List ℕ} {r₁ r₂ : Result WithAll Refusal}
    → AppliesAll lent os cs out moved history texts out₁ moved₁ history₁ texts₁ r₁ → AppliesAll lent os cs out moved history texts out₂ moved₂ history₂ texts₂ r₂
    → (r₁ ≡ r₂) × ((out₁ ≡ out₂) × ((moved₁ ≡ moved₂) × ((history₁ ≡ history₂) × (texts₁ ≡ texts₂))))
only-all h k = (
  h.answer ∙ sym k.answer,
  (h.text ∙ sym k.text, (h.cursors ∙ sym k.cursors, (h.spans ∙ sym k.spans, h.history_text_lem ∙ sym k.history_text_lem))),
)
