-- Shown: "Any two outcomes it allows are shown equal", for the calls whose own crates do not say it; the work room is the exception.
-- How: each answer and each room is an equation with a definition.
use Prim.Native.Nat.{ℕ}
use mathlib.Core.Path.{◌≡◌, sym, ◌∙◌, ap}
use mathlib.Core.List.{List}
use lib.IntN.{ℤ}
use Rattle.elongate.specs.declared.Written.{Written}
use Rattle.elongate.specs.Verdicts.{Elongates}
use Rattle.edit_format.specs.Items.{Item}
use Rattle.edit_format.specs.Reading.{Found}
use Rattle.item_records.specs.declared.Counts.{Counts}
use Rattle.edit_read.specs.Answer.{items_left, text_left, ReadInto}
use Rattle.edit_write.specs.Writing.{Wrote}
use Rattle.std.specs.Prelude.{Result}
use Rattle.verdict.specs.Verdicts.{Verdict}
use Rattle.refusal.specs.declared.Refusal.{Refusal}

-- a call that lends no room: what it answers is a definition's value
pub only_value : {A : Type 0} {r s x : A} → r ≡ x → s ≡ x → r ≡ s
only_value e f = e ∙ sym f

pub only_elongated : {xs spans keys joins text o s k j o₁ s₁ k₁ j₁ o₂ s₂ k₂ j₂ : List ℕ} {v : Verdict} {r₁ r₂ : Result Written Refusal}
    → Elongates xs spans keys joins text o s k j o₁ s₁ k₁ j₁ v r₁ → Elongates xs spans keys joins text o s k j o₂ s₂ k₂ j₂ v r₂
    → (r₁ ≡ r₂) × ((o₁ ≡ o₂) × ((s₁ ≡ s₂) × ((k₁ ≡ k₂) × (j₁ ≡ j₂))))
only_elongated a b =
    (a.answer ∙ sym b.answer, (a.operations ∙ sym b.operations, (a.in_spans ∙ sym b.in_spans, (a.in_keys ∙ sym b.in_keys, a.in_joins ∙ sym b.in_joins))))

pub only_read : {f : Found} {d d₁ d₂ : List ℤ} {e e₁ e₂ : List ℕ} {r₁ r₂ : Result Counts Refusal} → ReadInto f d e d₁ e₁ r₁ → ReadInto f d e d₂ e₂ r₂
    → (r₁ ≡ r₂) × ((d₁ ≡ d₂) × (e₁ ≡ e₂))
only_read {f} {d} {d₁} {d₂} {e} a b =
    let q = a.answer ∙ sym b.answer in (
      q,
      (
        a.items ∙ (ap (λ (r : Result Counts Refusal). items_left r f d) q ∙ sym b.items),
        a.text ∙ (ap (λ (r : Result Counts Refusal). text_left r f e) q ∙ sym b.text),
      ),
    )

pub only_written : {is : List Item} {text out out₁ out₂ : List ℕ} {r₁ r₂ : Result ℕ Refusal} → Wrote is text out out₁ r₁ → Wrote is text out out₂ r₂
    → (r₁ ≡ r₂) × (out₁ ≡ out₂)
only_written a b = (a.answer ∙ sym b.answer, a.room ∙ sym b.room)
