-- Shown: two outcomes that the statement of `to_diff` allows are equal: the answer and both rooms.
-- How: each is an equation with a definition.
use mathlib.Core.Path.{◌≡◌, sym, ◌∙◌}
use mathlib.Core.List.{List}
use Prim.Native.Nat.{ℕ}
use lib.IntN.{ℤ}
use Rattle.records.specs.declared.Operation.{Operation}
use Rattle.merging.specs.Lent.{Lent}
use Rattle.refusal.specs.declared.Refusal.{Refusal}
use Rattle.item_records.specs.declared.Counts.{Counts}
use Rattle.to_diff.specs.Answers.{Diffs}
use Rattle.std.specs.Prelude.{Result}

pub only_answer : {lent : Lent} {os : List Operation} {d d' d'' : List ℤ} {e e' e'' : List ℕ} {r s : Result Counts Refusal} → Diffs lent os d e d' e' r → Diffs lent os d e d'' e'' s
    → (r ≡ s) × ((d' ≡ d'') × (e' ≡ e''))
only_answer h k = (h.answer ∙ sym k.answer, (h.items ∙ sym k.items, h.text ∙ sym k.text))
