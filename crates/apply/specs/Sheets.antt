-- "Sheets on the bench": what the calls make of the merged lists. Assumes nothing.
use Rattle.std.specs.Prelude.{◌≡◌, List, [], ◌∷◌}
use Rattle.cursors.specs.Sorted.{sorted}
use Rattle.merging.specs.Sheets.{Sheet}
use Rattle.apply.specs.Answers.{verdict_on, text_on, history_on}
use Rattle.verdict.specs.Verdicts.{accepted}

-- "Text "abXYf"; history unchanged ab, removed left cd, removed right e, added left X, added right Y, unchanged f.": each merged list is
-- accepted, and has the sheet's text, cursors and history
pub record Made (s : Sheet) : Type 0 where
  pub accepted : verdict_on s.lent s.merged.operations s.merged.cursors ≡ accepted
  pub text : text_on s.lent s.merged.operations ≡ s.text
  pub cursors : sorted s.merged.cursors ≡ s.merged.cursors
  pub history : history_on s.lent s.merged.operations ≡ s.history

-- "★ proved, one statement over the table"
abbrev pub AllMade : List Sheet → Type 0
AllMade [] = Unit
AllMade (s ∷ ss) = Made s × AllMade ss
