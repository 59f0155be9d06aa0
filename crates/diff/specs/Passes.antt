-- What each pass over a diff finds, by the definitions of the checks that it serves.
-- Assumes nothing.
use Rattle.std.specs.Prelude.{ℕ, List, ltb, Result, Ok}
use Rattle.refusal.specs.declared.Refusal.{Refusal}
use Rattle.refusal.specs.declared.Refusal.TheVariants.{Size}
use Rattle.diff.specs.declared.diff.Item.{Item}
use Rattle.diff.specs.declared.diff.Reached.{Reached}
use Rattle.diff.specs.Replay.{Edit, mentioned, kept}
use Rattle.diff.specs.Checks.{text_most, refuse_if, used, records, numbers}
use Rattle.verdict.specs.Verdicts.{and_then}

-- 3 by what the texts use, and within it 1, or how much they use
unfoldable pub surveyed : List Item → Result (Result ℕ Refusal) Refusal
surveyed is = and_then (refuse_if (ltb text_most (used is)) Size) (Ok (and_then (records 0 is) (Ok (used is))))

-- 6, or where the numbers lead
unfoldable pub walked : ℕ → List Edit → Result Reached Refusal
walked len es = and_then (numbers 0 len es) (Ok (record { position = mentioned es; kept = kept es }))
