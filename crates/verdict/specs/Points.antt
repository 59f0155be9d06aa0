-- Refusal 4. Assumes nothing.
use Rattle.std.specs.Prelude.{ℕ, ◌+◌, true, false, List, [], ◌∷◌, Ok, Err}
use Rattle.numbers.specs.Points.{is_point}
use Rattle.refusal.specs.declared.Refusal.TheVariants.{CodePoint}
use Rattle.verdict.specs.Verdicts.{and_then, Verdict, accepted}

-- "4: a lent text holds a number above 10FFFF hex or in D800 to DFFF. Carries: its index": from index i on
unfoldable pub points_from : List ℕ → ℕ → Verdict
points_from [] i = accepted
points_from (c ∷ cs) i = elim (is_point c) [ true ↦ points_from cs (i + 1) | false ↦ Err (CodePoint i) ]

-- "one lent inserted text .., checked after the original"
abbrev pub points_verdict : List ℕ → List ℕ → Verdict
points_verdict original text = and_then (points_from original 0) (points_from text 0)
