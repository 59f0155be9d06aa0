-- When a call's answer is the one that a case's line says. Assumes nothing.
use Rattle.std.specs.Prelude.{ℕ, ◌≡◌, List, [], ◌∷◌, length, take, Result, Ok, Err}
use Rattle.refusal.specs.Numbers.{number, values, padded}
use Rattle.refusal.specs.declared.Refusal.{Refusal}
use Rattle.vectors.specs.declared.due.Due.{Due}

-- the numbers of a line behind its first
abbrev pub said : Due → List ℕ
said d = d.values.first ∷ d.values.second ∷ d.values.third ∷ []

-- these counts stand there first, whatever stands behind them
abbrev pub Begins : Due → List ℕ → Type 0
Begins d ns = ns ≡ take (length ns) (said d)

-- an accepted answer is due by as many counts as it has, a refusal by its number and all its values
abbrev pub IsDue : Due → Result (List ℕ) Refusal → Type 0
IsDue d (Ok ns) = (d.number ≡ 0) × Begins d ns
IsDue d (Err r) = (d.number ≡ number r) × (d.values ≡ padded (values r))
