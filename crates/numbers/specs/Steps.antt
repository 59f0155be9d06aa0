-- The order of two numbers as a number. Assumes nothing.
use Rattle.std.specs.Prelude.{ℕ, leb}
use Rattle.room.specs.Choice.{pick}

-- 1 for a number that is not below another
unfoldable pub step : ℕ → ℕ → ℕ
step x least = pick (leb least x) 1 0
