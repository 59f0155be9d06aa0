-- How large a number of the merge may be. Assumes nothing.
use Rattle.std.specs.Prelude.{ℕ}

-- "Sums are exact": no sum of an operation's numbers, or of the original that a list consumes, passes this
abbrev pub most : ℕ
most = 9223372036854775808
