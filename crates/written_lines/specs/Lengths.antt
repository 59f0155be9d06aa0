-- What the lines of an edit file are measured by: lengths as they are held, code points in hexadecimal. Assumes nothing.
use Rattle.std.specs.Prelude.{ℕ, ◌/◌, ◌%◌, min, List, [], ◌∷◌, ◌++◌}
use Rattle.edit_format.specs.Digits.{digit, digits}

-- a length as it is held: exact below the cap, which is above every file's
abbrev pub cap : ℕ → ℕ
cap n = min n 1099511627776

-- the code points of a line after its first
unfoldable pub further : List ℕ → List ℕ
further [] = []
further (c ∷ cs) = 32 ∷ digits 16 c ++ further cs

-- the last two hexadecimal digits of a number
unfoldable pub last_two : ℕ → List ℕ
last_two c = digit (c / 16 % 16) ∷ digit (c % 16) ∷ []
