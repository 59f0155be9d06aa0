-- Numbers in a base up to 16, as an edit file writes them. Assumes nothing.
use Rattle.std.specs.Prelude.{ℕ, zero, suc, ◌+◌, ◌-◌, ◌/◌, ◌%◌, Bool, ◌&&◌, List, [], ◌∷◌, ◌++◌, ltb, eqb}
use Rattle.room.specs.Choice.{pick}

-- "Numbers are decimal, `add=` one or more code points in lower-case hex": the byte of a digit, 0 to 9, then a to f
unfoldable pub digit : ℕ → ℕ
digit d = pick (ltb d 10) (d + 48) (d + 87)

-- "Numbers are decimal, `add=` .. in lower-case hex": the digit that a byte writes, if it writes one
unfoldable pub digit_of : ℕ → ℕ
digit_of b = pick (ltb b 58) (b - 48) (b - 87)

-- "decimal", "lower-case hex": the byte writes a digit of base m
unfoldable pub is_digit : ℕ → ℕ → Bool
is_digit m b = eqb (digit (digit_of b)) b && ltb (digit_of b) m

-- the digit that a byte writes in lower-case hex, and 16 for every other byte
unfoldable pub value_of : ℕ → ℕ
value_of b = pick (is_digit 16 b) (digit_of b) 16

-- "no leading zeros": n in base m; the first argument bounds the recursion, and n is enough
unfoldable pub digits_in : ℕ → ℕ → ℕ → List ℕ
digits_in zero m n = digit n ∷ []
digits_in (suc f) m n = pick (ltb n m) (digit n ∷ []) (digits_in f m (n / m) ++ digit (n % m) ∷ [])

-- "Numbers are decimal, `add=` .. in lower-case hex, ..; no leading zeros": n in base m
unfoldable pub digits : ℕ → ℕ → List ℕ
digits m n = digits_in n m n
