-- RFC 3629, section 3, "UTF-8 definition": its table, by quotients and remainders. Assumes nothing.
use Rattle.std.specs.Prelude.{ℕ, ◌+◌, ◌*◌, ◌/◌, ◌%◌, List, [], ◌∷◌, ltb}
use Rattle.room.specs.Choice.{pick}

-- "The following octet(s) all have the higher-order bit set to 1 and the following bit set to 0, leaving 6 bits in each"
abbrev pub six : ℕ → ℕ
six x = 0x80 + x % 64

-- "Fill in the bits marked x from the bits of the character number": the table's rows, "0xxxxxxx", "110xxxxx 10xxxxxx",
-- "1110xxxx 10xxxxxx 10xxxxxx", "11110xxx 10xxxxxx 10xxxxxx 10xxxxxx", for 0-7F, 80-7FF, 800-FFFF, 10000-10FFFF
unfoldable pub encode : ℕ → List ℕ
encode x =
    pick (ltb x 0x80) (x ∷ [])
    (pick (ltb x 0x800) ((0xc0 + x / 64) ∷ six x ∷ [])
    (pick (ltb x 0x10000) ((0xe0 + x / 4096) ∷ six (x / 64) ∷ six x ∷ [])
    ((0xf0 + x / 262144) ∷ six (x / 4096) ∷ six (x / 64) ∷ six x ∷ [])))

-- "Distribute the bits from the sequence to the binary number": a number with the six bits of one more octet
abbrev pub more : ℕ → ℕ → ℕ
more x b = x * 64 + b % 64

-- "Determine which bits encode the character number from the number of octets in the sequence": the number of a whole sequence
unfoldable pub decode : List ℕ → ℕ
decode [] = 0
decode (a ∷ []) = a
decode (a ∷ b ∷ []) = more (a % 32) b
decode (a ∷ b ∷ c ∷ []) = more (more (a % 16) b) c
decode (a ∷ b ∷ c ∷ d ∷ s) = more (more (more (a % 8) b) c) d
