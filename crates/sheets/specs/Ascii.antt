-- Texts as the bytes that a file holds. Assumes nothing.
use Rattle.std.specs.Prelude.{ℕ, List, [] as []ᴸ, ◌∷◌ as ◌∷ᴸ◌, ◌++◌}
use Prim.Native.Char.{code}
use Prim.Native.String.{String, [], ◌∷◌}

-- a text in ASCII, a byte a character
unfoldable pub ascii : String → List ℕ
ascii [] = []ᴸ
ascii (c ∷ s) = code c ∷ᴸ ascii s

-- "Lines end in LF"
unfoldable pub lines : List String → List ℕ
lines []ᴸ = []ᴸ
lines (s ∷ᴸ ss) = ascii s ++ (10 ∷ᴸ lines ss)
