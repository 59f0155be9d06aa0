-- Code points written: the bytes of all of them. Assumes nothing.
use Rattle.std.specs.Prelude.{ℕ, List, [], ◌∷◌, ◌++◌}
use Rattle.utf8_read.specs.Table.{encode}

-- "Encoding a character to UTF-8", each in its turn
unfoldable pub encode_all : List ℕ → List ℕ
encode_all [] = []
encode_all (x ∷ xs) = encode x ++ encode_all xs
