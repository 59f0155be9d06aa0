-- Which numbers are code points, and how far those of a text are. Assumes nothing.
use Rattle.std.specs.Prelude.{ℕ, suc, Bool, not, ◌&&◌, ◌||◌, List, [], ◌∷◌, ltb, leb}
use Rattle.room.specs.Choice.{pick}

-- "a number above 10FFFF hex or in D800 to DFFF" is none. RFC 3629, section 3: "characters from the U+0000..U+10FFFF range", and
-- "The definition of UTF-8 prohibits encoding character numbers between U+D800 and U+DFFF"
unfoldable pub is_point : ℕ → Bool
is_point x = ltb x 0xd800 || (leb 0xe000 x && leb x 0x10ffff)

-- a number that is none
abbrev pub no_point : ℕ → Bool
no_point x = not (is_point x)

-- "a lent text holds a number above 10FFFF hex or in D800 to DFFF", "its index": how many numbers before the first such one; all, where none is
unfoldable pub scalars : List ℕ → ℕ
scalars [] = 0
scalars (x ∷ xs) = pick (is_point x) (suc (scalars xs)) 0
