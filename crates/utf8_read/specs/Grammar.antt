-- RFC 3629, section 4, "Syntax of UTF-8 Byte Sequences": its rules as tests of bytes. Assumes nothing.
use Rattle.std.specs.Prelude.{ℕ, Bool, ◌&&◌, ◌||◌, List, [], ◌∷◌, leb, eqb}
use Rattle.room.specs.Choice.{pick}

-- "%xC2-DF" and its like: the bytes from the first to the last
abbrev pub range : ℕ → ℕ → ℕ → Bool
range first last b = leb first b && leb b last

-- "UTF8-tail   = %x80-BF"
unfoldable pub tail : ℕ → Bool
tail b = range 0x80 0xbf b

-- "UTF8-1      = %x00-7F"
unfoldable pub utf8_1 : ℕ → Bool
utf8_1 a = leb a 0x7f

-- "UTF8-2      = %xC2-DF UTF8-tail"
unfoldable pub utf8_2 : ℕ → ℕ → Bool
utf8_2 a b = range 0xc2 0xdf a && tail b

-- "UTF8-3      = %xE0 %xA0-BF UTF8-tail / %xE1-EC 2( UTF8-tail ) / %xED %x80-9F UTF8-tail / %xEE-EF 2( UTF8-tail )"
unfoldable pub utf8_3 : ℕ → ℕ → ℕ → Bool
utf8_3 a b c =
    (eqb a 0xe0 && (range 0xa0 0xbf b && tail c))
    || ((range 0xe1 0xec a && (tail b && tail c)) || ((eqb a 0xed && (range 0x80 0x9f b && tail c)) || (range 0xee 0xef a && (tail b && tail c))))

-- "UTF8-4      = %xF0 %x90-BF 2( UTF8-tail ) / %xF1-F3 3( UTF8-tail ) / %xF4 %x80-8F 2( UTF8-tail )"
unfoldable pub utf8_4 : ℕ → ℕ → ℕ → ℕ → Bool
utf8_4 a b c d =
    (eqb a 0xf0 && (range 0x90 0xbf b && (tail c && tail d)))
    || ((range 0xf1 0xf3 a && (tail b && (tail c && tail d))) || (eqb a 0xf4 && (range 0x80 0x8f b && (tail c && tail d))))

-- "UTF8-char   = UTF8-1 / UTF8-2 / UTF8-3 / UTF8-4": how many bytes the one at the front takes, 0 where none stands there
unfoldable pub from_4 : ℕ → ℕ → ℕ → List ℕ → ℕ
from_4 a b c [] = 0
from_4 a b c (d ∷ s) = pick (utf8_4 a b c d) 4 0

-- the same after two bytes: "UTF8-3 / UTF8-4"
unfoldable pub from_3 : ℕ → ℕ → List ℕ → ℕ
from_3 a b [] = 0
from_3 a b (c ∷ s) = pick (utf8_3 a b c) 3 (from_4 a b c s)

-- the same after one byte: "UTF8-2 / UTF8-3 / UTF8-4"
unfoldable pub from_2 : ℕ → List ℕ → ℕ
from_2 a [] = 0
from_2 a (b ∷ s) = pick (utf8_2 a b) 2 (from_3 a b s)

-- "UTF8-char   = UTF8-1 / UTF8-2 / UTF8-3 / UTF8-4": how many bytes the one at the front takes, 0 where none stands there
unfoldable pub utf8_char : List ℕ → ℕ
utf8_char [] = 0
utf8_char (a ∷ s) = pick (utf8_1 a) 1 (from_2 a s)
