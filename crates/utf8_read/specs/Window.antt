-- What the functions of the reader find of a few bytes at a time. Assumes nothing.
use Rattle.std.specs.Prelude.{ℕ, suc, ◌+◌, ◌≤◌, ◌<◌, Bool, false, not, ◌&&◌, ◌||◌, ◌≡◌, List, [], ◌∷◌, get_or, length, drop, ltb, leb, eqb}
use Rattle.std.specs.Bool.{beq}
use Rattle.room.specs.Choice.{pick}
use Rattle.utf8_read.specs.Grammar.{tail, utf8_char}
use Rattle.utf8_read.specs.Reading.{good_from}

-- "The number of one bits at the top of the first byte"
unfoldable pub ones : ℕ → ℕ
ones b =
    pick (ltb b 128) 0
    (pick (ltb b 192) 1
    (pick (ltb b 224) 2 (pick (ltb b 240) 3 (pick (ltb b 248) 4 (pick (ltb b 252) 5 (pick (ltb b 254) 6 (pick (ltb b 255) 7 8)))))))

-- d cannot stand after a, b and c: it is a tail where none is due or none where one is, no sequence has it, or c does not take it
unfoldable pub misfit : ℕ → ℕ → ℕ → ℕ → Bool
misfit a b c d =
    not (beq (tail d) (leb 0xc0 c || leb 0xe0 b || leb 0xf0 a))
    || (leb 0xc0 d && ltb d 0xc2)
    || leb 0xf5 d
    || (eqb c 0xe0 && ltb d 0xa0)
    || (eqb c 0xed && leb 0xa0 d)
    || (eqb c 0xf0 && ltb d 0x90)
    || (eqb c 0xf4 && leb 0x90 d)

-- a stretch of bytes below 80 hex
abbrev pub Ascii : List ℕ → ℕ → ℕ → Type 0
Ascii s a e = (k : ℕ) → a ≤ k → k < e → get_or s k 0 < 0x80

-- each byte from a on, short of e, fits after the three before it
abbrev pub Local : List ℕ → ℕ → ℕ → Type 0
Local s a e = (j : ℕ) → a ≤ j + 3 → j + 3 < e → misfit (get_or s j 0) (get_or s (j + 1) 0) (get_or s (j + 2) 0) (get_or s (j + 3) 0) ≡ false

-- no sequence that began before p is still to end there
pub record Clean (s : List ℕ) (p : ℕ) : Type 0 where
  pub one : (j : ℕ) → j + 1 ≡ p → get_or s j 0 < 0xc0
  pub two : (j : ℕ) → j + 2 ≡ p → get_or s j 0 < 0xe0
  pub three : (j : ℕ) → j + 3 ≡ p → get_or s j 0 < 0xf0

-- bytes from at to e that all fit, none being open at at
pub record Stretch (s : List ℕ) (at e : ℕ) : Type 0 where
  pub third : 3 ≤ at
  pub least : at ≤ e
  pub most : e ≤ length s
  pub clean : Clean s at
  pub fit : Local s at e

-- good sequences from at reach p
pub record Reached (s : List ℕ) (at p : ℕ) : Type 0 where
  pub least : at ≤ p
  pub most : p ≤ length s
  pub clean : Clean s p
  pub good : at + good_from 0 (drop at s) ≡ p + good_from 0 (drop p s)

-- good sequences from a place reach p; where p falls short of until, a bad one stands there
pub record Walked (s : List ℕ) (from until p : ℕ) : Type 0 where
  pub reached : Reached s from p
  pub stopped : p < until → utf8_char (drop p s) ≡ 0

-- how many bytes are no tails
unfoldable pub starts : List ℕ → ℕ
starts [] = 0
starts (b ∷ s) = pick (tail b) (starts s) (suc (starts s))
