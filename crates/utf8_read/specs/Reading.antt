-- A run of bytes read: how far it is UTF-8, and which code points it holds. Assumes nothing.
use Rattle.std.specs.Prelude.{ℕ, zero, suc, List, [], ◌∷◌, take}
use Rattle.utf8_read.specs.Grammar.{utf8_char}
use Rattle.utf8_read.specs.Table.{decode}

-- "UTF8-octets = *( UTF8-char )": how many of the bytes are whole sequences, one after the other; of one that has begun, k bytes are still to pass
unfoldable pub good_from : ℕ → List ℕ → ℕ
good_from k [] = 0
good_from (suc k) (b ∷ s) = suc (good_from k s)
good_from zero (b ∷ s) = elim (utf8_char (b ∷ s)) [ zero ↦ 0 | suc k ↦ suc (good_from k s) ]

-- "offset of the first byte of the first bad sequence": up to there the bytes are good sequences; the length, where none is bad
abbrev pub good_end : List ℕ → ℕ
good_end s = good_from 0 s

-- "Decoding a UTF-8 character": the numbers of these sequences, in order
unfoldable pub points_from_lem : ℕ → List ℕ → List ℕ
points_from_lem k [] = []
points_from_lem (suc k) (b ∷ s) = points_from_lem k s
points_from_lem zero (b ∷ s) = elim (utf8_char (b ∷ s)) [ zero ↦ [] | suc k ↦ decode (take (suc k) (b ∷ s)) ∷ points_from_lem k s ]

-- "Decoding a UTF-8 character": the code points of bytes, up to the first bad sequence
abbrev pub points : List ℕ → List ℕ
points s = points_from_lem 0 s
