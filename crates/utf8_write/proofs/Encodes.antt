-- The bytes of a code point by how many it takes, and the bytes of a text part by part.
-- The table's row is chosen by orders of the number. Assumes nothing.
use mathlib.Core.Path.{◌≡◌, refl, sym, ap, ◌∙◌}
use mathlib.Core.List.{List, [], ◌∷◌, ◌++◌, append_assoc, append-nil}
use Prim.Native.Nat.{ℕ, ◌+◌, ◌/◌, ◌≤◌, ◌<◌}
use native.Mathlib.Omega.{arith}
use borrow.Author.Tests.{lt-ltb, le-ltb}
use Rattle.utf8_read.specs.Table.{encode, six}
use Rattle.utf8_write.specs.Writing.{encode_all}

pub row_1 : (x : ℕ) → x < 0x80 → encode x ≡ x ∷ []
unfolding encode
row_1 x h = rw (lt-ltb x 0x80 h)

pub row_2 : (x : ℕ) → 0x80 ≤ x → x < 0x800 → encode x ≡ (0xc0 + x / 64) ∷ six x ∷ []
unfolding encode
row_2 x g h = rw (le-ltb x 0x80 g, lt-ltb x 0x800 h)

pub row_3 : (x : ℕ) → 0x800 ≤ x → x < 0x10000 → encode x ≡ (0xe0 + x / 4096) ∷ six (x / 64) ∷ six x ∷ []
unfolding encode
row_3 x g h = rw (le-ltb x 0x80 (omega arith), le-ltb x 0x800 g, lt-ltb x 0x10000 h)

pub row_4 : (x : ℕ) → 0x10000 ≤ x → encode x ≡ (0xf0 + x / 262144) ∷ six (x / 4096) ∷ six (x / 64) ∷ six x ∷ []
unfolding encode
row_4 x g = rw (le-ltb x 0x80 (omega arith), le-ltb x 0x800 (omega arith), le-ltb x 0x10000 g)

pub none : encode_all [] ≡ []
unfolding encode_all
none = refl

pub one : (x : ℕ) → encode_all (x ∷ []) ≡ encode x
unfolding encode_all
one x = append-nil (encode x)

pub parts : (s t : List ℕ) → encode_all (s ++ t) ≡ encode_all s ++ encode_all t
unfolding encode_all
parts [] t = refl
parts (x ∷ s) t = ap (λ (r : List ℕ). encode x ++ r) (parts s t) ∙ sym (append_assoc (encode x) (encode_all s) (encode_all t))
