-- The two tests of a byte's bits, shown at all 256 bytes.
-- Each is a test that is computed once over all of them. Assumes nothing.
use mathlib.Core.Path.{◌≡◌, subst, sym, refl}
use mathlib.Core.Bool.{Bool, true, false, ◌&&◌, beq}
use mathlib.Core.Logic.{⊎_elim}
use Prim.Native.Nat.{ℕ, zero, suc, ◌<◌, ◌-◌}
use native.Mathlib.Nat.{not-suc-le-zero, le_of_suc-le-suc, eq-or-lt_of_le}
use lib.Dec.{T, eqb, eqb→eq}
use lib.Bits.{bit_and}
use lib.Count.{count_leading_zeros}
use Rattle.utf8_read.specs.Grammar.{tail}
use Rattle.utf8_read.specs.Window.{ones}

and_left : (a b : Bool) → T (a && b) → T a
and_left true b t = tt
and_left false b t = t

and_right : (a b : Bool) → T (a && b) → T b
and_right true b t = t
and_right false b t = absurd t

abbrev all_below : (ℕ → Bool) → ℕ → Bool
all_below f zero = true
all_below f (suc n) = f n && all_below f n

below : (f : ℕ → Bool) (n : ℕ) → T (all_below f n) → (k : ℕ) → k < n → T (f k)
below f zero t k h = absurd (not-suc-le-zero h)
below f (suc n) t k h =
    ⊎_elim (λ (e : k ≡ n). subst (λ (m : ℕ). T (f m)) (sym e) (and_left (f n) (all_below f n) t))
    (λ (l : k < n). below f n (and_right (f n) (all_below f n) t) k l)
    (eq-or-lt_of_le (le_of_suc-le-suc h))

beq_eq : (a b : Bool) → T (beq a b) → a ≡ b
beq_eq true true t = refl
beq_eq true false t = absurd t
beq_eq false true t = absurd t
beq_eq false false t = refl

abbrev ones_test : ℕ → Bool
ones_test b = eqb (count_leading_zeros 8 (255 - b)) (ones b)

pub ones_law : (b : ℕ) → b < 256 → count_leading_zeros 8 (255 - b) ≡ ones b
unfolding count_leading_zeros ones
ones_law b h = eqb→eq (count_leading_zeros 8 (255 - b)) (ones b) (below ones_test 256 tt b h)

abbrev tail_test : ℕ → Bool
tail_test b = beq (eqb (bit_and b 192) 128) (tail b)

pub tail_law : (b : ℕ) → b < 256 → eqb (bit_and b 192) 128 ≡ tail b
unfolding tail
tail_law b h = beq_eq (eqb (bit_and b 192) 128) (tail b) (below tail_test 256 tt b h)
