-- Digits written and read back.
-- By the digit that a byte writes, and by recursion on the number without its last digit. Assumes nothing.
use mathlib.Core.Path.{◌≡◌, refl, sym, ap, ◌∙◌}
use mathlib.Core.Bool.{Bool, true, false, ◌&&◌}
use mathlib.Core.List.{List, [], ◌∷◌, ◌++◌}
use Prim.Native.Nat.{ℕ, zero, suc, ◌+◌, ◌-◌, ◌*◌, ◌/◌, ◌%◌, ◌≤◌, ◌<◌, zero-le}
use native.Mathlib.Nat.{div-lt_self, zero-div, div-eq_of_lt, mul-add-div_right, mul-add-mod_self_right, mod-eq_of_lt, mul-le-mul_right, add-zero}
use native.Mathlib.Omega.{arith}
use native.Mathlib.Decide.{dec_lt}
use lib.Bits.{bit_and, and_mask}
use lib.Dec.{ltb, eqb}
use borrow.Author.Tests.{ltb-true, ltb-false, eqb-true, lt-ltb, le-ltb, eq-eqb, ne_eqb}
use Rattle.room.specs.Choice.{pick}
use Rattle.room.proofs.Bools.{and_left, and_right, and_false}
use Rattle.edit_format.specs.Digits.{digit, digit_of, is_digit, value_of, digits, digits_in}
use Rattle.room.proofs.Choices.{pick_elim}

pub digit_back : (d : ℕ) → digit_of (digit d) ≡ d
unfolding digit digit_of
digit_back d =
    pick_elim (λ (b : ℕ). pick (ltb b 58) (b - 48) (b - 87) ≡ d) (ltb d 10)
    (λ e. let h : d < 10 = ltb-true d 10 e in rw (lt-ltb (d + 48) 58 (omega arith)) (omega arith))
    (λ e. let h : 10 ≤ d = ltb-false d 10 e in rw (le-ltb (d + 87) 58 (omega arith)) (omega arith))

pub is_digit_lem : (m d : ℕ) → d < m → is_digit m (digit d) ≡ true
unfolding is_digit
is_digit_lem m d h = rw (digit_back d, eq-eqb (digit d) (digit d) refl, lt-ltb d m h)

-- what a digit's byte says
pub digit_writes : (m b : ℕ) → is_digit m b ≡ true → digit (digit_of b) ≡ b
unfolding is_digit
digit_writes m b e = eqb-true (digit (digit_of b)) b (and_left (eqb (digit (digit_of b)) b) (ltb (digit_of b) m) e)

pub digit_below : (m b : ℕ) → is_digit m b ≡ true → digit_of b < m
unfolding is_digit
digit_below m b e = ltb-true (digit_of b) m (and_right (eqb (digit (digit_of b)) b) (ltb (digit_of b) m) e)

pub no_digit_lf : (m : ℕ) → is_digit m 10 ≡ false
unfolding is_digit digit digit_of
no_digit_lf m = refl

pub no_digit_space : (m : ℕ) → is_digit m 32 ≡ false
unfolding is_digit digit digit_of
no_digit_space m = refl

pub shorter : (m f n : ℕ) → 1 < m → n ≤ suc f → n / m ≤ f
shorter m f zero h g = rw (zero-div m) zero-le
shorter m f (suc n) h g = let d : suc n / m < suc n = div-lt_self (omega arith) h in omega arith

-- the bound does not matter
same : (f g m n : ℕ) → 1 < m → n ≤ f → n ≤ g → digits_in f m n ≡ digits_in g m n
unfolding digits_in
same zero zero m n h a b = refl
same zero (suc g) m n h a b = rw (lt-ltb n m (omega arith))
same (suc f) zero m n h a b = rw (lt-ltb n m (omega arith))
same (suc f) (suc g) m n h a b =
    ap (λ (l : List ℕ). pick (ltb n m) (digit n ∷ []) (l ++ digit (n % m) ∷ [])) (same f g m (n / m) h (shorter m f n h a) (shorter m g n h b))

pub digits_one : (m d : ℕ) → d < m → digits m d ≡ digit d ∷ []
unfolding digits digits_in
digits_one m zero h = refl
digits_one m (suc d) h = rw (lt-ltb (suc d) m h)

-- n of at least m, by its last digit
pub digits_last : (m n : ℕ) → 1 < m → m ≤ n → digits m n ≡ digits m (n / m) ++ digit (n % m) ∷ []
unfolding digits digits_in
digits_last m zero h g = absurd (omega arith)
digits_last m (suc n) h g =
    rw (le-ltb (suc n) m g)
    (ap (λ (l : List ℕ). l ++ digit (suc n % m) ∷ []) (same n (suc n / m) m (suc n / m) h (shorter m n (suc n) h (omega arith)) (omega arith)))

pub digits_more : (m n d : ℕ) → 1 < m → 0 < n → d < m → digits m (n * m + d) ≡ digits m n ++ digit d ∷ []
digits_more m n d h g e =
    let w : 1 * m ≤ n * m = mul-le-mul_right m g in
    let z : 0 < m = omega arith in
    let q : (n * m + d) / m ≡ n = mul-add-div_right z n d ∙ ap (λ (x : ℕ). n + x) (div-eq_of_lt e) ∙ add-zero n in
    let r : (n * m + d) % m ≡ d = mul-add-mod_self_right n m d ∙ mod-eq_of_lt e in
    digits_last m (n * m + d) h (omega arith) ∙ rw (q, r)

no_digit : (m b : ℕ) → (digit (digit_of b) ≡ b → ⊥) → is_digit m b ≡ false
unfolding is_digit
no_digit m b h = rw (ne_eqb (digit (digit_of b)) b h)

-- a byte's place among the digits 0 to 9 and a to f, as the code finds it
pub value_low : (b : ℕ) → b < 48 → value_of b ≡ 16
unfolding value_of digit digit_of
value_low b h =
    let z : b - 48 ≡ 0 = omega arith in
    rw (no_digit 16 b (rw (lt-ltb b 58 (omega arith), z) (λ e. omega arith)))

pub value_ten : (b : ℕ) → 48 ≤ b → b < 58 → value_of b ≡ b - 48
unfolding value_of is_digit digit digit_of
value_ten b g h =
    let e : b - 48 + 48 ≡ b = omega arith in
    rw (lt-ltb b 58 h, lt-ltb (b - 48) 10 (omega arith), eq-eqb (b - 48 + 48) b e, lt-ltb (b - 48) 16 (omega arith))

pub value_gap : (b : ℕ) → 58 ≤ b → b < 97 → value_of b ≡ 16
unfolding value_of digit digit_of
value_gap b g h = rw (no_digit 16 b (rw (le-ltb b 58 g, lt-ltb (b - 87) 10 (omega arith)) (λ e. omega arith)))

pub value_six : (b : ℕ) → 97 ≤ b → b < 103 → value_of b ≡ b - 87
unfolding value_of is_digit digit digit_of
value_six b g h =
    let e : b - 87 + 87 ≡ b = omega arith in
    rw (le-ltb b 58 (omega arith), le-ltb (b - 87) 10 (omega arith), eq-eqb (b - 87 + 87) b e, lt-ltb (b - 87) 16 (omega arith))

pub value_high : (b : ℕ) → 103 ≤ b → value_of b ≡ 16
unfolding value_of is_digit digit_of
value_high b h = rw (le-ltb b 58 (omega arith), le-ltb (b - 87) 16 (omega arith), and_false (eqb (digit (b - 87)) b))

-- what the code finds with no branch: a letter's last four bits are 9 less than its digit
pub value_bits : (b : ℕ) → value_of b < 16 → b % 16 + 9 * (b / 64) ≡ value_of b
value_bits b h = elim (dec_lt b 48) [
  | yes a ↦ absurd (omega (arith, value_low b a))
  | no a ↦ elim (dec_lt b 58) [
    | yes c ↦ omega (arith, value_ten b (omega arith) c)
    | no c ↦ elim (dec_lt b 97) [
      | yes d ↦ absurd (omega (arith, value_gap b (omega arith) d))
      | no d ↦ elim (dec_lt b 103) [
        | yes e ↦ omega (arith, value_six b (omega arith) e)
        | no e ↦ absurd (omega (arith, value_high b (omega arith)))
      ]
    ]
  ]
]

-- the same of a byte's number, as the code has its bits
pub bits_digit : (b x : ℕ) → x ≡ b → value_of b < 16 → bit_and x 15 + 9 * (x / 64) ≡ value_of b
bits_digit b x e h = rw (e, and_mask b 4) (value_bits b h)

-- from 0 to f, the bytes between the digits and the letters are those with more than 24
pub value_between : (b : ℕ) → 48 ≤ b → b ≤ 102 → 24 < (b + 31) % 64 → value_of b ≡ 16
value_between b g h e = value_gap b (omega arith) (omega arith)

pub value_writes : (b : ℕ) → 48 ≤ b → b ≤ 102 → (b + 31) % 64 ≤ 24 → value_of b < 16
value_writes b g h e = elim (dec_lt b 58) [
  | yes a ↦ omega (arith, value_ten b g a)
  | no a ↦ let c : 97 ≤ b = omega arith in omega (arith, value_six b c (omega arith))
]

-- the same of a byte's number and its six lowest bits, as the code has them
pub hex_between : (b x : ℕ) → x ≡ b → 48 ≤ x → x ≤ 102 → 24 < bit_and (x + 31) 63 → 16 ≡ value_of b
hex_between b x e g h t = sym (value_between b (omega arith) (omega arith) (rw (e, and_mask (b + 31) 6) at t))

pub hex_writes : (b x : ℕ) → x ≡ b → 48 ≤ x → x ≤ 102 → bit_and (x + 31) 63 ≤ 24 → value_of b < 16
hex_writes b x e g h t = value_writes b (omega arith) (omega arith) (rw (e, and_mask (b + 31) 6) at t)

-- a digit of base m is one of base 16 that is below m
pub value_test : (m b : ℕ) → m ≤ 16 → ltb (value_of b) m ≡ is_digit m b
unfolding value_of is_digit
value_test m b h = go (eqb (digit (digit_of b)) b) (ltb (digit_of b) 16) refl
  where
    go : (t u : Bool) → ltb (digit_of b) 16 ≡ u → ltb (pick (t && u) (digit_of b) 16) m ≡ t && ltb (digit_of b) m
    go true true e = refl
    go true false e = rw (le-ltb 16 m h) (sym (le-ltb (digit_of b) m (let w : 16 ≤ digit_of b = ltb-false (digit_of b) 16 e in omega arith)))
    go false u e = le-ltb 16 m h

pub value_of_lem : (m b : ℕ) → m ≤ 16 → is_digit m b ≡ true → value_of b ≡ digit_of b
unfolding value_of is_digit
value_of_lem m b h e = rw (and_left (eqb (digit (digit_of b)) b) (ltb (digit_of b) m) e, lt-ltb (digit_of b) 16 (let w : digit_of b < m = digit_below m b e in omega arith))
