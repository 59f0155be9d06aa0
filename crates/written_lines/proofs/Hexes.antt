-- The length of code points in hex: how many digits a number has, how many a block of them, and all of a line.
-- All digits of a number but the last are those of its sixteenth. Assumes nothing.
use mathlib.Core.Path.{◌≡◌, refl, ap}
use mathlib.Core.List.{List, [], ◌∷◌}
use Prim.Native.Nat.{ℕ, ◌+◌, ◌-◌, ◌/◌, ◌≤◌, ◌<◌}
use native.Mathlib.Omega.{arith}
use native.Mathlib.Decide.{dec_lt}
use lib.ListN.{length, length-append}
use Rattle.numbers.specs.Steps.{step}
use Rattle.numbers.specs.Sums.{sum_of}
use Rattle.numbers.proofs.Steps.{step_yes, step_no}
use Rattle.edit_format.specs.Digits.{digits}
use Rattle.edit_format.specs.Written.{points}
use Rattle.written_lines.specs.Lengths.{further}
use Rattle.written_lines.proofs.Numbers.{one_digit, one_less}
use Rattle.written_lines.proofs.Counting.{points_further}

-- how many digits a number has, by its size
digits_2 : (n : ℕ) → 16 ≤ n → n < 256 → length (digits 16 n) ≡ 2
digits_2 n g h = omega (arith, one_less 16 n (omega arith) (omega arith), one_digit 16 (n / 16) (omega arith))

digits_3 : (n : ℕ) → 256 ≤ n → n < 4096 → length (digits 16 n) ≡ 3
digits_3 n g h = omega (arith, one_less 16 n (omega arith) (omega arith), digits_2 (n / 16) (omega arith) (omega arith))

digits_4 : (n : ℕ) → 4096 ≤ n → n < 65536 → length (digits 16 n) ≡ 4
digits_4 n g h = omega (arith, one_less 16 n (omega arith) (omega arith), digits_3 (n / 16) (omega arith) (omega arith))

digits_5 : (n : ℕ) → 65536 ≤ n → n < 1048576 → length (digits 16 n) ≡ 5
digits_5 n g h = omega (arith, one_less 16 n (omega arith) (omega arith), digits_4 (n / 16) (omega arith) (omega arith))

digits_6 : (n : ℕ) → 1048576 ≤ n → n < 16777216 → length (digits 16 n) ≡ 6
digits_6 n g h = omega (arith, one_less 16 n (omega arith) (omega arith), digits_5 (n / 16) (omega arith) (omega arith))

digits_7 : (n : ℕ) → 16777216 ≤ n → n < 268435456 → length (digits 16 n) ≡ 7
digits_7 n g h = omega (arith, one_less 16 n (omega arith) (omega arith), digits_6 (n / 16) (omega arith) (omega arith))

digits_8 : (n : ℕ) → 268435456 ≤ n → n < 4294967296 → length (digits 16 n) ≡ 8
digits_8 n g h = omega (arith, one_less 16 n (omega arith) (omega arith), digits_7 (n / 16) (omega arith) (omega arith))

-- a digit more at each power of 16
pub hex_steps : (n : ℕ) → n < 4294967296 → 1 + step n 16 + step n 256 + step n 4096 + step n 65536 + step n 1048576 + step n 16777216 + step n 268435456 ≡ length (digits 16 n)
hex_steps n h = elim (dec_lt n 16) [
  | yes a1 ↦ omega (arith, one_digit 16 n (omega arith), step_no n 16 (omega arith), step_no n 256 (omega arith), step_no n 4096 (omega arith), step_no n 65536 (omega arith), step_no n 1048576 (omega arith), step_no n 16777216 (omega arith), step_no n 268435456 (omega arith))
  | no a1 ↦ elim (dec_lt n 256) [
    | yes a2 ↦ omega (arith, digits_2 n (omega arith) (omega arith), step_yes n 16 (omega arith), step_no n 256 (omega arith), step_no n 4096 (omega arith), step_no n 65536 (omega arith), step_no n 1048576 (omega arith), step_no n 16777216 (omega arith), step_no n 268435456 (omega arith))
    | no a2 ↦ elim (dec_lt n 4096) [
      | yes a3 ↦ omega (arith, digits_3 n (omega arith) (omega arith), step_yes n 16 (omega arith), step_yes n 256 (omega arith), step_no n 4096 (omega arith), step_no n 65536 (omega arith), step_no n 1048576 (omega arith), step_no n 16777216 (omega arith), step_no n 268435456 (omega arith))
      | no a3 ↦ elim (dec_lt n 65536) [
        | yes a4 ↦ omega (arith, digits_4 n (omega arith) (omega arith), step_yes n 16 (omega arith), step_yes n 256 (omega arith), step_yes n 4096 (omega arith), step_no n 65536 (omega arith), step_no n 1048576 (omega arith), step_no n 16777216 (omega arith), step_no n 268435456 (omega arith))
        | no a4 ↦ elim (dec_lt n 1048576) [
          | yes a5 ↦ omega (arith, digits_5 n (omega arith) (omega arith), step_yes n 16 (omega arith), step_yes n 256 (omega arith), step_yes n 4096 (omega arith), step_yes n 65536 (omega arith), step_no n 1048576 (omega arith), step_no n 16777216 (omega arith), step_no n 268435456 (omega arith))
          | no a5 ↦ elim (dec_lt n 16777216) [
            | yes a6 ↦ omega (arith, digits_6 n (omega arith) (omega arith), step_yes n 16 (omega arith), step_yes n 256 (omega arith), step_yes n 4096 (omega arith), step_yes n 65536 (omega arith), step_yes n 1048576 (omega arith), step_no n 16777216 (omega arith), step_no n 268435456 (omega arith))
            | no a6 ↦ elim (dec_lt n 268435456) [
              | yes a7 ↦ omega (arith, digits_7 n (omega arith) (omega arith), step_yes n 16 (omega arith), step_yes n 256 (omega arith), step_yes n 4096 (omega arith), step_yes n 65536 (omega arith), step_yes n 1048576 (omega arith), step_yes n 16777216 (omega arith), step_no n 268435456 (omega arith))
              | no a7 ↦ omega (arith, digits_8 n (omega arith) (omega arith), step_yes n 16 (omega arith), step_yes n 256 (omega arith), step_yes n 4096 (omega arith), step_yes n 65536 (omega arith), step_yes n 1048576 (omega arith), step_yes n 16777216 (omega arith), step_yes n 268435456 (omega arith))
            ]
          ]
        ]
      ]
    ]
  ]
]

-- how many hexadecimal digits numbers have together
abbrev pub hexes : List ℕ → ℕ
hexes = sum_of (λ c. length (digits 16 c))

further_length : (cs : List ℕ) → length (further cs) ≡ length cs + hexes cs
unfolding further sum_of
further_length [] = refl
further_length (c ∷ cs) = omega (arith, length-append (digits 16 c) (further cs), further_length cs)

-- the digits and a space between each two
pub points_length : (t : List ℕ) → length t - 1 + hexes t ≡ length (points t)
unfolding points sum_of
points_length [] = refl
points_length (c ∷ cs) = omega (arith, ap length (points_further c cs), length-append (digits 16 c) (further cs), further_length cs)
