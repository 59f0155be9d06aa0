-- The length of the whole file, as the code sums it up to the cap.
-- The lengths of its lines, each capped, one after the other. Assumes nothing.
use mathlib.Core.Path.{◌≡◌, refl, sym, ap, ◌∙◌}
use mathlib.Core.List.{List, ◌++◌}
use Prim.Native.Nat.{ℕ, ◌+◌, ◌/◌}
use native.Mathlib.Omega.{arith}
use lib.ListN.{length, length-append}
use lib.IntN.{ℤ}
use Rattle.edit_format.specs.Digits.{digits}
use Rattle.edit_format.specs.Written.{number_line, end_key, form_key, original_key, result_key, items_key, item_lines, Head, head_lines}
use Rattle.written_lines.specs.Lengths.{cap}
use Rattle.written_lines.proofs.Numbers.{one_digit}
use Rattle.written_lines.proofs.Counting.{line_length}
use Rattle.writable.specs.Writable.{file_of}
use Rattle.edit_write.specs.Bytes.{file_bytes}

pub head_length : (h : Head) → length (head_lines h) ≡ 7 + (9 + length (digits 10 h.original) + 1) + (7 + length (digits 10 h.result) + 1) + (6 + length (digits 10 h.count) + 1)
unfolding head_lines
head_length h =
    let a = line_length form_key 1 in
    let b = line_length original_key h.original in
    let c = line_length result_key h.result in
    let d = line_length items_key h.count in
    length-append (number_line form_key 1 ++ number_line original_key h.original ++ number_line result_key h.result) (number_line items_key h.count)
    ∙ omega (arith, length-append (number_line form_key 1 ++ number_line original_key h.original) (number_line result_key h.result), length-append (number_line form_key 1) (number_line original_key h.original), one_digit 10 1 (omega arith))

file_total : (xs : List ℤ) (text : List ℕ) (o r n : ℕ) → n ≡ length xs / 3 → length (file_bytes xs text o r) ≡ 7 + (9 + length (digits 10 o) + 1) + (7 + length (digits 10 r) + 1) + (6 + length (digits 10 n) + 1) + length (item_lines (file_of xs text)) + (4 + length (digits 10 n) + 1)
unfolding file_bytes
file_total xs text o r n z =
    let h : Head = record { original = o; result = r; count = length xs / 3 } in
    let w = ap (λ (k : ℕ). length (digits 10 k)) z in
    omega (arith, w, length-append (head_lines h ++ item_lines (file_of xs text)) (number_line end_key (length xs / 3)), length-append (head_lines h) (item_lines (file_of xs text)), head_length h, line_length end_key (length xs / 3))

-- capped sums of capped lengths
plus_caps : {a b r : ℕ} (x y : ℕ) → a ≡ cap x → b ≡ cap y → r ≡ cap (a + b) → r ≡ cap (x + y)
plus_caps x y e f g = omega arith

-- the lengths of a whole file, summed as the code sums them
pub file_sum : (xs : List ℤ) (text : List ℕ) (o r : ℕ) {n a b c d e l₁ l₂ l₃ l₄ m : ℕ} → n ≡ length xs / 3
    → l₁ ≡ cap (9 + length (digits 10 o) + 1) → a ≡ cap (7 + l₁) → l₂ ≡ cap (7 + length (digits 10 r) + 1) → b ≡ cap (a + l₂)
    → l₃ ≡ cap (6 + length (digits 10 n) + 1) → c ≡ cap (b + l₃) → m ≡ cap (length (item_lines (file_of xs text))) → d ≡ cap (c + m)
    → l₄ ≡ cap (4 + length (digits 10 n) + 1) → e ≡ cap (d + l₄) → e ≡ cap (length (file_bytes xs text o r))
file_sum xs text o r {n} z p₁ q₁ p₂ q₂ p₃ q₃ p₅ q₅ p₄ q₄ =
    let x₁ : ℕ = 9 + length (digits 10 o) + 1 in
    let x₂ : ℕ = 7 + length (digits 10 r) + 1 in
    let x₃ : ℕ = 6 + length (digits 10 n) + 1 in
    let x₅ : ℕ = length (item_lines (file_of xs text)) in
    let x₄ : ℕ = 4 + length (digits 10 n) + 1 in
    plus_caps (7 + x₁ + x₂ + x₃ + x₅) x₄ (plus_caps (7 + x₁ + x₂ + x₃) x₅ (plus_caps (7 + x₁ + x₂) x₃ (plus_caps (7 + x₁) x₂ (plus_caps 7 x₁ refl p₁ q₁) p₂ q₂) p₃ q₃) p₅ q₅) p₄ q₄ ∙ ap (λ (k : ℕ). cap k) (sym total)
  where
    total : length (file_bytes xs text o r) ≡ 7 + (9 + length (digits 10 o) + 1) + (7 + length (digits 10 r) + 1) + (6 + length (digits 10 n) + 1) + length (item_lines (file_of xs text)) + (4 + length (digits 10 n) + 1)
    total = file_total xs text o r n z
