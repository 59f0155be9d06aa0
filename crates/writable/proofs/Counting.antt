-- The lengths of all items, as the code sums them up to the cap.
-- What is summed so far and what is left give the whole length, capped. Assumes nothing.
use mathlib.Core.Path.{◌≡◌, ap, ◌∙◌}
use mathlib.Core.Logic.{◌⊎◌, inl, inr}
use mathlib.Core.List.{List, []}
use Prim.Native.Nat.{ℕ, ◌+◌, ◌-◌, ◌/◌, ◌≤◌, ◌<◌, zero-le}
use native.Mathlib.Omega.{arith}
use lib.ListN.{length, drop, take, length-append}
use lib.IntN.{ℤ}
use Rattle.diff.specs.declared.diff.Item.{Item as Lent}
use Rattle.diff.specs.declared.diff.Item.TheVariants.{Retain, Delete, Insert, Neither}
use Rattle.diff.specs.Items.{item_at}
use Rattle.diff.proofs.Decoding.{range_part}
use Rattle.edit_format.specs.Digits.{digits}
use Rattle.edit_format.specs.Items.{Item, Keep, Drop}
use Rattle.edit_format.specs.Written.{points, keep_key, drop_key, item_line, item_lines}
use Rattle.written_lines.specs.Lengths.{cap}
use Rattle.written_lines.proofs.Counting.{line_length, add_length}
use Rattle.writable.specs.Writable.{file_item, file_of}
use Rattle.writable.proofs.Checking.{rest, rest_all, rest_at, rest_none}

pub keep_length : (n : ℕ) → length (item_line (Keep n)) ≡ 5 + length (digits 10 n) + 1
unfolding item_line
keep_length n = line_length keep_key n

pub drop_length : (n : ℕ) → length (item_line (Drop n)) ≡ 5 + length (digits 10 n) + 1
unfolding item_line
drop_length n = line_length drop_key n

pub record ItemsCount (xs : List ℤ) (text : List ℕ) (sum i : ℕ) : Type 0 where
  pub small : sum ≤ 1099511627776
  pub same : cap (sum + length (item_lines (rest xs text i))) ≡ cap (length (item_lines (file_of xs text)))

pub items_begin : (xs : List ℤ) (text : List ℕ) → ItemsCount xs text 0 0
items_begin xs text = record { small = zero-le; same = omega (arith, ap (λ (l : List Item). length (item_lines l)) (rest_all xs text)) }

pub items_more :
    {xs : List ℤ} {text : List ℕ} {sum i n s : ℕ} {x : Lent} → ItemsCount xs text sum i → i < length xs / 3 → item_at xs (length text) i ≡ x
    → n ≡ cap (length (item_line (file_item text x))) → s ≡ cap (sum + n) → ItemsCount xs text s (i + 1)
unfolding item_lines
items_more {xs} {text} {sum} {i} {x = x} p h d e f =
    let r : length (item_lines (rest xs text i)) ≡ length (item_line (file_item text x)) + length (item_lines (rest xs text (i + 1))) =
    ap (λ (l : List Item). length (item_lines l)) (rest_at xs text i h d) ∙ length-append (item_line (file_item text x)) (item_lines (rest xs text (i + 1))) in
    record { small = omega arith; same = omega (arith, p.small, p.same) }

pub items_end : {xs : List ℤ} {text : List ℕ} {sum i : ℕ} → ItemsCount xs text sum i → length xs / 3 ≤ i → sum ≡ cap (length (item_lines (file_of xs text)))
unfolding item_lines
items_end {xs} {text} {sum} {i} p h = omega (arith, p.small, p.same, ap (λ (l : List Item). length (item_lines l)) (rest_none xs text i h))

-- the length of a lent item's line, by what the item is
module _ (text : List ℕ) {x : Lent} {r n : ℕ} where
  retain_length : x ≡ Retain n → r ≡ cap (5 + length (digits 10 n) + 1) → r ≡ cap (length (item_line (file_item text x)))
  unfolding file_item
  retain_length e f = rw e (omega (arith, keep_length n))

  delete_length : x ≡ Delete n → r ≡ cap (5 + length (digits 10 n) + 1) → r ≡ cap (length (item_line (file_item text x)))
  unfolding file_item
  delete_length e f = rw e (omega (arith, drop_length n))

  pub number_length : (x ≡ Retain n) ⊎ (x ≡ Delete n) → r ≡ cap (5 + length (digits 10 n) + 1) → r ≡ cap (length (item_line (file_item text x)))
  number_length (inl e) f = retain_length e f
  number_length (inr e) f = delete_length e f

  pub insert_length : {s m : ℕ} → x ≡ Insert s n → m ≡ cap (length (points (take (s + n - s) (drop s text)))) → r ≡ cap (5 + m) → r ≡ cap (length (item_line (file_item text x)))
  unfolding file_item
  insert_length {s} {m} e g f =
      let w : m ≡ cap (length (points (take n (drop s text)))) = g ∙ ap (λ (l : List ℕ). cap (length (points l))) (range_part text s n) in
      rw e (omega (arith, add_length (take n (drop s text))))

pub neither_length : (text : List ℕ) {x : Lent} → x ≡ Neither → 5 ≡ cap (length (item_line (file_item text x)))
unfolding file_item points
neither_length text e = rw e (omega (arith, add_length []))
