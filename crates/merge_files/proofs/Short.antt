-- Shown: how long the file of some items is at most: 57 bytes, 11 for each item, and 7 for each code point that they add.
-- How: a number below 100,000 has at most five digits, a code point at most six in hex.
use Prim.Native.Nat.{ℕ, ◌+◌, ◌*◌, ◌/◌, ◌≤◌, ◌<◌}
use mathlib.Core.Path.{◌≡◌}
use mathlib.Core.Bool.{Bool, true, false, not, ◌&&◌}
use mathlib.Core.List.{List, [], ◌∷◌, ◌++◌}
use mathlib.Core.Logic.{⊎_elim}
use native.Mathlib.Omega.{arith}
use lib.ListN.{length, length-append}
use lib.Dec.{leb}
use Rattle.room.proofs.Bools.{and_left, and_right}
use Rattle.numbers.proofs.Orders.{le_or_lt}
use Rattle.edit_format.specs.Digits.{digits}
use Rattle.numbers.specs.Points.{is_point}
use Rattle.numbers.proofs.Points.{point_most as at_most}
use Rattle.edit_format.specs.Items.{Item, Keep, Drop, Add, kept, dropped, added, all_points, items_good, Good}
use Rattle.edit_format.specs.Written.{Head, end_key, number_line, points, item_line, item_lines, head_lines, head_of, written}
use Rattle.written_lines.proofs.Numbers.{one_digit, one_less}
use Rattle.written_lines.proofs.Counting.{line_length, add_length}
use Rattle.writable.proofs.Counting.{keep_length, drop_length}
use Rattle.edit_write.proofs.Counting.{head_length}

one_more : (m n k : ℕ) → 1 < m → length (digits m (n / m)) ≤ k → length (digits m n) ≤ k + 1
one_more m n k h e =
    ⊎_elim (λ (l : m ≤ n). omega (arith, one_less m n h l)) (λ (l : n < m). omega (arith, one_digit m n l)) (le_or_lt m n)

-- a digit more than numbers below b have
ten : (b k : ℕ) → ((x : ℕ) → x < b → length (digits 10 x) ≤ k) → (n : ℕ) → n < 10 * b → length (digits 10 n) ≤ k + 1
ten b k h n l = one_more 10 n k (omega arith) (h (n / 10) (omega arith))

sixteen : (b k : ℕ) → ((x : ℕ) → x < b → length (digits 16 x) ≤ k) → (n : ℕ) → n < 16 * b → length (digits 16 n) ≤ k + 1
sixteen b k h n l = one_more 16 n k (omega arith) (h (n / 16) (omega arith))

decimal : (n : ℕ) → n < 100000 → length (digits 10 n) ≤ 5
decimal = ten 10000 4 (ten 1000 3 (ten 100 2 (ten 10 1 (λ x l. omega (arith, one_digit 10 x l)))))

hex : (n : ℕ) → n < 16777216 → length (digits 16 n) ≤ 6
hex = sixteen 1048576 5 (sixteen 65536 4 (sixteen 4096 3 (sixteen 256 2 (sixteen 16 1 (λ x l. omega (arith, one_digit 16 x l))))))

point_most : (c : ℕ) → is_point c ≡ true → length (digits 16 c) ≤ 6
point_most c e = hex c (omega (arith, at_most c e))

points_most : (cs : List ℕ) → all_points cs ≡ true → length (points cs) ≤ 7 * length cs
unfolding points all_points
points_most [] e = omega arith
points_most (c ∷ []) e = omega (arith, point_most c (and_left (is_point c) true e))
points_most (c ∷ d ∷ cs) e =
    omega (
      arith,
      length-append (digits 16 c) (32 ∷ points (d ∷ cs)),
      point_most c (and_left (is_point c) (all_points (d ∷ cs)) e),
      points_most (d ∷ cs) (and_right (is_point c) (all_points (d ∷ cs)) e),
    )

lines_most : (k : Bool) (is : List Item) → items_good k is ≡ true → kept is + dropped is ≤ 65535 → length (item_lines is) ≤ 11 * length is + 7 * added is
unfolding item_lines items_good kept dropped added
lines_most k [] e h = omega arith
lines_most k (Keep n ∷ is) e h =
    omega (
      arith,
      length-append (item_line (Keep n)) (item_lines is),
      keep_length n,
      decimal n (omega arith),
      lines_most true is (and_right (leb 1 n && not k) (items_good true is) e) (omega arith),
    )
lines_most k (Drop n ∷ is) e h =
    omega (
      arith,
      length-append (item_line (Drop n)) (item_lines is),
      drop_length n,
      decimal n (omega arith),
      lines_most false is (and_right (leb 1 n) (items_good false is) e) (omega arith),
    )
lines_most k (Add cs ∷ is) e h =
    let a = and_left (leb 1 (length cs) && all_points cs) (items_good false is) e in
    omega (
      arith,
      length-append (item_line (Add cs)) (item_lines is),
      add_length cs,
      points_most cs (and_right (leb 1 (length cs)) (all_points cs) a),
      lines_most false is (and_right (leb 1 (length cs) && all_points cs) (items_good false is) e) h,
    )

pub file_most : (is : List Item) → Good is → added is ≤ 2048 → length (written is) ≤ 57 + (11 * length is + 7 * added is)
unfolding written head_of
file_most is g few =
    let h : Head = head_of is in
    omega (
      arith,
      g.few,
      g.original,
      lines_most false is g.each g.original,
      head_length h,
      decimal (kept is + dropped is) (omega (arith, g.original)),
      decimal (kept is + added is) (omega (arith, g.original)),
      decimal (length is) (omega (arith, g.few)),
      line_length end_key (length is),
      length-append (head_lines h ++ item_lines is) (number_line end_key (length is)),
      length-append (head_lines h) (item_lines is),
    )
