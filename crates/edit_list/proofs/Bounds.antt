-- Shown: how many items and code points a file of so many bytes can have.
-- How: by the shortest line of each kind, over the file's written form. Assumes nothing.
use mathlib.Core.Path.{◌≡◌, ap}
use mathlib.Core.Bool.{Bool, true, false, ◌&&◌}
use mathlib.Core.List.{List, [], ◌∷◌, ◌++◌}
use Prim.Native.Nat.{ℕ, zero, suc, ◌+◌, ◌*◌, ◌/◌, ◌%◌, ◌≤◌}
use native.Mathlib.Omega.{arith}
use lib.ListN.{length, length-append}
use lib.Dec.{leb, ltb}
use borrow.Author.Tests.{leb-true}
use Rattle.edit_format.specs.Digits.{digit, digits, digits_in}
use Rattle.edit_format.specs.Items.{Item, Keep, Drop, Add, texts, is_keep, all_points, items_good}
use Rattle.edit_format.specs.Written.{keep_key, drop_key, add_key, end_key, number_line, points, item_line, item_lines, head_lines, head_of, written}
use Rattle.edit_format.specs.Reading.{read_file, Accepted}
use Rattle.edit_format.specs.Records.{size}
use Rattle.edit_format.proofs.Accepts.{accepted_good}
use Rattle.edit_format.proofs.ReadBack.{good_rest}
use Rattle.room.proofs.Choices.{pick_elim}
use Rattle.room.proofs.Bools.{and_left}
use Rattle.edit_format.proofs.Canonical.{canonical}

some_in : (f m n : ℕ) → 1 ≤ length (digits_in f m n)
unfolding digits_in
some_in zero m n = omega arith
some_in (suc f) m n =
    pick_elim (λ (ds : List ℕ). 1 ≤ length ds) (ltb n m) (λ e. omega arith)
    (λ e. omega (arith, length-append (digits_in f m (n / m)) (digit (n % m) ∷ [])))

some_digits : (m n : ℕ) → 1 ≤ length (digits m n)
unfolding digits
some_digits m n = some_in n m n

points_long : (cs : List ℕ) → 2 * length cs ≤ length (points cs) + 1
unfolding points
points_long [] = omega arith
points_long (c ∷ []) = omega (arith, some_digits 16 c)
points_long (c ∷ d ∷ cs) =
    omega (arith, some_digits 16 c, length-append (digits 16 c) (32 ∷ points (d ∷ cs)), points_long (d ∷ cs))

number_long : (k : List ℕ) (n : ℕ) → length k + 2 ≤ length (number_line k n)
unfolding number_line
number_long k n = omega (arith, length-append (k ++ digits 10 n) (10 ∷ []), length-append k (digits 10 n), some_digits 10 n)

item_long : (x : Item) → 4 + 2 * size x ≤ length (item_line x)
unfolding item_line size
item_long (Keep n) = omega (arith, number_long keep_key n)
item_long (Drop n) = omega (arith, number_long drop_key n)
item_long (Add cs) =
    omega (arith, length-append (add_key ++ points cs) (10 ∷ []), length-append add_key (points cs), points_long cs)

texts_cons : (x : Item) (is : List Item) → length (texts (x ∷ is)) ≡ size x + length (texts is)
unfolding texts size
texts_cons (Keep n) is = omega arith
texts_cons (Drop n) is = omega arith
texts_cons (Add cs) is = length-append cs (texts is)

items_long : (is : List Item) → 4 * length is + 2 * length (texts is) ≤ length (item_lines is)
unfolding item_lines texts
items_long [] = omega arith
items_long (x ∷ is) =
    omega (arith, item_long x, items_long is, texts_cons x is, length-append (item_line x) (item_lines is))

-- an item that a file can hold is a line of six bytes or more
good_long : (k : Bool) (is : List Item) → items_good k is ≡ true → 6 * length is ≤ length (item_lines is)
unfolding item_lines item_line is_keep items_good size
good_long k [] g = omega arith
good_long k (Keep n ∷ is) g =
    omega (
      arith,
      number_long keep_key n,
      length-append (item_line (Keep n)) (item_lines is),
      good_long true is (good_rest k (Keep n) is g),
    )
good_long k (Drop n ∷ is) g =
    omega (
      arith,
      number_long drop_key n,
      length-append (item_line (Drop n)) (item_lines is),
      good_long false is (good_rest k (Drop n) is g),
    )
good_long k (Add cs ∷ is) g =
    let a = and_left (leb 1 (length cs) && all_points cs) (items_good false is) g in
    omega (
      arith,
      leb-true 1 (length cs) (and_left (leb 1 (length cs)) (all_points cs) a),
      item_long (Add cs),
      length-append (item_line (Add cs)) (item_lines is),
      good_long false is (good_rest k (Add cs) is g),
    )

lines_most : (is : List Item) → length (item_lines is) ≤ length (written is)
unfolding written
lines_most is =
    omega (
      arith,
      length-append (head_lines (head_of is) ++ item_lines is) (number_line end_key (length is)),
      length-append (head_lines (head_of is)) (item_lines is),
    )

pub file_long : (p : List ℕ) {is : List Item} → read_file p ≡ Accepted is → 4 * length is + 2 * length (texts is) ≤ length p
file_long p {is} e = omega (arith, items_long is, lines_most is, ap length (canonical p e))

pub file_items : (p : List ℕ) {is : List Item} → read_file p ≡ Accepted is → 6 * length is ≤ length p
file_items p {is} e = omega (arith, good_long false is (accepted_good p e).each, lines_most is, ap length (canonical p e))
