-- What passes the writer's checks is good, and the file of good items is shorter than the cap.
-- By induction on the items; a number has no more digits than one more than itself. Assumes nothing.
use mathlib.Core.Path.{◌≡◌, refl}
use mathlib.Core.Bool.{Bool, true, false, not, ◌&&◌}
use mathlib.Core.List.{List, [], ◌∷◌, ◌++◌}
use Prim.Native.Nat.{ℕ, zero, suc, ◌+◌, ◌*◌, ◌≤◌, ◌<◌, zero-le}
use native.Mathlib.Omega.{arith}
use lib.ListN.{length, take, drop, length-append}
use lib.IntN.{ℤ}
use lib.Dec.{ltb, leb}
use borrow.Author.Tests.{ltb-false}
use Rattle.room.specs.Choice.{pick}
use Rattle.room.proofs.Bools.{and_left, and_right, both_yes}
use Rattle.refusal.specs.declared.Refusal.{Refusal}
use Rattle.refusal.specs.declared.Refusal.TheVariants.{Size, CodePoint}
use Rattle.diff.specs.declared.diff.Item.{Item as Lent}
use Rattle.diff.specs.declared.diff.Item.TheVariants.{Retain, Delete, Insert, Neither}
use Rattle.diff.specs.Items.{items_of}
use Rattle.numbers.specs.Points.{is_point}
use Rattle.numbers.proofs.Points.{point_most}
use Rattle.verdict.specs.Verdicts.{and_then, Verdict, accepted}
use Rattle.verdict.specs.Points.{points_from}
use Rattle.verdict.proofs.Chains.{never, went, first_passed, rest_passed}
use Rattle.diff.specs.Checks.{refuse_if}
use Rattle.edit_format.specs.Digits.{digits}
use Rattle.edit_format.specs.Items.{Item, Keep, Drop, Add, kept, dropped, added, all_points, items_good, Good}
use Rattle.edit_format.specs.Written.{points, number_line, end_key, item_line, item_lines, Head, head_lines, head_of, written}
use Rattle.written_lines.proofs.Numbers.{few_digits}
use Rattle.written_lines.proofs.Counting.{line_length, add_length}
use Rattle.writable.specs.Writable.{file_item, file_items, file_of, sizes, shapes, writable}
use Rattle.writable.proofs.Counting.{keep_length, drop_length}
use Rattle.edit_write.proofs.Counting.{head_length}
use Rattle.std.specs.Prelude.{Err}

not_refused : (t : Bool) (r : Refusal) → refuse_if t r ≡ accepted → t ≡ false
not_refused true r e = never e
not_refused false r e = refl

pub all_points_lem : (t : List ℕ) (i : ℕ) → points_from t i ≡ accepted → all_points t ≡ true
unfolding points_from all_points
all_points_lem [] i e = refl
all_points_lem (c ∷ cs) i e =
    let w = went (is_point c) (points_from cs (i + 1)) (CodePoint i) e in
    rw (w.0, all_points_lem cs (i + 1) w.1)

points_drop : (n : ℕ) (t : List ℕ) → all_points t ≡ true → all_points (drop n t) ≡ true
unfolding all_points
points_drop zero t e = e
points_drop (suc n) [] e = refl
points_drop (suc n) (c ∷ cs) e = points_drop n cs (and_right (is_point c) (all_points cs) e)

points_take : (n : ℕ) (t : List ℕ) → all_points t ≡ true → all_points (take n t) ≡ true
unfolding all_points
points_take zero t e = refl
points_take (suc n) [] e = refl
points_take (suc n) (c ∷ cs) e = rw (and_left (is_point c) (all_points cs) e) (points_take n cs (and_right (is_point c) (all_points cs) e))

picked : (t : Bool) (r : Refusal) (v : Verdict) → pick t v (Err r) ≡ accepted → (t ≡ true) × (v ≡ accepted)
picked true r v e = (refl, e)
picked false r v e = never e

items_good_lem : (text : List ℕ) → all_points text ≡ true → (k : Bool) (i : ℕ) (ls : List Lent) → shapes k i (file_items text ls) ≡ accepted → items_good k (file_items text ls) ≡ true
unfolding file_items file_item shapes items_good all_points
items_good_lem text a k i [] e = refl
items_good_lem text a k i (Retain n ∷ ls) e = let p = picked (leb 1 n && not k) _ _ e in both_yes _ _ p.0 (items_good_lem text a true (i + 1) ls p.1)
items_good_lem text a k i (Delete n ∷ ls) e = let p = picked (leb 1 n) _ _ e in both_yes _ _ p.0 (items_good_lem text a false (i + 1) ls p.1)
items_good_lem text a k i (Insert s n ∷ ls) e =
    let p = picked (leb 1 (length (take n (drop s text)))) _ _ e in
    both_yes _ _ (both_yes _ _ p.0 (points_take n (drop s text) (points_drop s text a))) (items_good_lem text a false (i + 1) ls p.1)
items_good_lem text a k i (Neither ∷ ls) e = never e

pub writable_good : (xs : List ℤ) (text : List ℕ) → writable (file_of xs text) text ≡ accepted → Good (file_of xs text)
unfolding writable sizes file_of
writable_good xs text e =
    let is : List Item = file_of xs text in
    let s = first_passed (sizes is text) (and_then (points_from text 0) (shapes false 0 is)) e in
    let r = rest_passed (sizes is text) (and_then (points_from text 0) (shapes false 0 is)) e in
    let u = rest_passed (refuse_if (ltb 8192 (length is)) Size) _ s in
    let v = rest_passed (refuse_if (ltb 131070 (length text)) Size) _ u in
    record {
      few = ltb-false 8192 (length is) (not_refused _ Size (first_passed (refuse_if (ltb 8192 (length is)) Size) _ s));
      original = ltb-false 65535 (kept is + dropped is) (not_refused _ Size (rest_passed (refuse_if (ltb 131070 (added is)) Size) _ v));
      text = ltb-false 131070 (added is) (not_refused _ Size (first_passed (refuse_if (ltb 131070 (added is)) Size) _ v));
      each = items_good_lem text (all_points_lem text 0 (first_passed (points_from text 0) (shapes false 0 is) r)) false 0 (items_of xs (length text)) (rest_passed (points_from text 0) (shapes false 0 is) r);
    }

-- lengths
points_bound : (cs : List ℕ) → all_points cs ≡ true → length (points cs) ≤ 1114113 * length cs
unfolding points all_points
points_bound [] e = zero-le
points_bound (c ∷ []) e = omega (arith, few_digits 16 c, point_most c (and_left (is_point c) true e))
points_bound (c ∷ d ∷ cs) e =
    length_step (points_bound (d ∷ cs) (and_right (is_point c) (all_points (d ∷ cs)) e))
  where
    length_step : length (points (d ∷ cs)) ≤ 1114113 * length (d ∷ cs) → length (digits 16 c ++ 32 ∷ points (d ∷ cs)) ≤ 1114113 * length (c ∷ d ∷ cs)
    length_step h = omega (arith, length-append (digits 16 c) (32 ∷ points (d ∷ cs)), few_digits 16 c, point_most c (and_left (is_point c) (all_points (d ∷ cs)) e))

lines_bound : (k : Bool) (is : List Item) → items_good k is ≡ true → length (item_lines is) ≤ 7 * length is + kept is + dropped is + 1114113 * added is
unfolding item_lines items_good kept dropped added
lines_bound k [] e = zero-le
lines_bound k (Keep n ∷ is) e = omega (arith, length-append (item_line (Keep n)) (item_lines is), keep_length n, few_digits 10 n, lines_bound true is (and_right (leb 1 n && not k) (items_good true is) e))
lines_bound k (Drop n ∷ is) e = omega (arith, length-append (item_line (Drop n)) (item_lines is), drop_length n, few_digits 10 n, lines_bound false is (and_right (leb 1 n) (items_good false is) e))
lines_bound k (Add cs ∷ is) e =
    let a = and_left (leb 1 (length cs) && all_points cs) (items_good false is) e in
    omega (arith, length-append (item_line (Add cs)) (item_lines is), add_length cs, points_bound cs (and_right (leb 1 (length cs)) (all_points cs) a), lines_bound false is (and_right (leb 1 (length cs) && all_points cs) (items_good false is) e))

pub written_short : (is : List Item) → Good is → length (written is) < 1099511627776
unfolding written head_of
written_short is g =
    let h : Head = head_of is in
    omega (arith, g.few, g.original, g.text, lines_bound false is g.each, head_length h, few_digits 10 (kept is + dropped is), few_digits 10 (kept is + added is), few_digits 10 (length is), line_length end_key (length is), length-append (head_lines h ++ item_lines is) (number_line end_key (length is)), length-append (head_lines h) (item_lines is))
