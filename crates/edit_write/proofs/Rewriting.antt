-- What is read can be written, and is then the same file; what is written reads back.
-- The records of good items decode to these items, three numbers at a time, and good items pass every check of the writer. Assumes nothing.
use mathlib.Core.Path.{◌≡◌, refl, sym, ap, ◌∙◌}
use mathlib.Core.Bool.{Bool, true, false, not, ◌&&◌}
use mathlib.Core.List.{List, [], ◌∷◌, ◌++◌, append_assoc}
use Prim.Native.Nat.{ℕ, zero, suc, ◌+◌, ◌*◌, ◌/◌, ◌≤◌}
use native.Mathlib.Omega.{arith}
use lib.ListN.{length, drop, length-append}
use lib.Seq.{get_or-append-add, take-append_seam, drop-append_seam, drop-drop}
use lib.IntN.{ℤ, pos, negsuc}
use lib.Dec.{leb}
use borrow.Author.Tests.{le-leb, le-ltb}
use Rattle.room.proofs.Bools.{and_left, and_right}
use Rattle.room.proofs.Choices.{no_way}
use Rattle.diff.specs.Items.{numbered, ranged, item_of, item_at, items_from, items_of}
use Rattle.numbers.specs.Points.{is_point}
use Rattle.verdict.specs.Verdicts.{accepted}
use Rattle.verdict.specs.Points.{points_from}
use Rattle.edit_format.specs.Items.{Item, Keep, Drop, Add, kept, dropped, added, texts, is_keep, all_points, items_good, Good}
use Rattle.edit_format.specs.Written.{written}
use Rattle.edit_format.specs.Reading.{Accepted, read_file}
use Rattle.edit_format.specs.Records.{record_of, size, records_from, records_of}
use Rattle.edit_format.proofs.TextLaws.{texts_length}
use Rattle.edit_format.proofs.RecordLaws.{length_record, length_records, added_cons}
use Rattle.edit_format.proofs.ReadBack.{good_rest, read_back}
use Rattle.edit_format.proofs.Canonical.{canonical}
use Rattle.edit_format.proofs.Accepts.{accepted_good}
use Rattle.writable.specs.Writable.{file_item, file_items, file_of, sizes, shapes, writable}
use Rattle.edit_write.proofs.Goodness.{writable_good}

-- law 1: what is written reads back the same items, with their text
pub reads_back : (xs : List ℤ) (text : List ℕ) → writable (file_of xs text) text ≡ accepted → read_file (written (file_of xs text)) ≡ Accepted (file_of xs text)
reads_back xs text e = read_back (file_of xs text) (writable_good xs text e)

-- three numbers of a list, where a part of it begins
at_part : (a b c : ℤ) (pre post : List ℤ) (k lent : ℕ) → length pre ≡ 3 * k → item_at (pre ++ (a ∷ b ∷ c ∷ []) ++ post) lent k ≡ item_of a b c lent
unfolding item_at
at_part a b c pre post k lent h =
    let e : k * 3 ≡ length pre + 0 = omega arith in
    let f : k * 3 + 1 ≡ length pre + 1 = omega arith in
    let g : k * 3 + 2 ≡ length pre + 2 = omega arith in
    rw (f, g, e, append_assoc pre (a ∷ b ∷ c ∷ []) post, get_or-append-add pre (a ∷ b ∷ c ∷ post) 1 (pos 0), get_or-append-add pre (a ∷ b ∷ c ∷ post) 2 (pos 0), get_or-append-add pre (a ∷ b ∷ c ∷ post) 0 (pos 0))

-- one record decodes to its item
record_item : (k : Bool) (x : Item) (is : List Item) (at : ℕ) (text : List ℕ) (pre post : List ℤ) (i : ℕ) → items_good k (x ∷ is) ≡ true → length pre ≡ 3 * i → drop at text ≡ texts (x ∷ is) → at + added (x ∷ is) ≤ length text → file_item text (item_at (pre ++ record_of at x ++ post) (length text) i) ≡ x
unfolding items_good record_of texts added file_item item_of numbered ranged
record_item k (Keep n) is at text pre post i g h d l = rw (at_part (pos 0) (pos n) (pos 0) pre post i (length text) h)
record_item k (Drop zero) is at text pre post i g h d l = no_way (and_left false (items_good false is) g)
record_item k (Drop (suc n)) is at text pre post i g h d l = rw (at_part (pos 0) (negsuc n) (pos 0) pre post i (length text) h)
record_item k (Add cs) is at text pre post i g h d l =
    rw (at_part (pos 1) (pos at) (pos (length cs)) pre post i (length text) h, le-leb (at + length cs) (length text) (omega arith), d, take-append_seam cs (texts is))

texts_drop : (x : Item) (is : List Item) (at : ℕ) (text : List ℕ) → drop at text ≡ texts (x ∷ is) → drop (at + size x) text ≡ texts is
unfolding texts size
texts_drop (Keep n) is at text d = let e : at + 0 ≡ at = omega arith in rw e d
texts_drop (Drop n) is at text d = let e : at + 0 ≡ at = omega arith in rw e d
texts_drop (Add cs) is at text d = sym (drop-drop (length cs) at text) ∙ ap (drop (length cs)) d ∙ drop-append_seam cs (texts is)

decodes : (k : Bool) (is : List Item) (at : ℕ) (text : List ℕ) (pre : List ℤ) (i : ℕ) → items_good k is ≡ true → length pre ≡ 3 * i → drop at text ≡ texts is → at + added is ≤ length text → file_items text (items_from (pre ++ records_from at is) (length text) i (length is)) ≡ is
unfolding file_items items_from records_from
decodes k [] at text pre i g h d l = refl
decodes k (x ∷ is) at text pre i g h d l =
    let e : pre ++ (record_of at x ++ records_from (at + size x) is) ≡ (pre ++ record_of at x) ++ records_from (at + size x) is = sym (append_assoc pre (record_of at x) (records_from (at + size x) is)) in
    let t : file_items text (items_from ((pre ++ record_of at x) ++ records_from (at + size x) is) (length text) (i + 1) (length is)) ≡ is =
    decodes (is_keep x) is (at + size x) text (pre ++ record_of at x) (i + 1) (good_rest k x is g) (length-append pre (record_of at x) ∙ omega (arith, length_record at x)) (texts_drop x is at text d) (omega (arith, added_cons x is)) in
    ap (λ (zs : List ℤ). file_items text (items_from zs (length text) i (length (x ∷ is)))) e
    ∙ (ap (λ (y : Item). y ∷ file_items text (items_from ((pre ++ record_of at x) ++ records_from (at + size x) is) (length text) (i + 1) (length is))) (record_item k x is at text pre (records_from (at + size x) is) i g h d l)
    ∙ ap (λ (l : List Item). x ∷ l) t)

pub same_items : (is : List Item) → Good is → file_of (records_of is) (texts is) ≡ is
unfolding file_of items_of records_of
same_items is g =
    let e : length (records_from 0 is) / 3 ≡ length is = omega (arith, length_records is) in
    rw e (decodes false is 0 (texts is) [] 0 g.each refl refl (omega (arith, texts_length is)))

-- good items pass the checks
pub points_fine : (t : List ℕ) (i : ℕ) → all_points t ≡ true → points_from t i ≡ accepted
unfolding points_from all_points
points_fine [] i e = refl
points_fine (c ∷ cs) i e = rw (and_left (is_point c) (all_points cs) e, points_from) (points_fine cs (i + 1) (and_right (is_point c) (all_points cs) e))

pub points_append : (s t : List ℕ) → all_points s ≡ true → all_points t ≡ true → all_points (s ++ t) ≡ true
unfolding all_points
points_append [] t e f = f
points_append (c ∷ s) t e f = rw (and_left (is_point c) (all_points s) e) (points_append s t (and_right (is_point c) (all_points s) e) f)

pub texts_points : (k : Bool) (is : List Item) → items_good k is ≡ true → all_points (texts is) ≡ true
unfolding items_good is_keep texts all_points
texts_points k [] g = refl
texts_points k (Keep n ∷ is) g = texts_points true is (good_rest k (Keep n) is g)
texts_points k (Drop n ∷ is) g = texts_points false is (good_rest k (Drop n) is g)
texts_points k (Add cs ∷ is) g =
    let a = and_left (leb 1 (length cs) && all_points cs) (items_good false is) g in
    points_append cs (texts is) (and_right (leb 1 (length cs)) (all_points cs) a) (texts_points false is (good_rest k (Add cs) is g))

shapes_fine : (k : Bool) (i : ℕ) (is : List Item) → items_good k is ≡ true → shapes k i is ≡ accepted
unfolding items_good is_keep shapes
shapes_fine k i [] g = refl
shapes_fine k i (Keep n ∷ is) g = rw (and_left (leb 1 n && not k) (items_good true is) g) (shapes_fine true (i + 1) is (good_rest k (Keep n) is g))
shapes_fine k i (Drop n ∷ is) g = rw (and_left (leb 1 n) (items_good false is) g) (shapes_fine false (i + 1) is (good_rest k (Drop n) is g))
shapes_fine k i (Add cs ∷ is) g =
    let a = and_left (leb 1 (length cs) && all_points cs) (items_good false is) g in
    rw (and_left (leb 1 (length cs)) (all_points cs) a) (shapes_fine false (i + 1) is (good_rest k (Add cs) is g))

pub good_writable : (is : List Item) → Good is → writable is (texts is) ≡ accepted
unfolding writable sizes
good_writable is g =
    rw (le-ltb 8192 (length is) g.few, le-ltb 131070 (length (texts is)) (omega (arith, texts_length is, g.text)), le-ltb 131070 (added is) g.text, le-ltb 65535 (kept is + dropped is) g.original, points_fine (texts is) 0 (texts_points false is g.each))
    (shapes_fine false 0 is g.each)

-- law 2: an accepted file, rewritten from what was read, has the same bytes
pub rewrites : (p : List ℕ) {is : List Item} → read_file p ≡ Accepted is → (file_of (records_of is) (texts is) ≡ is) × (writable is (texts is) ≡ accepted) × (written is ≡ p)
rewrites p {is} e = let g = accepted_good p e in (same_items is g, good_writable is g, sym (canonical p e))
