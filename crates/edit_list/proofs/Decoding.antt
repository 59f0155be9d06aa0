-- Shown: the records of a file's items are read back as the runs of those items.
-- How: by induction on the items, each record decoded by its kind; what is left of the rooms begins with the items left. Assumes nothing.
use mathlib.Core.Path.{◌≡◌, refl, sym, ◌∙◌}
use mathlib.Core.Bool.{Bool, true, false, not, ◌&&◌}
use mathlib.Core.List.{List, [], ◌∷◌, ◌++◌, append_assoc}
use Prim.Native.Nat.{ℕ, zero, suc, ◌+◌, ◌*◌, ◌≤◌}
use native.Mathlib.Nat.{add_assoc}
use native.Mathlib.Omega.{arith}
use lib.ListN.{length, take, drop, get_or, length-append}
use lib.Seq.{take-append_seam}
use lib.IntN.{ℤ, pos, negsuc}
use lib.Dec.{leb}
use borrow.Author.Tests.{le-leb, leb-true}
use Rattle.room.proofs.Bools.{and_left}
use Rattle.diff.specs.Items.{numbered, ranged, item_of, item_at, items_from}
use Rattle.edit_format.specs.Items.{Item, Keep, Drop, Add, added, texts, is_keep, items_good, all_points}
use Rattle.edit_format.specs.Records.{record_of, records_from, size}
use Rattle.edit_format.proofs.ReadBack.{good_rest}
use Rattle.edit_format.proofs.RecordLaws.{added_cons, length_record}
use Rattle.edit_list.specs.Raws.{run_of, runs_of}
use Rattle.edit_list.specs.Steps.{run_in, runs_in}
use Rattle.edit_list.proofs.Back.{drop_past, left_at}

-- three numbers where what is left of a list begins with them
decoded : (xs t : List ℤ) (i lent : ℕ) (a b c : ℤ) → drop (i * 3) xs ≡ a ∷ b ∷ c ∷ t → item_at xs lent i ≡ item_of a b c lent
unfolding item_at
decoded xs t i lent a b c h =
    let z : i * 3 + 0 ≡ i * 3 = omega arith in
    let e0 : get_or xs (i * 3) (pos 0) ≡ a = rw z at (left_at (pos 0) (i * 3) 0 xs (a ∷ b ∷ c ∷ t) h) in
    let e1 : get_or xs (i * 3 + 1) (pos 0) ≡ b = left_at (pos 0) (i * 3) 1 xs (a ∷ b ∷ c ∷ t) h in
    let e2 : get_or xs (i * 3 + 2) (pos 0) ≡ c = left_at (pos 0) (i * 3) 2 xs (a ∷ b ∷ c ∷ t) h in
    rw (e0, e1, e2)

-- "keep and drop are at least 1", "one or more code points": of one item
unfoldable pub some : Item → Bool
some (Keep n) = leb 1 n
some (Drop n) = leb 1 n
some (Add cs) = leb 1 (length cs)

pub first_some : (k : Bool) (x : Item) (is : List Item) → items_good k (x ∷ is) ≡ true → some x ≡ true
unfolding items_good some
first_some k (Keep n) is h = and_left (leb 1 n) (not k) (and_left (leb 1 n && not k) (items_good true is) h)
first_some k (Drop n) is h = and_left (leb 1 n) (items_good false is) h
first_some k (Add cs) is h = and_left (leb 1 (length cs)) (all_points cs) (and_left (leb 1 (length cs) && all_points cs) (items_good false is) h)

one : (xs t : List ℤ) (u text : List ℕ) (at s i lent : ℕ) (x : Item) → some x ≡ true → drop (i * 3) xs ≡ record_of s x ++ t
    → drop (at + s) text ≡ texts (x ∷ []) ++ u → s + size x ≤ lent → run_in text at (item_at xs lent i) ≡ run_of (at + s) x
unfolding record_of texts size run_in run_of item_of numbered ranged some
one xs t u text at s i lent (Keep n) g h w l = rw (decoded xs t i lent (pos 0) (pos n) (pos 0) h)
one xs t u text at s i lent (Drop zero) g h w l = absurd (omega (arith, leb-true 1 0 g))
one xs t u text at s i lent (Drop (suc n)) g h w l = rw (decoded xs t i lent (pos 0) (negsuc n) (pos 0) h)
one xs t u text at s i lent (Add cs) g h w l =
    let e : take (length cs) (drop (at + s) text) ≡ cs = rw (w, append_assoc cs [] u) (take-append_seam cs u) in
    rw (decoded xs t i lent (pos 1) (pos s) (pos (length cs)) h, le-leb (s + length cs) lent l, e)

texts_more : (x : Item) (is : List Item) → texts (x ∷ is) ≡ texts (x ∷ []) ++ texts is
unfolding texts
texts_more (Keep n) is = refl
texts_more (Drop n) is = refl
texts_more (Add cs) is = rw (append_assoc cs [] (texts is))

size_texts : (x : Item) → length (texts (x ∷ [])) ≡ size x
unfolding texts size
size_texts (Keep n) = refl
size_texts (Drop n) = refl
size_texts (Add cs) = rw (length-append) (omega arith)

pub edits : (is : List Item) (k : Bool) (xs t : List ℤ) (u text : List ℕ) (at s i lent : ℕ) → items_good k is ≡ true → drop (i * 3) xs ≡ records_from s is ++ t
    → drop (at + s) text ≡ texts is ++ u → s + added is ≤ lent → runs_in text at (items_from xs lent i (length is)) ≡ runs_of (at + s) is
unfolding records_from items_from runs_in runs_of
edits [] k xs t u text at s i lent g h w l = refl
edits (x ∷ is) k xs t u text at s i lent g h w l =
    let h' : drop (i * 3) xs ≡ record_of s x ++ (records_from (s + size x) is ++ t) = h ∙ append_assoc (record_of s x) (records_from (s + size x) is) t in
    let w' : drop (at + s) text ≡ texts (x ∷ []) ++ (texts is ++ u) = w ∙ rw (texts_more x is) (append_assoc (texts (x ∷ [])) (texts is) u) in
    let e = one xs (records_from (s + size x) is ++ t) (texts is ++ u) text at s i lent x (first_some k x is g) h' w' (omega (arith, added_cons x is)) in
    let a = drop_past (i * 3) ((i + 1) * 3) 3 xs (record_of s x) (records_from (s + size x) is ++ t) h' (sym (length_record s x)) (omega arith) in
    let b = drop_past (at + s) (at + (s + size x)) (size x) text (texts (x ∷ [])) (texts is ++ u) w' (sym (size_texts x)) (add_assoc at s (size x)) in
    let f = edits is (is_keep x) xs t u text at (s + size x) (i + 1) lent (good_rest k x is g) a b (omega (arith, added_cons x is)) in
    rw (e, f, add_assoc at s (size x))
