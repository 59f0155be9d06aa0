-- The written form of good items reads back as these items.
-- Line by line, each line read from where the reader stands. Assumes nothing.
use mathlib.Core.Path.{◌≡◌, refl, sym, ap, ◌∙◌}
use mathlib.Core.Bool.{Bool, true, false, not, ◌&&◌}
use mathlib.Core.List.{List, [], ◌∷◌, ◌++◌, append_assoc, append-nil}
use Prim.Native.Nat.{ℕ, zero, suc, ◌+◌, ◌*◌, ◌/◌, ◌%◌, ◌≤◌, ◌<◌}
use native.Mathlib.Nat.{div-add-mod', mod-lt}
use native.Mathlib.Omega.{arith}
use lib.ListN.{length, length-append}
use lib.Dec.{ltb, leb}
use borrow.Author.Tests.{ltb-true, ltb-false, leb-true, lt-ltb, le-ltb, le-leb, eq-eqb, ne_eqb}
use Rattle.edit_format.specs.Digits.{digit, digits, digits_in}
use Rattle.numbers.specs.Points.{is_point}
use Rattle.edit_format.specs.Items.{Item, Keep, Drop, Add, kept, dropped, added, is_keep, ends_keep, all_points, items_good, Good}
use Rattle.edit_format.specs.Written.{Head, form_key, original_key, result_key, items_key, end_key, number_line, points, item_line, item_lines, head_lines, head_of, written}
use Rattle.edit_format.specs.Reading.{Line, form, original, result, items, item, ending, keeping, dropping, adding, State, key, gap, num, open', after, kind_key, key_of, base, several, hexes, fits_item, fits, item_of, opened, next, begun, keyed, numbered, kind_of, step, run, Accepted, finish, read_file}
use Rattle.room.proofs.Choices.{pick_elim}
use Rattle.room.proofs.Bools.{and_left, and_right}
use Rattle.edit_format.proofs.DigitLaws.{digit_back, is_digit_lem, no_digit_lf, no_digit_space, shorter}
use Rattle.edit_format.proofs.NoBeginning.{run_append}

base_big : (l : Line) → 1 < base l
unfolding base
base_big l = pick_elim (λ (m : ℕ). 1 < m) (several l) (λ e. omega arith) (λ e. omega arith)

-- the key of a line
key_read : (l : Line) → run (key l 0) (key_of l) ≡ key l (length (key_of l))
unfolding run step keyed key_of kind_key
key_read form = refl
key_read original = refl
key_read (result o) = refl
key_read (items o r) = refl
key_read (item h is keeping) = refl
key_read (item h is dropping) = refl
key_read (item h is adding) = refl
key_read (ending h is) = refl

-- past its key a line begins its first number
key_past : (l : Line) (b : ℕ) → step (key l (length (key_of l))) b ≡ begun l [] b
unfolding step keyed
key_past l b = rw (le-ltb (length (key_of l)) (length (key_of l)) (omega arith))

gap_past : (l : Line) (cs : List ℕ) (b : ℕ) → step (gap l cs) b ≡ begun l cs b
unfolding step
gap_past l cs b = refl

one_read : (l : Line) (cs : List ℕ) (d : ℕ) → d < base l → begun l cs (digit d) ≡ num l cs d
unfolding begun
one_read l cs d h = rw (is_digit_lem (base l) d h, digit_back d)

more_read : (l : Line) (cs : List ℕ) (n d : ℕ) → (n ≡ 0 → ⊥) → d < base l → step (num l cs n) (digit d) ≡ num l cs (n * base l + d)
unfolding step numbered
more_read l cs n d g h = rw (is_digit_lem (base l) d h, ne_eqb n 0 g, digit_back d)

-- the digits of a number, from where a number begins
number_read : (l : Line) (cs : List ℕ) (s : State) → ((b : ℕ) → step s b ≡ begun l cs b) → (f n : ℕ) → n ≤ f → run s (digits_in f (base l) n) ≡ num l cs n
unfolding digits_in run
number_read l cs s t zero n h = t (digit n) ∙ one_read l cs n (let b : 1 < base l = base_big l in omega arith)
number_read l cs s t (suc f) n h =
    pick_elim (λ (x : List ℕ). run s x ≡ num l cs n) (ltb n (base l))
    (λ e. t (digit n) ∙ one_read l cs n (ltb-true n (base l) e))
    (λ e.
    run_append s (digits_in f (base l) (n / base l)) (digit (n % base l) ∷ [])
    ∙ ap (λ (x : State). step x (digit (n % base l))) (number_read l cs s t f (n / base l) (shorter (base l) f n (base_big l) h))
    ∙ more_read l cs (n / base l) (n % base l) (λ z. large (ltb-false n (base l) e) z) (mod-lt n (pos))
    ∙ ap (num l cs) (div-add-mod' n (base l)))
  where
    pos : 0 < base l
    pos = let b : 1 < base l = base_big l in omega arith

    large : base l ≤ n → n / base l ≡ 0 → ⊥
    large g z =
        let e : n / base l * base l + n % base l ≡ n = div-add-mod' n (base l) in
        let w : 0 * base l + n % base l ≡ n = rw z at e in
        let k : n % base l < base l = mod-lt n pos in
        omega arith

lf_read : (l : Line) (cs : List ℕ) (n : ℕ) → fits l cs n ≡ true → step (num l cs n) 10 ≡ next l cs n
unfolding step numbered
lf_read l cs n f = rw (no_digit_lf (base l), f)

space_read : (l : Line) (cs : List ℕ) (n : ℕ) → several l ≡ true → fits l cs n ≡ true → step (num l cs n) 32 ≡ gap l (cs ++ n ∷ [])
unfolding step numbered
space_read l cs n s f = rw (no_digit_space (base l), f, s)

pub base_ten : (l : Line) → several l ≡ false → base l ≡ 10
unfolding base
base_ten l e = rw e

-- a line of one number
line_read : (l : Line) (n : ℕ) → several l ≡ false → fits l [] n ≡ true → run (key l 0) (number_line (key_of l) n) ≡ next l [] n
unfolding number_line digits run
line_read l n s f =
    run_append (key l 0) (key_of l ++ digits_in n 10 n) (10 ∷ [])
    ∙ ap (λ (x : State). step x 10) (run_append (key l 0) (key_of l) (digits_in n 10 n)
    ∙ ap (λ (x : State). run x (digits_in n 10 n)) (key_read l)
    ∙ (rw (base_ten l s) at (number_read l [] (key l (length (key_of l))) (key_past l) n n (omega arith))))
    ∙ lf_read l [] n f

-- the code points of an add line, and its LF
points_read : (h : Head) (p : List Item) (bs : List ℕ) (s : State) → ((b : ℕ) → step s b ≡ begun (item h p adding) bs b) → (c : ℕ) (cs : List ℕ) → length p < 8192 → all_points (c ∷ cs) ≡ true → added p + (length bs + suc (length cs)) ≤ 131070 → run s (points (c ∷ cs) ++ 10 ∷ []) ≡ opened h (p ++ Add (bs ++ c ∷ cs) ∷ [])
unfolding points digits run all_points fits fits_item next item_of several hexes base
points_read h p bs s t c [] k g w =
    let l : Line = item h p adding in
    run_append s (digits_in c 16 c) (10 ∷ [])
    ∙ ap (λ (x : State). step x 10) (number_read l bs s t c c (omega arith))
    ∙ lf_read l bs c (rw (lt-ltb (length p) 8192 k, and_left (is_point c) true g, le-leb (added p + length bs + 1) 131070 (omega arith)))
points_read h p bs s t c (d ∷ cs) k g w =
    let l : Line = item h p adding in
    ap (run s) (append_assoc (digits_in c 16 c) (32 ∷ points (d ∷ cs)) (10 ∷ []))
    ∙ run_append s (digits_in c 16 c) (32 ∷ points (d ∷ cs) ++ 10 ∷ [])
    ∙ ap (λ (x : State). run (step x 32) (points (d ∷ cs) ++ 10 ∷ [])) (number_read l bs s t c c (omega arith))
    ∙ ap (λ (x : State). run x (points (d ∷ cs) ++ 10 ∷ [])) (space_read l bs c refl (rw (lt-ltb (length p) 8192 k, and_left (is_point c) (all_points (d ∷ cs)) g, le-leb (added p + length bs + 1) 131070 (omega arith))))
    ∙ points_read h p (bs ++ c ∷ []) (gap l (bs ++ c ∷ [])) (gap_past l (bs ++ c ∷ [])) d cs k (and_right (is_point c) (all_points (d ∷ cs)) g) (rw (length-append bs (c ∷ [])) (omega arith))
    ∙ ap (λ (x : List ℕ). opened h (p ++ Add x ∷ [])) (append_assoc bs (c ∷ []) (d ∷ cs))

-- an item fits after the items p
abbrev Fits : List Item → Item → Type 0
Fits p (Keep n) = fits_item p keeping [] n ≡ true
Fits p (Drop n) = fits_item p dropping [] n ≡ true
Fits p (Add cs) = (1 ≤ length cs) × (all_points cs ≡ true) × (added p + length cs ≤ 131070)

item_read : (h : Head) (p : List Item) (x : Item) → length p < 8192 → Fits p x → run (open' h p) (item_line x) ≡ opened h (p ++ x ∷ [])
unfolding item_line next item_of several hexes fits key_of kind_key run step keyed kind_of number_line
item_read h p (Keep n) k f = line_read (item h p keeping) n refl (rw (lt-ltb (length p) 8192 k) f)
item_read h p (Drop n) k f = line_read (item h p dropping) n refl (rw (lt-ltb (length p) 8192 k) f)
item_read h p (Add []) k f = absurd (omega (arith, f.0))
item_read h p (Add (c ∷ cs)) k f = points_read h p [] (key (item h p adding) 4) (key_past (item h p adding)) c cs k f.1 (omega (arith, f.2))

pub kept_append : (p q : List Item) → kept (p ++ q) ≡ kept p + kept q
unfolding kept
kept_append [] q = omega arith
kept_append (Keep n ∷ p) q = omega (arith, kept_append p q)
kept_append (Drop n ∷ p) q = kept_append p q
kept_append (Add cs ∷ p) q = kept_append p q

pub dropped_append : (p q : List Item) → dropped (p ++ q) ≡ dropped p + dropped q
unfolding dropped
dropped_append [] q = omega arith
dropped_append (Keep n ∷ p) q = dropped_append p q
dropped_append (Drop n ∷ p) q = omega (arith, dropped_append p q)
dropped_append (Add cs ∷ p) q = dropped_append p q

pub added_append : (p q : List Item) → added (p ++ q) ≡ added p + added q
unfolding added
added_append [] q = omega arith
added_append (Keep n ∷ p) q = added_append p q
added_append (Drop n ∷ p) q = added_append p q
added_append (Add cs ∷ p) q = omega (arith, added_append p q)

pub ends_snoc : (p : List Item) (x : Item) → ends_keep (p ++ x ∷ []) ≡ is_keep x
unfolding ends_keep
ends_snoc [] x = refl
ends_snoc (y ∷ []) x = refl
ends_snoc (y ∷ z ∷ p) x = ends_snoc (z ∷ p) x

-- the items after p are good, and all of them together pass no size
fits_of : (p q : List Item) (x : Item) → kept (p ++ x ∷ q) + dropped (p ++ x ∷ q) ≤ 65535 → added (p ++ x ∷ q) ≤ 131070 → items_good (ends_keep p) (x ∷ q) ≡ true → Fits p x
unfolding items_good fits_item kept dropped added
fits_of p q (Keep n) u a g =
    let w : leb 1 n && not (ends_keep p) ≡ true = and_left (leb 1 n && not (ends_keep p)) (items_good true q) g in
    rw (and_right (leb 1 n) (not (ends_keep p)) w, and_left (leb 1 n) (not (ends_keep p)) w, le-leb (kept p + dropped p + n) 65535 (omega (arith, kept_append p (Keep n ∷ q), dropped_append p (Keep n ∷ q))))
fits_of p q (Drop n) u a g =
    rw (and_left (leb 1 n) (items_good false q) g, le-leb (kept p + dropped p + n) 65535 (omega (arith, kept_append p (Drop n ∷ q), dropped_append p (Drop n ∷ q))))
fits_of p q (Add cs) u a g =
    let w : leb 1 (length cs) && all_points cs ≡ true = and_left (leb 1 (length cs) && all_points cs) (items_good false q) g in (
      leb-true 1 (length cs) (and_left (leb 1 (length cs)) (all_points cs) w),
      and_right (leb 1 (length cs)) (all_points cs) w,
      omega (arith, added_append p (Add cs ∷ q)),
    )

-- what stands behind a good item is good
pub good_rest : (k : Bool) (x : Item) (q : List Item) → items_good k (x ∷ q) ≡ true → items_good (is_keep x) q ≡ true
unfolding items_good is_keep
good_rest k (Keep n) q g = and_right (leb 1 n && not k) (items_good true q) g
good_rest k (Drop n) q g = and_right (leb 1 n) (items_good false q) g
good_rest k (Add cs) q g = and_right (leb 1 (length cs) && all_points cs) (items_good false q) g

not_last : (h : Head) (p q : List Item) (x : Item) → h.count ≡ length (p ++ x ∷ q) → opened h p ≡ open' h p
unfolding opened
not_last h p q x e = rw (ne_eqb (length p) h.count (λ z. absurd (omega (arith, length-append p (x ∷ q)))))

module _ (h : Head) (w : List Item) (count : h.count ≡ length w) (few : length w ≤ 8192) (used : kept w + dropped w ≤ 65535) (text : added w ≤ 131070) where
  items_read : (p q : List Item) → p ++ q ≡ w → items_good (ends_keep p) q ≡ true → run (opened h p) (item_lines q) ≡ opened h w
  unfolding item_lines run
  items_read p [] e g = ap (opened h) (sym (append-nil p) ∙ e)
  items_read p (x ∷ q) e g =
      run_append (opened h p) (item_line x) (item_lines q)
      ∙ ap (λ (s : State). run (run s (item_line x)) (item_lines q)) (not_last h p q x (rw e count))
      ∙ ap (λ (s : State). run s (item_lines q)) (item_read h p x (let f : length (p ++ x ∷ q) ≤ 8192 = rw e few in omega (arith, length-append p (x ∷ q))) (fits_of p q x (rw e used) (rw e text) g))
      ∙ items_read (p ++ x ∷ []) q (append_assoc p (x ∷ []) q ∙ e) (rw (ends_snoc p x) (good_rest (ends_keep p) x q g))

-- two lines' texts, one after the other
then : (s : State) {t : State} (p q : List ℕ) → run s p ≡ t → run s (p ++ q) ≡ run t q
then s p q e = run_append s p q ∙ ap (λ (x : State). run x q) e

head_read : (h : Head) → h.original ≤ 65535 → h.count ≤ 8192 → run (key form 0) (head_lines h) ≡ opened h []
unfolding head_lines next several key_of fits
head_read h o n =
    then (key form 0) (number_line form_key 1 ++ number_line original_key h.original ++ number_line result_key h.result) (number_line items_key h.count) (
    then (key form 0) (number_line form_key 1 ++ number_line original_key h.original) (number_line result_key h.result) (
    then (key form 0) (number_line form_key 1) (number_line original_key h.original) (line_read form 1 refl refl)
    ∙ line_read original h.original refl (le-leb h.original 65535 o))
    ∙ line_read (result h.original) h.result refl refl)
    ∙ line_read (items h.original h.result) h.count refl (le-leb h.count 8192 n)

end_read : (h : Head) (js : List Item) → h.count ≡ length js → run (opened h js) (number_line end_key (length js)) ≡ after h js
unfolding opened next several key_of fits
end_read h js e = rw (eq-eqb (length js) h.count (sym e)) (line_read (ending h js) (length js) refl (eq-eqb (length js) h.count (sym e)))

accepts : (js : List Item) → finish (after (head_of js) js) ≡ Accepted js
unfolding finish head_of
accepts js = rw (eq-eqb (kept js + dropped js) (kept js + dropped js) refl, eq-eqb (kept js + added js) (kept js + added js) refl)

-- (iii) the written form of good items is accepted, with these items
pub read_back : (is : List Item) → Good is → read_file (written is) ≡ Accepted is
unfolding read_file written head_of ends_keep
read_back is g =
    let h : Head = head_of is in
    ap finish (
    then (key form 0) (head_lines h ++ item_lines is) (number_line end_key (length is)) (
    then (key form 0) (head_lines h) (item_lines is) (head_read h g.original g.few)
    ∙ items_read h is refl g.few g.original g.text [] is refl g.each)
    ∙ end_read h is refl)
    ∙ accepts is
