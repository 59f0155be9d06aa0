-- What is accepted is good: with canonical and read-back, a file is accepted exactly when it is the written form of good items.
-- Every step of the reader keeps that the items read are good. Assumes nothing.
use mathlib.Core.Path.{◌≡◌, refl}
use mathlib.Core.Bool.{Bool, true, false, not, ◌&&◌}
use mathlib.Core.List.{List, [], ◌∷◌, ◌++◌}
use Prim.Native.Nat.{ℕ, ◌+◌, ◌≤◌, ◌<◌, zero-le}
use native.Mathlib.Omega.{arith}
use lib.ListN.{length, get_or, length-append}
use lib.Dec.{ltb, leb, eqb}
use borrow.Author.Tests.{ltb-true, leb-true, le-leb}
use Rattle.edit_format.specs.Digits.{is_digit}
use Rattle.numbers.specs.Points.{is_point}
use Rattle.edit_format.specs.Items.{Item, Keep, Drop, Add, kept, dropped, added, is_keep, ends_keep, all_points, items_good, Good}
use Rattle.edit_format.specs.Written.{Head, written}
use Rattle.edit_format.specs.Reading.{Line, form, original, result, items, item, ending, Kind, keeping, dropping, adding, State, bad, key, gap, num, open', after, key_of, base, several, hexes, fits_item, fits, item_of, opened, next, begun, keyed, numbered, kind_of, step, run, Found, Accepted, finish, read_file}
use Rattle.room.proofs.Choices.{pick_elim, no_way}
use Rattle.room.proofs.Bools.{and_left, and_right, both_yes}
use Rattle.edit_format.proofs.NoBeginning.{never}
use Rattle.edit_format.proofs.ReadBack.{kept_append, dropped_append, added_append, good_rest, read_back}
use Rattle.edit_format.proofs.Canonical.{canonical}

-- whether the last of the items is a keep, or, with none, k
ended : Bool → List Item → Bool
ended k [] = k
ended k (i ∷ is) = ended (is_keep i) is

ended_keep : (k : Bool) (i : Item) (is : List Item) → ends_keep (i ∷ is) ≡ ended k (i ∷ is)
unfolding ended ends_keep
ended_keep k i [] = refl
ended_keep k i (j ∷ is) = ended_keep (is_keep i) j is

ended_ends : (is : List Item) → ends_keep is ≡ ended false is
unfolding ended ends_keep
ended_ends [] = refl
ended_ends (i ∷ is) = ended_keep false i is

good_snoc : (k : Bool) (is : List Item) (x : Item) → items_good k is ≡ true → items_good (ended k is) (x ∷ []) ≡ true → items_good k (is ++ x ∷ []) ≡ true
unfolding items_good ended is_keep
good_snoc k [] x g h = h
good_snoc k (Keep n ∷ is) x g h = both_yes _ _ (and_left (leb 1 n && not k) (items_good true is) g) (good_snoc true is x (good_rest k (Keep n) is g) h)
good_snoc k (Drop n ∷ is) x g h = both_yes _ _ (and_left (leb 1 n) (items_good false is) g) (good_snoc false is x (good_rest k (Drop n) is g) h)
good_snoc k (Add cs ∷ is) x g h =
    both_yes _ _ (and_left (leb 1 (length cs) && all_points cs) (items_good false is) g) (good_snoc false is x (good_rest k (Add cs) is g) h)

points_snoc : (cs : List ℕ) (n : ℕ) → all_points cs ≡ true → is_point n ≡ true → all_points (cs ++ n ∷ []) ≡ true
unfolding all_points
points_snoc [] n g h = both_yes _ _ h refl
points_snoc (c ∷ cs) n g h = both_yes _ _ (and_left (is_point c) (all_points cs) g) (points_snoc cs n (and_right (is_point c) (all_points cs) g) h)

abbrev GoodLine : Line → List ℕ → Type 0
GoodLine form cs = Unit {0}
GoodLine original cs = Unit {0}
GoodLine (result o) cs = Unit {0}
GoodLine (items o r) cs = Unit {0}
GoodLine (item h is k) cs = Good is × (all_points cs ≡ true)
GoodLine (ending h is) cs = Good is

abbrev GoodAt : State → Type 0
GoodAt (bad l) = Unit {0}
GoodAt (key l i) = GoodLine l []
GoodAt (gap l cs) = GoodLine l cs
GoodAt (num l cs n) = GoodLine l cs
GoodAt (open' h is) = Good is
GoodAt (after h is) = Good is

opened_good : (h : Head) (is : List Item) → Good is → GoodAt (opened h is)
unfolding opened all_points
opened_good h is g = pick_elim GoodAt (eqb (length is) h.count) (λ e. g) (λ e. g)

-- one item more
item_good : (is : List Item) (k : Kind) (cs : List ℕ) (n : ℕ) → Good is → all_points cs ≡ true → length is < 8192 → fits_item is k cs n ≡ true → Good (is ++ item_of k cs n ∷ [])
unfolding fits_item item_of kept dropped added items_good
item_good is keeping cs n g a s e =
    let b : leb 1 n && leb (kept is + dropped is + n) 65535 ≡ true = and_right (not (ends_keep is)) _ e in
    let w : kept is + dropped is + n ≤ 65535 = leb-true _ 65535 (and_right (leb 1 n) _ b) in
    let j : not (ended false is) ≡ true = rw (ended_ends is) at (and_left (not (ends_keep is)) _ e) in
    record {
      few = rw (length-append is (Keep n ∷ [])) (omega arith);
      original = omega (arith, kept_append is (Keep n ∷ []), dropped_append is (Keep n ∷ []));
      text = omega (arith, g.text, added_append is (Keep n ∷ []));
      each = good_snoc false is (Keep n) g.each (both_yes _ _ (both_yes _ _ (and_left (leb 1 n) _ b) j) refl);
    }
item_good is dropping cs n g a s e =
    let w : kept is + dropped is + n ≤ 65535 = leb-true _ 65535 (and_right (leb 1 n) _ e) in
    record {
      few = rw (length-append is (Drop n ∷ [])) (omega arith);
      original = omega (arith, kept_append is (Drop n ∷ []), dropped_append is (Drop n ∷ []));
      text = omega (arith, g.text, added_append is (Drop n ∷ []));
      each = good_snoc false is (Drop n) g.each (both_yes _ _ (and_left (leb 1 n) _ e) refl);
    }
item_good is adding cs n g a s e =
    let w : added is + length cs + 1 ≤ 131070 = leb-true _ 131070 (and_right (is_point n) _ e) in
    let x : Item = Add (cs ++ n ∷ []) in
    record {
      few = rw (length-append is (x ∷ [])) (omega arith);
      original = omega (arith, g.original, kept_append is (x ∷ []), dropped_append is (x ∷ []));
      text = omega (arith, added_append is (x ∷ []), length-append cs (n ∷ []));
      each = good_snoc false is x g.each (both_yes _ _ (both_yes _ _ (le-leb 1 (length (cs ++ n ∷ [])) (omega (arith, length-append cs (n ∷ [])))) (points_snoc cs n a (and_left (is_point n) _ e))) refl);
    }

next_good : (l : Line) (cs : List ℕ) (n : ℕ) → GoodLine l cs → fits l cs n ≡ true → GoodAt (next l cs n)
unfolding next fits kept dropped added items_good
next_good form cs n g e = tt
next_good original cs n g e = tt
next_good (result o) cs n g e = tt
next_good (items o r) cs n g e = opened_good (record { original = o; result = r; count = n }) [] (record { few = zero-le; original = omega arith; text = zero-le; each = refl })
next_good (item h is k) cs n g e = opened_good h _ (item_good is k cs n g.0 g.1 (ltb-true (length is) 8192 (and_left (ltb (length is) 8192) (fits_item is k cs n) e)) (and_right (ltb (length is) 8192) (fits_item is k cs n) e))
next_good (ending h is) cs n g e = g

-- a space leaves the numbers good
gap_good : (l : Line) (cs : List ℕ) (n : ℕ) → GoodLine l cs → several l ≡ true → fits l cs n ≡ true → GoodLine l (cs ++ n ∷ [])
unfolding fits fits_item several hexes
gap_good form cs n g s e = tt
gap_good original cs n g s e = tt
gap_good (result o) cs n g s e = tt
gap_good (items o r) cs n g s e = tt
gap_good (item h is keeping) cs n g s e = no_way s
gap_good (item h is dropping) cs n g s e = no_way s
gap_good (item h is adding) cs n g s e = (g.0, points_snoc cs n g.1 (and_left (is_point n) _ (and_right (ltb (length is) 8192) _ e)))
gap_good (ending h is) cs n g s e = g

begun_good : (l : Line) (cs : List ℕ) (b : ℕ) → GoodLine l cs → GoodAt (begun l cs b)
unfolding begun
begun_good l cs b g = pick_elim GoodAt (is_digit (base l) b) (λ e. g) (λ e. tt)

keyed_good : (l : Line) (i b : ℕ) → GoodLine l [] → GoodAt (keyed l i b)
unfolding keyed
keyed_good l i b g = pick_elim GoodAt (ltb i (length (key_of l))) (λ e. pick_elim GoodAt (eqb b (get_or (key_of l) i 0)) (λ e. g) (λ e. tt)) (λ e. begun_good l [] b g)

step_good : (s : State) (b : ℕ) → GoodAt s → GoodAt (step s b)
unfolding step numbered all_points
step_good (bad l) b g = tt
step_good (key l i) b g = keyed_good l i b g
step_good (gap l cs) b g = begun_good l cs b g
step_good (num l cs n) b g =
    pick_elim GoodAt (is_digit (base l) b) (λ e. pick_elim GoodAt (eqb n 0) (λ e. tt) (λ e. g))
    (λ e.
    pick_elim GoodAt (fits l cs n)
    (λ f. pick_elim GoodAt (eqb b 10) (λ e. next_good l cs n g f) (λ e. pick_elim GoodAt (several l && eqb b 32) (λ t. gap_good l cs n g (and_left (several l) (eqb b 32) t) f) (λ t. tt)))
    (λ f. tt))
step_good (open' h is) b g = keyed_good (item h is (kind_of b)) 0 b (g, refl)
step_good (after h is) b g = tt

run_good_lem : (s : State) (p : List ℕ) → GoodAt s → GoodAt (run s p)
unfolding run
run_good_lem s [] g = g
run_good_lem s (b ∷ p) g = run_good_lem (step s b) p (step_good s b g)

finish_good : (s : State) {is : List Item} → GoodAt s → finish s ≡ Accepted is → Good is
unfolding finish
finish_good (bad l) g e = absurd (never e)
finish_good (key l i) g e = absurd (never e)
finish_good (gap l cs) g e = absurd (never e)
finish_good (num l cs n) g e = absurd (never e)
finish_good (open' h is) g e = absurd (never e)
finish_good (after h js) {is} g e =
    (pick_elim (λ (x : Found). x ≡ Accepted is → Good is) (eqb (kept js + dropped js) h.original)
    (λ a.
    pick_elim (λ (x : Found). x ≡ Accepted is → Good is) (eqb (kept js + added js) h.result)
    (λ b z. let w : js ≡ is = cc in rw (← w) g)
    (λ b z. absurd (never z)))
    (λ a z. absurd (never z)))
    e

pub accepted_good : (p : List ℕ) {is : List Item} → read_file p ≡ Accepted is → Good is
unfolding read_file
accepted_good p e = finish_good (run (key form 0) p) (run_good_lem (key form 0) p tt) e

-- accepted exactly when written
pub accepted_iff : (p : List ℕ) (is : List Item) → (read_file p ≡ Accepted is → Good is × (p ≡ written is)) × (Good is × (p ≡ written is) → read_file p ≡ Accepted is)
accepted_iff p is = (λ e. (accepted_good p e, canonical p e), λ g. rw g.1 (read_back is g.0))
