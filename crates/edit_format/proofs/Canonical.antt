-- An accepted file is the written form of its items.
-- Each step of the reader keeps that the bytes read are those its state is written as. Assumes nothing.
use mathlib.Core.Path.{◌≡◌, refl, sym, ◌∙◌}
use mathlib.Core.Bool.{true, false, ◌&&◌}
use mathlib.Core.List.{List, [], ◌∷◌, ◌++◌, append_assoc, append-nil}
use Prim.Native.Nat.{ℕ, zero, suc, ◌+◌, ◌<◌}
use native.Mathlib.Omega.{arith}
use lib.ListN.{length, take, get_or}
use lib.Seq.{take-suc, take_all}
use lib.Dec.{ltb, eqb}
use borrow.Author.Tests.{ltb-true, ltb-false, eqb-true, eqb-false}
use Rattle.edit_format.specs.Digits.{digit_of, is_digit, digits}
use Rattle.edit_format.specs.Items.{Item, Keep, Drop, Add, kept, dropped, added}
use Rattle.edit_format.specs.Written.{Head, form_key, original_key, result_key, items_key, end_key, add_key, keep_key, drop_key, number_line, item_line, item_lines, head_lines, head_of, written}
use Rattle.edit_format.specs.Reading.{Line, form, original, result, items, item, ending, keeping, dropping, adding, State, bad, key, gap, num, open', after, kind_key, key_of, base, several, hexes, fits, item_of, opened, next, begun, keyed, numbered, kind_of, step, run, Found, Accepted, finish, read_file}
use Rattle.room.proofs.Choices.{pick_elim, no_way}
use Rattle.room.proofs.Bools.{and_left, and_right}
use Rattle.edit_format.proofs.NoBeginning.{never}
use Rattle.edit_format.proofs.DigitLaws.{digit_writes, digit_below, digits_one, digits_more}
use Rattle.edit_format.proofs.Texts.{before, spaced, Sound, Reads, spaced_snoc, points_snoc, items_snoc, line_ends}

base_big : (l : Line) → 1 < base l
unfolding base
base_big l = pick_elim (λ (m : ℕ). 1 < m) (several l) (λ e. omega arith) (λ e. omega arith)

begun_reads : (l : Line) (cs : List ℕ) (b : ℕ) (p : List ℕ) → p ≡ before l ++ key_of l ++ spaced cs → Sound l → (several l ≡ false → cs ≡ []) → Reads (begun l cs b) (p ++ b ∷ [])
unfolding begun
begun_reads l cs b p q s v =
    pick_elim (λ (t : State). Reads t (p ++ b ∷ [])) (is_digit (base l) b)
    (λ e. (rw (q, digits_one (base l) (digit_of b) (digit_below (base l) b e), digit_writes (base l) b e), s, v))
    (λ e. tt)

keyed_reads : (l : Line) (i b : ℕ) (p : List ℕ) → p ≡ before l ++ take i (key_of l) → Sound l → Reads (keyed l i b) (p ++ b ∷ [])
unfolding keyed spaced
keyed_reads l i b p q s =
    pick_elim (λ (t : State). Reads t (p ++ b ∷ [])) (ltb i (length (key_of l)))
    (λ e.
    pick_elim (λ (t : State). Reads t (p ++ b ∷ [])) (eqb b (get_or (key_of l) i 0))
    (λ f. (rw (q, take-suc (key_of l) i 0 (ltb-true i (length (key_of l)) e), ← eqb-true b (get_or (key_of l) i 0) f) (append_assoc (before l) (take i (key_of l)) (b ∷ [])), s))
    (λ f. tt))
    (λ e. begun_reads l [] b p (q ∙ rw (take_all i (key_of l) (ltb-false i (length (key_of l)) e)) (sym (append-nil (before l ++ key_of l)))) s (λ _. refl))

opened_reads : (h : Head) (is : List Item) (p : List ℕ) → p ≡ head_lines h ++ item_lines is → Reads (opened h is) p
unfolding opened
opened_reads h is p q =
    pick_elim (λ (t : State). Reads t p) (eqb (length is) h.count)
    (λ e. (q ∙ sym (append-nil (head_lines h ++ item_lines is)), eqb-true (length is) h.count e))
    (λ e. q)

head_ends : (o r n : ℕ) → before (items o r) ++ number_line items_key n ≡ head_lines (record { original = o; result = r; count = n }) ++ item_lines []
unfolding head_lines item_lines
head_ends o r n = sym (append-nil (before (items o r) ++ number_line items_key n))

add_ends : (B cs : List ℕ) (n : ℕ) → B ++ add_key ++ spaced cs ++ digits 16 n ++ 10 ∷ [] ≡ B ++ item_line (Add (cs ++ n ∷ []))
unfolding item_line
add_ends B cs n = rw (points_snoc cs n) (simp append_assoc)

base_several : (l : Line) → several l ≡ true → base l ≡ 16
unfolding base
base_several l e = rw e

-- a good line's LF
next_reads : (l : Line) (cs : List ℕ) (n : ℕ) (p : List ℕ) → p ≡ before l ++ key_of l ++ spaced cs ++ digits (base l) n → Sound l → (several l ≡ false → cs ≡ []) → fits l cs n ≡ true → Reads (next l cs n) (p ++ 10 ∷ [])
unfolding next key_of base several hexes spaced fits item_of kind_key item_line
next_reads form cs n p q s v f = (rw (q, v refl, eqb-true n 1 f) (line_ends [] form_key 1 ∙ sym (append-nil (before original))), tt)
next_reads original cs n p q s v f = (rw (q, v refl) (line_ends (before original) original_key n ∙ sym (append-nil (before (result n)))), tt)
next_reads (result o) cs n p q s v f = (rw (q, v refl) (line_ends (before (result o)) result_key n ∙ sym (append-nil (before (items o n)))), tt)
next_reads (items o r) cs n p q s v f =
    let h : Head = record { original = o; result = r; count = n } in
    opened_reads h [] (p ++ 10 ∷ []) (rw (q, v refl) (line_ends (before (items o r)) items_key n ∙ head_ends o r n))
next_reads (item h is keeping) cs n p q s v f =
    opened_reads h (is ++ Keep n ∷ []) (p ++ 10 ∷ [])
    (rw (q, v refl, items_snoc is (Keep n)) (line_ends (before (item h is keeping)) keep_key n ∙ append_assoc (head_lines h) (item_lines is) (number_line keep_key n)))
next_reads (item h is dropping) cs n p q s v f =
    opened_reads h (is ++ Drop n ∷ []) (p ++ 10 ∷ [])
    (rw (q, v refl, items_snoc is (Drop n)) (line_ends (before (item h is dropping)) drop_key n ∙ append_assoc (head_lines h) (item_lines is) (number_line drop_key n)))
next_reads (item h is adding) cs n p q s v f =
    opened_reads h (is ++ Add (cs ++ n ∷ []) ∷ []) (p ++ 10 ∷ [])
    (rw (q, items_snoc is (Add (cs ++ n ∷ []))) (add_ends (before (item h is adding)) cs n ∙ append_assoc (head_lines h) (item_lines is) (item_line (Add (cs ++ n ∷ [])))))
next_reads (ending h is) cs n p q s v f = (rw (q, v refl, eqb-true n h.count f, s) (line_ends (before (ending h is)) end_key h.count), s)

numbered_reads : (l : Line) (cs : List ℕ) (n b : ℕ) (p : List ℕ) → p ≡ before l ++ key_of l ++ spaced cs ++ digits (base l) n → Sound l → (several l ≡ false → cs ≡ []) → Reads (numbered l cs n b) (p ++ b ∷ [])
unfolding numbered
numbered_reads l cs n b p q s v =
    pick_elim R (is_digit (base l) b)
    (λ d.
    pick_elim R (eqb n 0) (λ e. tt)
    (λ e. (rw (q, digits_more (base l) n (digit_of b) (base_big l) (positive n (eqb-false n 0 e)) (digit_below (base l) b d), digit_writes (base l) b d) (append_assoc (before l ++ key_of l ++ spaced cs) (digits (base l) n) (b ∷ [])), s, v)))
    (λ d.
    pick_elim R (fits l cs n)
    (λ f.
    pick_elim R (eqb b 10) (λ e. rw (eqb-true b 10 e) (next_reads l cs n p q s v f))
    (λ e. pick_elim R (several l && eqb b 32) (λ t. spaced_on t) (λ t. tt)))
    (λ f. tt))
  where
    R : State → Type 0
    R t = Reads t (p ++ b ∷ [])

    positive : (k : ℕ) → (k ≡ 0 → ⊥) → 0 < k
    positive zero f = absurd (f refl)
    positive (suc k) f = omega arith

    spaced_on : several l && eqb b 32 ≡ true → Reads (gap l (cs ++ n ∷ [])) (p ++ b ∷ [])
    spaced_on e = (rw (q, eqb-true b 32 (and_right (several l) (eqb b 32) e), spaced_snoc cs n, base_several l (and_left (several l) (eqb b 32) e)) (simp append_assoc), s, λ f. no_way (sym f ∙ and_left (several l) (eqb b 32) e))

step_reads : (s : State) (b : ℕ) (p : List ℕ) → Reads s p → Reads (step s b) (p ++ b ∷ [])
unfolding step
step_reads (bad l) b p r = tt
step_reads (key l i) b p r = keyed_reads l i b p r.0 r.1
step_reads (gap l cs) b p r = begun_reads l cs b p r.0 r.1 r.2
step_reads (num l cs n) b p r = numbered_reads l cs n b p r.0 r.1 r.2
step_reads (open' h is) b p r = keyed_reads (item h is (kind_of b)) 0 b p (r ∙ sym (append-nil (head_lines h ++ item_lines is))) tt
step_reads (after h is) b p r = tt

pub run_reads : (s : State) (p q : List ℕ) → Reads s p → Reads (run s q) (p ++ q)
unfolding run
run_reads s p [] r = rw (append-nil p) r
run_reads s p (b ∷ q) r = rw (← append_assoc p (b ∷ []) q) (run_reads (step s b) (p ++ b ∷ []) q (step_reads s b p r))

accepted : (s : State) (p : List ℕ) {is : List Item} → Reads s p → finish s ≡ Accepted is → p ≡ written is
unfolding finish written head_of head_lines
accepted (bad l) p r e = absurd (never e)
accepted (key l i) p r e = absurd (never e)
accepted (gap l cs) p r e = absurd (never e)
accepted (num l cs n) p r e = absurd (never e)
accepted (open' h is) p r e = absurd (never e)
accepted (after h js) p {is} r e =
    (pick_elim (λ (x : Found). x ≡ Accepted is → p ≡ written is) (eqb (kept js + dropped js) h.original)
    (λ a.
    pick_elim (λ (x : Found). x ≡ Accepted is → p ≡ written is) (eqb (kept js + added js) h.result)
    (λ b z.
    let w : js ≡ is = cc in
    rw (r.0, ← w, eqb-true (kept js + dropped js) h.original a, eqb-true (kept js + added js) h.result b, r.1))
    (λ b z. absurd (never z)))
    (λ a z. absurd (never z)))
    e

-- (ii) an accepted file, rewritten, has the same bytes
pub canonical : (p : List ℕ) {is : List Item} → read_file p ≡ Accepted is → p ≡ written is
unfolding read_file
canonical p e = accepted (run (key form 0) p) p (run_reads (key form 0) [] p (refl, tt)) e
