-- The line charged: the lines before it are good, and it exists or is one past the last.
-- A step stays in its line or, at LF, begins the next one; so wherever the reader stands, every line up to its own has a start. Assumes nothing.
use mathlib.Core.Path.{◌≡◌, refl, sym, ap, ◌∙◌, subst}
use mathlib.Core.Logic.{◌⊎◌, inl, inr, ⊎_elim}
use mathlib.Core.Bool.{Bool, true, false, ◌&&◌}
use mathlib.Core.List.{List, [], ◌∷◌, ◌++◌, append_assoc, append-nil}
use Prim.Native.Nat.{ℕ, zero, suc, ◌+◌, ◌≤◌}
use native.Mathlib.Omega.{arith}
use native.Mathlib.Decide.{dec_le}
use lib.ListN.{length, get_or, length-append}
use lib.Dec.{ltb, eqb}
use borrow.Author.Tests.{eqb-true}
use Rattle.room.specs.Choice.{pick}
use Rattle.edit_format.specs.Digits.{is_digit}
use Rattle.edit_format.specs.Items.{Item, kept, dropped, added}
use Rattle.edit_format.specs.Written.{Head}
use Rattle.edit_format.specs.Reading.{Kind, keeping, dropping, adding, Line, form, original, result, items, item, ending, State, bad, key, gap, num, open', after, line_no, kind_key, key_of, base, several, fits, kind_of, item_of, opened, next, begun, keyed, numbered, step, run, Found, Accepted, Refused, finish, read_file}
use Rattle.edit_format.specs.Charge.{ends, Starts, Charged}
use Rattle.room.proofs.Choices.{pick_elim, no_way}
use Rattle.edit_format.proofs.DigitLaws.{no_digit_lf}
use Rattle.edit_format.proofs.NoBeginning.{run_append}

-- the line that the reader is in
abbrev line : State → ℕ
line (bad l) = l
line (key l i) = line_no l
line (gap l cs) = line_no l
line (num l cs n) = line_no l
line (open' h is) = length is + 5
line (after h is) = length is + 6

abbrev Alive : State → Type 0
Alive (bad l) = ⊥
Alive (key l i) = Unit {0}
Alive (gap l cs) = Unit {0}
Alive (num l cs n) = Unit {0}
Alive (open' h is) = Unit {0}
Alive (after h is) = Unit {0}

alive_back : (s : State) (b : ℕ) → Alive (step s b) → Alive s
unfolding step
alive_back (bad l) b a = a
alive_back (key l i) b a = tt
alive_back (gap l cs) b a = tt
alive_back (num l cs n) b a = tt
alive_back (open' h is) b a = tt
alive_back (after h is) b a = tt

starts_alive : (l : ℕ) (s : State) → Starts l s → Alive s
starts_alive l (bad k) a = a
starts_alive l (key k i) a = tt
starts_alive l (gap k cs) a = tt
starts_alive l (num k cs n) a = tt
starts_alive l (open' h is) a = tt
starts_alive l (after h is) a = tt

starts_line : (l : ℕ) (s : State) → Starts l s → line s ≡ l
starts_line l (bad k) a = absurd a
starts_line l (key k i) a = a.1
starts_line l (gap k cs) a = absurd a
starts_line l (num k cs n) a = absurd a
starts_line l (open' h is) a = a
starts_line l (after h is) a = a

-- after the byte b in line n: still in it, and b is no LF unless the line is bad; or b is LF, at the start of the next
abbrev Moves : ℕ → ℕ → State → Type 0
Moves n b t = ((line t ≡ n) × (Alive t → eqb b 10 ≡ false)) ⊎ ((eqb b 10 ≡ true) × Starts (n + 1) t)

-- no key has an LF
plain : List ℕ → Bool
plain [] = true
plain (k ∷ ks) = pick (eqb k 10) false (plain ks)

plain_at : (ks : List ℕ) (i : ℕ) → plain ks ≡ true → eqb (get_or ks i 0) 10 ≡ false
unfolding plain
plain_at [] i e = refl
plain_at (k ∷ ks) zero e = go (eqb k 10) refl e
  where
    go : (t : Bool) → eqb k 10 ≡ t → pick t false (plain ks) ≡ true → eqb k 10 ≡ false
    go true f g = no_way g
    go false f g = f
plain_at (k ∷ ks) (suc i) e = plain_at ks i (go (eqb k 10) e)
  where
    go : (t : Bool) → pick t false (plain ks) ≡ true → plain ks ≡ true
    go true g = no_way g
    go false g = g

plain_key : (l : Line) → plain (key_of l) ≡ true
unfolding plain key_of kind_key
plain_key form = refl
plain_key original = refl
plain_key (result o) = refl
plain_key (items o r) = refl
plain_key (item h is keeping) = refl
plain_key (item h is dropping) = refl
plain_key (item h is adding) = refl
plain_key (ending h is) = refl

digit_plain : (m b : ℕ) → is_digit m b ≡ true → eqb b 10 ≡ false
digit_plain m b e = go (eqb b 10) refl
  where
    go : (t : Bool) → eqb b 10 ≡ t → eqb b 10 ≡ false
    go true f = no_way (sym (ap (is_digit m) (eqb-true b 10 f) ∙ no_digit_lf m) ∙ e)
    go false f = f

bad_moves : (n b : ℕ) → Moves n b (bad n)
bad_moves n b = inl (refl, λ a. absurd a)

begun_moves : (l : Line) (cs : List ℕ) (b : ℕ) → Moves (line_no l) b (begun l cs b)
unfolding begun
begun_moves l cs b = pick_elim (Moves (line_no l) b) (is_digit (base l) b) (λ e. inl (refl, λ a. digit_plain (base l) b e)) (λ e. bad_moves (line_no l) b)

keyed_moves : (l : Line) (i b : ℕ) → Moves (line_no l) b (keyed l i b)
unfolding keyed
keyed_moves l i b =
    pick_elim (Moves (line_no l) b) (ltb i (length (key_of l)))
    (λ e. pick_elim (Moves (line_no l) b) (eqb b (get_or (key_of l) i 0)) (λ f. inl (refl, λ a. rw (eqb-true b (get_or (key_of l) i 0) f) (plain_at (key_of l) i (plain_key l)))) (λ f. bad_moves (line_no l) b))
    (λ e. begun_moves l [] b)

opened_starts : (h : Head) (is : List Item) (n : ℕ) → length is + 5 ≡ n → Starts n (opened h is)
unfolding opened line_no
opened_starts h is n e = pick_elim (Starts n) (eqb (length is) h.count) (λ f. (refl, e)) (λ f. e)

next_starts : (l : Line) (cs : List ℕ) (n : ℕ) → Starts (line_no l + 1) (next l cs n)
unfolding next line_no
next_starts form cs n = (refl, refl)
next_starts original cs n = (refl, refl)
next_starts (result o) cs n = (refl, refl)
next_starts (items o r) cs n = opened_starts (record { original = o; result = r; count = n }) [] 5 refl
next_starts (item h is k) cs n = opened_starts h (is ++ item_of k cs n ∷ []) (length is + 5 + 1) (omega (arith, length-append is (item_of k cs n ∷ [])))
next_starts (ending h is) cs n = omega arith

numbered_moves : (l : Line) (cs : List ℕ) (n b : ℕ) → Moves (line_no l) b (numbered l cs n b)
unfolding numbered
numbered_moves l cs n b =
    pick_elim (Moves (line_no l) b) (is_digit (base l) b)
    (λ e. pick_elim (Moves (line_no l) b) (eqb n 0) (λ f. bad_moves (line_no l) b) (λ f. inl (refl, λ a. digit_plain (base l) b e)))
    (λ e.
    pick_elim (Moves (line_no l) b) (fits l cs n)
    (λ f.
    pick_elim (Moves (line_no l) b) (eqb b 10) (λ g. inr (g, next_starts l cs n))
    (λ g. pick_elim (Moves (line_no l) b) (several l && eqb b 32) (λ k. inl (refl, λ a. g)) (λ k. bad_moves (line_no l) b)))
    (λ f. bad_moves (line_no l) b))

item_line : (h : Head) (is : List Item) (k : Kind) → line_no (item h is k) ≡ length is + 5
unfolding line_no
item_line h is k = refl

step_moves : (s : State) (b : ℕ) → Moves (line s) b (step s b)
unfolding step
step_moves (bad l) b = bad_moves l b
step_moves (key l i) b = keyed_moves l i b
step_moves (gap l cs) b = begun_moves l cs b
step_moves (num l cs n) b = numbered_moves l cs n b
step_moves (open' h is) b = item_moves
  where
    item_moves : Moves (length is + 5) b (keyed (item h is (kind_of b)) 0 b)
    item_moves = subst (λ (n : ℕ). Moves n b (keyed (item h is (kind_of b)) 0 b)) (item_line h is (kind_of b)) (keyed_moves (item h is (kind_of b)) 0 b)
step_moves (after h is) b = bad_moves (length is + 6) b

-- every line up to the reader's own has a start
record Lines (p : List ℕ) (s : State) : Type 0 where
  some : 1 ≤ line s
  each : (k : ℕ) → 1 ≤ k → k ≤ line s → Charged k p
  count : Alive s → ends p + 1 ≡ line s

ends_snoc : (p : List ℕ) (b : ℕ) → ends (p ++ b ∷ []) ≡ ends p + pick (eqb b 10) 1 0
unfolding ends
ends_snoc [] b = omega arith
ends_snoc (c ∷ p) b = omega (arith, ends_snoc p b)

longer : {k : ℕ} {p : List ℕ} (b : ℕ) → Charged k p → Charged k (p ++ b ∷ [])
longer b (q, r, e, w) = (q, r ++ b ∷ [], ap (λ (l : List ℕ). l ++ b ∷ []) e ∙ append_assoc q r (b ∷ []), w)

step_lines : (p : List ℕ) (b : ℕ) → Lines p (run (key form 0) p) → Lines (p ++ b ∷ []) (run (key form 0) (p ++ b ∷ []))
unfolding run
step_lines p b w = rw (run_append (key form 0) p (b ∷ [])) (⊎_elim stays begins (step_moves s b))
  where
    s : State
    s = run (key form 0) p

    stays : (line (step s b) ≡ line s) × (Alive (step s b) → eqb b 10 ≡ false) → Lines (p ++ b ∷ []) (step s b)
    stays m = record {
      some = omega (arith, m.0, w.some);
      each = λ k a c. longer b (w.each k a (omega (arith, m.0)));
      count = λ a.
          let e : eqb b 10 ≡ false = m.1 a in
          let f : ends (p ++ b ∷ []) ≡ ends p + 0 = ends_snoc p b ∙ rw e in
          omega (arith, m.0, w.count (alive_back s b a));
    }

    begins : (eqb b 10 ≡ true) × Starts (line s + 1) (step s b) → Lines (p ++ b ∷ []) (step s b)
    begins m =
        let l : line (step s b) ≡ line s + 1 = starts_line (line s + 1) (step s b) m.1 in
        let f : ends (p ++ b ∷ []) ≡ ends p + 1 = ends_snoc p b ∙ rw m.0 in
        let c : ends p + 1 ≡ line s = w.count (alive_back s b (starts_alive (line s + 1) (step s b) m.1)) in
        record {
          some = omega arith;
          each = λ k a d. elim (dec_le k (line s)) [
            | yes g ↦ longer b (w.each k a g)
            | no g ↦
                let e : line s + 1 ≡ k = omega arith in
                (p ++ b ∷ [], [], sym (append-nil (p ++ b ∷ [])), record { lines = omega arith; good = subst (λ (n : ℕ). Starts n (run (key form 0) (p ++ b ∷ []))) e (rw (run_append (key form 0) p (b ∷ [])) m.1) })
          ];
          count = λ a. omega arith;
        }

lines_from : (p q : List ℕ) → Lines p (run (key form 0) p) → Lines (p ++ q) (run (key form 0) (p ++ q))
lines_from p [] w = rw (append-nil p) w
lines_from p (b ∷ q) w = rw (← append_assoc p (b ∷ []) q) (lines_from (p ++ b ∷ []) q (step_lines p b w))

lines_begin : Lines [] (key form 0)
unfolding line_no ends run
lines_begin = record {
  some = omega arith;
  each = λ k a c. let e : 1 ≡ k = omega arith in ([], [], refl, record { lines = e; good = (refl, e) });
  count = λ a. refl;
}

never : {l : ℕ} {is : List Item} → ◌≡◌ {A = Found} (Accepted is) (Refused l) → ⊥
never e = let z : ◌≡◌ {A = ℕ} 0 1 = cc in omega arith

same_line : {k l : ℕ} → ◌≡◌ {A = Found} (Refused k) (Refused l) → k ≡ l
same_line e = cc

at_line : {p : List ℕ} {s : State} {l : ℕ} (k : ℕ) → Lines p s → 1 ≤ k → k ≤ line s → ◌≡◌ {A = Found} (Refused k) (Refused l) → Charged l p
at_line {p} k w a b e = subst (λ (n : ℕ). Charged n p) (same_line e) (w.each k a b)

finish_charged : (p : List ℕ) (s : State) {l : ℕ} → Lines p s → finish s ≡ Refused l → Charged l p
unfolding finish
finish_charged p (bad k) w e = at_line k w w.some (omega arith) e
finish_charged p (key k i) w e = at_line (line_no k) w w.some (omega arith) e
finish_charged p (gap k cs) w e = at_line (line_no k) w w.some (omega arith) e
finish_charged p (num k cs n) w e = at_line (line_no k) w w.some (omega arith) e
finish_charged p (open' h is) w e = at_line (length is + 5) w w.some (omega arith) e
finish_charged p (after h is) {l} w e =
    (pick_elim (λ (x : Found). x ≡ Refused l → Charged l p) (eqb (kept is + dropped is) h.original)
    (λ a.
    pick_elim (λ (x : Found). x ≡ Refused l → Charged l p) (eqb (kept is + added is) h.result)
    (λ b z. absurd (never z))
    (λ b z. at_line 3 w (omega arith) (omega arith) z))
    (λ a z. at_line 2 w (omega arith) (omega arith) z))
    e

-- law 6: the line charged exists or is one past the last, and every line before it is good
pub charged : (p : List ℕ) {l : ℕ} → read_file p ≡ Refused l → Charged l p
unfolding read_file run
charged p e = finish_charged p (run (key form 0) p) (lines_from [] p lines_begin) e
