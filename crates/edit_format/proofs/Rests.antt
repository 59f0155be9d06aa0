-- What an accepted file's bytes still hold, from any place of it on: at least the text that the line being read needs, and, once the end line is due, no further item.
-- Each is kept by every step that does not find a bad line. Assumes nothing.
use mathlib.Core.Path.{◌≡◌, refl}
use mathlib.Core.Bool.{◌&&◌}
use mathlib.Core.List.{List, [], ◌∷◌, ◌++◌}
use Prim.Native.Nat.{ℕ, ◌+◌, ◌≤◌}
use native.Mathlib.Omega.{arith}
use lib.ListN.{length, get_or, length-append}
use lib.Dec.{ltb, eqb}
use Rattle.edit_format.specs.Digits.{is_digit}
use Rattle.edit_format.specs.Items.{Item, Keep, Drop, Add, kept, dropped, added}
use Rattle.edit_format.specs.Written.{Head}
use Rattle.edit_format.specs.Reading.{Kind, keeping, dropping, adding, Line, form, original, result, items, item, ending, State, bad, key, gap, num, open', after, key_of, base, several, fits, kind_of, item_of, opened, next, begun, keyed, numbered, step, run, Found, Accepted, finish, found}
use Rattle.room.proofs.Choices.{pick_elim}
use Rattle.edit_format.proofs.NoBeginning.{never}
use Rattle.edit_format.proofs.ReadBack.{added_append}

-- the text that a file has at least, by its line: an add line has one more code point
abbrev in_line : Line → List ℕ → ℕ
in_line form cs = 0
in_line original cs = 0
in_line (result o) cs = 0
in_line (items o r) cs = 0
in_line (item h is keeping) cs = added is
in_line (item h is dropping) cs = added is
in_line (item h is adding) cs = added is + length cs + 1
in_line (ending h is) cs = added is

-- a bound that a step keeps: what is bad has none
abbrev Above : ℕ → State → Type 0
Above n (bad l) = Unit {0}
Above n (key l i) = n ≤ in_line l []
Above n (gap l cs) = n ≤ in_line l cs
Above n (num l cs m) = n ≤ in_line l cs
Above n (open' h is) = n ≤ added is
Above n (after h is) = n ≤ added is

opened_above : (n : ℕ) (h : Head) (is : List Item) → n ≤ added is → Above n (opened h is)
unfolding opened
opened_above n h is g = pick_elim (Above n) (eqb (length is) h.count) (λ e. g) (λ e. g)

next_above : (n : ℕ) (l : Line) (cs : List ℕ) (m : ℕ) → n ≤ in_line l cs → Above n (next l cs m)
unfolding next item_of added
next_above n form cs m g = g
next_above n original cs m g = g
next_above n (result o) cs m g = g
next_above n (items o r) cs m g = opened_above n (record { original = o; result = r; count = m }) [] g
next_above n (item h is keeping) cs m g = opened_above n h (is ++ Keep m ∷ []) (omega (arith, added_append is (Keep m ∷ [])))
next_above n (item h is dropping) cs m g = opened_above n h (is ++ Drop m ∷ []) (omega (arith, added_append is (Drop m ∷ [])))
next_above n (item h is adding) cs m g = opened_above n h (is ++ Add (cs ++ m ∷ []) ∷ []) (omega (arith, added_append is (Add (cs ++ m ∷ []) ∷ []), length-append cs (m ∷ [])))
next_above n (ending h is) cs m g = g

gap_above : (n : ℕ) (l : Line) (cs : List ℕ) (m : ℕ) → n ≤ in_line l cs → n ≤ in_line l (cs ++ m ∷ [])
gap_above n form cs m g = g
gap_above n original cs m g = g
gap_above n (result o) cs m g = g
gap_above n (items o r) cs m g = g
gap_above n (item h is keeping) cs m g = g
gap_above n (item h is dropping) cs m g = g
gap_above n (item h is adding) cs m g = omega (arith, length-append cs (m ∷ []))
gap_above n (ending h is) cs m g = g

begun_above : (n : ℕ) (l : Line) (cs : List ℕ) (b : ℕ) → n ≤ in_line l cs → Above n (begun l cs b)
unfolding begun
begun_above n l cs b g = pick_elim (Above n) (is_digit (base l) b) (λ e. g) (λ e. tt)

keyed_above : (n : ℕ) (l : Line) (i b : ℕ) → n ≤ in_line l [] → Above n (keyed l i b)
unfolding keyed
keyed_above n l i b g = pick_elim (Above n) (ltb i (length (key_of l))) (λ e. pick_elim (Above n) (eqb b (get_or (key_of l) i 0)) (λ e. g) (λ e. tt)) (λ e. begun_above n l [] b g)

kind_above : (n : ℕ) (h : Head) (is : List Item) (k : Kind) → n ≤ added is → n ≤ in_line (item h is k) []
kind_above n h is keeping g = g
kind_above n h is dropping g = g
kind_above n h is adding g = omega arith

step_above : (n : ℕ) (s : State) (b : ℕ) → Above n s → Above n (step s b)
unfolding step numbered
step_above n (bad l) b g = tt
step_above n (key l i) b g = keyed_above n l i b g
step_above n (gap l cs) b g = begun_above n l cs b g
step_above n (num l cs m) b g =
    pick_elim (Above n) (is_digit (base l) b) (λ e. pick_elim (Above n) (eqb m 0) (λ e. tt) (λ e. g))
    (λ e.
    pick_elim (Above n) (fits l cs m)
    (λ f. pick_elim (Above n) (eqb b 10) (λ e. next_above n l cs m g) (λ e. pick_elim (Above n) (several l && eqb b 32) (λ e. gap_above n l cs m g) (λ e. tt)))
    (λ f. tt))
step_above n (open' h is) b g = keyed_above n (item h is (kind_of b)) 0 b (kind_above n h is (kind_of b) g)
step_above n (after h is) b g = tt

run_above : (n : ℕ) (s : State) (p : List ℕ) → Above n s → Above n (run s p)
unfolding run
run_above n s [] g = g
run_above n s (b ∷ p) g = run_above n (step s b) p (step_above n s b g)

-- an accepted file ends past its end line, with the items read
ends_after : (s : State) {is : List Item} → finish s ≡ Accepted is → (h : Head) × (s ≡ after h is)
unfolding finish
ends_after (bad l) e = absurd (never e)
ends_after (key l i) e = absurd (never e)
ends_after (gap l cs) e = absurd (never e)
ends_after (num l cs n) e = absurd (never e)
ends_after (open' h is) e = absurd (never e)
ends_after (after h js) {is} e =
    (pick_elim (λ (x : Found). x ≡ Accepted is → (g : Head) × (after h js ≡ after g is)) (eqb (kept js + dropped js) h.original)
    (λ a.
    pick_elim (λ (x : Found). x ≡ Accepted is → (g : Head) × (after h js ≡ after g is)) (eqb (kept js + added js) h.result)
    (λ b z. let w : js ≡ is = cc in (h, rw w))
    (λ b z. absurd (never z)))
    (λ a z. absurd (never z)))
    e

above_all : (n : ℕ) (s : State) {h : Head} {is : List Item} → s ≡ after h is → Above n s → n ≤ added is
above_all n s e g = rw e at g

-- an add line that is accepted has one code point more than those read
pub one_more : (h : Head) (is : List Item) (cs p : List ℕ) {js : List Item} → found (gap (item h is adding) cs) p ≡ Accepted js → added is + length cs + 1 ≤ added js
one_more h is cs p e =
    let w = ends_after (run (gap (item h is adding) cs) p) e in
    above_all (added is + length cs + 1) (run (gap (item h is adding) cs) p) w.1 (run_above (added is + length cs + 1) (gap (item h is adding) cs) p (omega arith))

pub at_least : (h : Head) (is : List Item) (p : List ℕ) {js : List Item} → found (opened h is) p ≡ Accepted js → added is ≤ added js
at_least h is p e =
    let w = ends_after (run (opened h is) p) e in
    above_all (added is) (run (opened h is) p) w.1 (run_above (added is) (opened h is) p (opened_above (added is) h is (omega arith)))

-- in the end line, or past it, with these items
abbrev Ends : List Item → State → Type 0
Ends is (bad l) = Unit {0}
Ends is (key (ending h js) i) = js ≡ is
Ends is (key form i) = ⊥
Ends is (key original i) = ⊥
Ends is (key (result o) i) = ⊥
Ends is (key (items o r) i) = ⊥
Ends is (key (item h js k) i) = ⊥
Ends is (gap l cs) = ⊥
Ends is (num (ending h js) cs n) = js ≡ is
Ends is (num form cs n) = ⊥
Ends is (num original cs n) = ⊥
Ends is (num (result o) cs n) = ⊥
Ends is (num (items o r) cs n) = ⊥
Ends is (num (item h js k) cs n) = ⊥
Ends is (open' h js) = ⊥
Ends is (after h js) = js ≡ is

ending_begun : (is : List Item) (h : Head) (js : List Item) (b : ℕ) → js ≡ is → Ends is (begun (ending h js) [] b)
unfolding begun
ending_begun is h js b g = pick_elim (Ends is) (is_digit (base (ending h js)) b) (λ e. g) (λ e. tt)

step_ends : (is : List Item) (s : State) (b : ℕ) → Ends is s → Ends is (step s b)
unfolding step keyed numbered several next
step_ends is (bad l) b g = tt
step_ends is (key (ending h js) i) b g = pick_elim (Ends is) (ltb i (length (key_of (ending h js)))) (λ e. pick_elim (Ends is) (eqb b (get_or (key_of (ending h js)) i 0)) (λ e. g) (λ e. tt)) (λ e. ending_begun is h js b g)
step_ends is (key form i) b g = absurd g
step_ends is (key original i) b g = absurd g
step_ends is (key (result o) i) b g = absurd g
step_ends is (key (items o r) i) b g = absurd g
step_ends is (key (item h js k) i) b g = absurd g
step_ends is (gap l cs) b g = absurd g
step_ends is (num (ending h js) cs n) b g =
    pick_elim (Ends is) (is_digit (base (ending h js)) b) (λ e. pick_elim (Ends is) (eqb n 0) (λ e. tt) (λ e. g))
    (λ e. pick_elim (Ends is) (fits (ending h js) cs n) (λ f. pick_elim (Ends is) (eqb b 10) (λ e. g) (λ e. tt)) (λ f. tt))
step_ends is (num form cs n) b g = absurd g
step_ends is (num original cs n) b g = absurd g
step_ends is (num (result o) cs n) b g = absurd g
step_ends is (num (items o r) cs n) b g = absurd g
step_ends is (num (item h js k) cs n) b g = absurd g
step_ends is (open' h js) b g = absurd g
step_ends is (after h js) b g = tt

run_ends : (is : List Item) (s : State) (p : List ℕ) → Ends is s → Ends is (run s p)
unfolding run
run_ends is s [] g = g
run_ends is s (b ∷ p) g = run_ends is (step s b) p (step_ends is s b g)

ends_all : (is : List Item) (s : State) {h : Head} {js : List Item} → s ≡ after h js → Ends is s → js ≡ is
ends_all is s e g = rw e at g

-- once the end line is due, the items are those read
pub no_more : (h : Head) (is : List Item) (p : List ℕ) {js : List Item} → found (key (ending h is) 0) p ≡ Accepted js → js ≡ is
no_more h is p e =
    let w = ends_after (run (key (ending h is) 0) p) e in
    ends_all is (run (key (ending h is) 0) p) w.1 (run_ends is (key (ending h is) 0) p refl)
