-- The leaves' findings against the reader's steps: what is left after a number, a line or a code point decides what was left before it.
-- By induction on the bytes; a number is held exactly or as the cap, and no rule tells a number at the cap from a larger one. Assumes nothing.
use Rattle.std.specs.Prelude.{Option, Some, None}
use mathlib.Core.Path.{◌≡◌, refl, sym, ap, ◌∙◌}
use mathlib.Core.Bool.{Bool, true, false, not, ◌&&◌}
use mathlib.Core.List.{List, [], ◌∷◌, ◌++◌}
use Prim.Native.Nat.{ℕ, suc, ◌+◌, ◌-◌, ◌*◌, ◌≤◌, ◌<◌, zero-le}
use native.Mathlib.Nat.{mul-le-mul_left, mul-one}
use native.Mathlib.Omega.{arith}
use native.Mathlib.Decide.{dec_le, dec_lt}
use lib.ListN.{length, get_or, drop, length-drop, drop_of_length-le, get_or-eq_default}
use lib.Seq.{drop-drop, get_or-drop}
use lib.Dec.{ltb, leb, eqb}
use borrow.Author.Tests.{le-ltb, lt-ltb, le-leb, lt-leb, leb-true, leb-false, eqb-true, eqb-false, eq-eqb, ne_eqb}
use Rattle.room.specs.Choice.{pick}
use Rattle.room.proofs.Bools.{and_true, and_false}
use Rattle.edit_format.specs.Tests.{begins}
use Rattle.edit_format.specs.Digits.{digit, digit_of, is_digit}
use Rattle.numbers.specs.Points.{is_point}
use Rattle.numbers.proofs.Points.{point_most}
use Rattle.edit_format.specs.Items.{Item, Add, added}
use Rattle.edit_format.specs.Written.{Head}
use Rattle.edit_format.specs.Reading.{Line, item, adding, key, gap, num, line_no, key_of, base, several, hexes, fits, fits_item, next, item_of, opened, Refused, finish, run, found}
use Rattle.edit_format.proofs.DigitLaws.{digit_below}
use Rattle.room.proofs.Choices.{pick_elim}
use Rattle.numbers.proofs.Orders.{leb_same}
use Rattle.edit_format.proofs.Finding.{key_on, key_off, gap_digit, gap_other, num_digit, num_zero, num_lf, num_space, num_unfit, num_other}
use Rattle.edit_format.proofs.ReadBack.{base_ten}
use Rattle.edit_lines.specs.Scan.{cap, more, scan, closed_at, line_at, ended_at, point_at}
use Rattle.edit_lines.proofs.Leaves.{at_byte}
use Rattle.edit_lines.specs.declared.Number.{Number}
use Rattle.edit_lines.specs.declared.Point.{Point}
use Rattle.edit_lines.specs.declared.Point.TheVariants.{More, Last}

-- a number that is held at the cap grows at the cap
pub cap_more : (m n d : ℕ) → 1 < m → cap (n * m + d) ≡ cap (cap n * m + d)
cap_more m n d h = elim (dec_le n 2000000) [
  | yes g ↦ let e : cap n ≡ n = omega arith in rw e
  | no g ↦
      let e : cap n ≡ 2000000 = omega arith in
      let a : n * 1 ≤ n * m = mul-le-mul_left {m = 1} {n = m} n (omega arith) in
      let b : 2000000 * 1 ≤ 2000000 * m = mul-le-mul_left {m = 1} {n = m} 2000000 (omega arith) in
      rw e (omega (arith, mul-one n, mul-one 2000000))
]

pub cap_zero : (n : ℕ) (t : Bool) → eqb (cap n) 0 ≡ t → eqb n 0 ≡ t
cap_zero n true e = eq-eqb n 0 (let w : cap n ≡ 0 = eqb-true (cap n) 0 e in omega arith)
cap_zero n false e = ne_eqb n 0 (λ z. eqb-false (cap n) 0 e (omega arith))

no_digit_end : (m : ℕ) → is_digit m 0 ≡ false
unfolding is_digit digit digit_of
no_digit_end m = refl

-- v and j were found from a number's digits on, n having been read before the bytes bs
abbrev NumFound : Line → List ℕ → ℕ → ℕ → List ℕ → Option Number → Type 0
NumFound l cs n i bs (Some got) =
    (k : ℕ) × (m : ℕ) × (got.next ≡ i + k) × (k ≤ length bs) × (got.value ≡ cap m) × (found (num l cs n) bs ≡ found (num l cs m) (drop k bs)) × (is_digit (base l) (get_or bs k 0) ≡ false)
NumFound l cs n i bs None = found (num l cs n) bs ≡ Refused (line_no l)

-- one digit more
num_step : (l : Line) (cs : List ℕ) (n i b : ℕ) (bs : List ℕ) (r : Option Number) → found (num l cs n) (b ∷ bs) ≡ found (num l cs (n * base l + digit_of b)) bs → NumFound l cs (n * base l + digit_of b) (i + 1) bs r → NumFound l cs n i (b ∷ bs) r
num_step l cs n i b bs (Some got) e (k, m, a, f, w, q, d) = (suc k, m, omega arith, omega arith, w, e ∙ q, d)
num_step l cs n i b bs None e f = e ∙ f

more_found : (l : Line) (cs : List ℕ) (n v i : ℕ) (bs : List ℕ) → 1 < base l → v ≡ cap n → NumFound l cs n i bs (more (base l) v i bs)
unfolding more
more_found l cs n v i [] h e = (0, n, omega arith, zero-le, e, refl, no_digit_end (base l))
more_found l cs n v i (b ∷ bs) h e =
    go (is_digit (base l) b) (eqb v 0) refl refl (more_found l cs (n * base l + digit_of b) (cap (v * base l + digit_of b)) (i + 1) bs h (rw e (sym (cap_more (base l) n (digit_of b) h))))
  where
    go : (t u : Bool) → is_digit (base l) b ≡ t → eqb v 0 ≡ u → NumFound l cs (n * base l + digit_of b) (i + 1) bs (more (base l) (cap (v * base l + digit_of b)) (i + 1) bs) → NumFound l cs n i (b ∷ bs) (pick t (pick u None (more (base l) (cap (v * base l + digit_of b)) (i + 1) bs)) (Some (record { value = v; next = i })))
    go false u f g r = (0, n, omega arith, zero-le, e, refl, f)
    go true true f g r = num_zero l cs n b bs f (cap_zero n true (rw e at g))
    go true false f g r = num_step l cs n i b bs (more (base l) (cap (v * base l + digit_of b)) (i + 1) bs) (num_digit l cs n b bs f (cap_zero n false (rw e at g))) r

-- a number from place i of p on
abbrev pub Scanned : Line → List ℕ → List ℕ → ℕ → Option Number → Type 0
Scanned l cs p i (Some got) =
    (m : ℕ) × (i < got.next) × (got.next ≤ length p) × (got.value ≡ cap m) × (found (gap l cs) (drop i p) ≡ found (num l cs m) (drop got.next p)) × (is_digit (base l) (get_or p got.next 0) ≡ false)
Scanned l cs p i None = found (gap l cs) (drop i p) ≡ Refused (line_no l)

from_here : (l : Line) (cs p : List ℕ) (i n : ℕ) (r : Option Number) → i < length p → found (gap l cs) (drop i p) ≡ found (num l cs n) (drop (i + 1) p) → NumFound l cs n (i + 1) (drop (i + 1) p) r → Scanned l cs p i r
from_here l cs p i n (Some got) h e (k, m, a, f, w, q, d) =
    let g : k ≤ length p - (i + 1) = rw (length-drop (i + 1) p) at f in
    (m, omega arith, omega arith, w, e ∙ q ∙ rw (drop-drop k (i + 1) p, ← a), rw (get_or-drop (i + 1) p k 0, ← a) at d)
from_here l cs p i n None h e f = e ∙ f

base_big : (l : Line) → 1 < base l
unfolding base
base_big l = pick_elim (λ (m : ℕ). 1 < m) (several l) (λ e. omega arith) (λ e. omega arith)

base_16 : (l : Line) → base l ≤ 16
unfolding base
base_16 l = pick_elim (λ (m : ℕ). m ≤ 16) (several l) (λ e. omega arith) (λ e. omega arith)

pub scanned : (l : Line) (cs p : List ℕ) (i : ℕ) → Scanned l cs p i (scan (base l) i (drop i p))
unfolding scan finish run
scanned l cs p i = elim (dec_lt i (length p)) [
  | no h ↦ let g : length p ≤ i = omega arith in rw (drop_of_length-le p g) (ap (found (gap l cs)) (drop_of_length-le p g))
  | yes h ↦ rw (at_byte p i h) (go h (is_digit (base l) (get_or p i 0)) refl)
]
  where
    go : i < length p → (t : Bool) → is_digit (base l) (get_or p i 0) ≡ t → Scanned l cs p i (pick t (more (base l) (digit_of (get_or p i 0)) (i + 1) (drop (i + 1) p)) None)
    go h false e = ap (found (gap l cs)) (at_byte p i h) ∙ gap_other l cs (get_or p i 0) (drop (i + 1) p) e
    go h true e =
        let b : ℕ = get_or p i 0 in
        let w : digit_of b < base l = digit_below (base l) b e in
        from_here l cs p i (digit_of b) (more (base l) (digit_of b) (i + 1) (drop (i + 1) p)) h
        (ap (found (gap l cs)) (at_byte p i h) ∙ gap_digit l cs b (drop (i + 1) p) e)
        (more_found l cs (digit_of b) (digit_of b) (i + 1) (drop (i + 1) p) (base_big l) (omega (arith, base_16 l)))

-- a number that ends the bytes, or breaks a rule, or is followed by a byte that may not follow it
num_cut : (l : Line) (cs p : List ℕ) (m j : ℕ) → length p ≤ j → found (num l cs m) (drop j p) ≡ Refused (line_no l)
unfolding finish run
num_cut l cs p m j h = ap (found (num l cs m)) (drop_of_length-le p h)

num_stop : (l : Line) (cs p : List ℕ) (m j : ℕ) → is_digit (base l) (get_or p j 0) ≡ false → fits l cs m ≡ false → found (num l cs m) (drop j p) ≡ Refused (line_no l)
num_stop l cs p m j d f = elim (dec_lt j (length p)) [
  | yes h ↦ ap (found (num l cs m)) (at_byte p j h) ∙ num_unfit l cs m (get_or p j 0) (drop (j + 1) p) d f
  | no h ↦ num_cut l cs p m j (omega arith)
]

num_odd : (l : Line) (cs p : List ℕ) (m j : ℕ) → is_digit (base l) (get_or p j 0) ≡ false → eqb (get_or p j 0) 10 ≡ false → several l && eqb (get_or p j 0) 32 ≡ false → found (num l cs m) (drop j p) ≡ Refused (line_no l)
num_odd l cs p m j d f g = elim (dec_lt j (length p)) [
  | yes h ↦ ap (found (num l cs m)) (at_byte p j h) ∙ num_other l cs m (get_or p j 0) (drop (j + 1) p) d f g
  | no h ↦ num_cut l cs p m j (omega arith)
]

-- a byte that is not 0 stands before the end
before_end : (p : List ℕ) (j b : ℕ) → eqb (get_or p j 0) b ≡ true → 0 < b → j < length p
before_end p j b e h = elim (dec_lt j (length p)) [
  | yes g ↦ g
  | no g ↦ absurd (let k : length p ≤ j = omega arith in let z : get_or p j 0 ≡ 0 = get_or-eq_default p 0 k in let w : get_or p j 0 ≡ b = eqb-true (get_or p j 0) b e in omega arith)
]

byte_at : (p : List ℕ) (j b : ℕ) → eqb (get_or p j 0) b ≡ true → 0 < b → drop j p ≡ b ∷ drop (j + 1) p
byte_at p j b e h = at_byte p j (before_end p j b e h) ∙ rw (eqb-true (get_or p j 0) b e)

-- a line of one number, up to the rule of its line
abbrev pub Lined : Line → List ℕ → ℕ → Option Number → Type 0
Lined l p at (Some got) =
    (m : ℕ) × (at < got.next) × (got.next ≤ length p) × (got.value ≡ cap m) × (fits l [] m ≡ true → found (key l 0) (drop at p) ≡ found (next l [] m) (drop got.next p))
    × (fits l [] m ≡ false → found (key l 0) (drop at p) ≡ Refused (line_no l))
Lined l p at None = found (key l 0) (drop at p) ≡ Refused (line_no l)

close : (l : Line) (p : List ℕ) (at s : ℕ) (r : Option Number) → several l ≡ false → at ≤ s → found (key l 0) (drop at p) ≡ found (gap l []) (drop s p) → Scanned l [] p s r → Lined l p at (closed_at p r)
unfolding closed_at
close l p at s None v g e f = e ∙ f
close l p at s (Some got) v g e (m, a, b, w, q, d) = go (eqb (get_or p got.next 0) 10) refl
  where
    go : (t : Bool) → eqb (get_or p got.next 0) 10 ≡ t → Lined l p at (pick t (Some (record { value = got.value; next = got.next + 1 })) None)
    go true f = (
      m,
      omega arith,
      (let h : got.next < length p = before_end p got.next 10 f (omega arith) in omega arith),
      w,
      (λ k. e ∙ q ∙ ap (found (num l [] m)) (byte_at p got.next 10 f (omega arith)) ∙ num_lf l [] m (drop (got.next + 1) p) k),
      (λ k. e ∙ q ∙ num_stop l [] p m got.next d k),
    )
    go false f = e ∙ q ∙ num_odd l [] p m got.next d f (rw v)

pub lined : (l : Line) (p : List ℕ) (at : ℕ) → several l ≡ false → Lined l p at (line_at (key_of l) p at)
unfolding line_at
lined l p at v = go (begins (key_of l) (drop at p)) refl
  where
    go : (t : Bool) → begins (key_of l) (drop at p) ≡ t → Lined l p at (pick t (closed_at p (scan 10 (at + length (key_of l)) (drop (at + length (key_of l)) p))) None)
    go false e = key_off l (drop at p) e
    go true e =
        close l p at (at + length (key_of l)) (scan 10 (at + length (key_of l)) (drop (at + length (key_of l)) p)) v (omega arith)
        (key_on l (drop at p) e ∙ rw (drop-drop (length (key_of l)) at p))
        (rw (base_ten l v) at (scanned l [] p (at + length (key_of l))))

-- a code point of an add line, after the items is and the code points cs
abbrev pub Pointed : Head → List Item → List ℕ → List ℕ → ℕ → Option Point → Type 0
Pointed h is cs p i (Some (Last v j)) = (j ≤ length p) × (found (gap (item h is adding) cs) (drop i p) ≡ found (opened h (is ++ Add (cs ++ v ∷ []) ∷ [])) (drop j p))
Pointed h is cs p i (Some (More v j)) = (j ≤ length p) × (found (gap (item h is adding) cs) (drop i p) ≡ found (gap (item h is adding) (cs ++ v ∷ [])) (drop j p))
Pointed h is cs p i None = found (gap (item h is adding) cs) (drop i p) ≡ Refused (length is + 5)

cap_le : (n k : ℕ) → k < 2000000 → leb (cap n) k ≡ leb n k
cap_le n k h = leb_same (cap n) k n k (λ e. omega arith) (λ e. omega arith)

cap_ge : (n k : ℕ) → k < 2000000 → leb k (cap n) ≡ leb k n
cap_ge n k h = leb_same k (cap n) k n (λ e. omega arith) (λ e. omega arith)

flip_as : (a b : ℕ) (t : Bool) → leb b a ≡ t → ltb a b ≡ not t
flip_as a b true e = le-ltb a b (leb-true b a e)
flip_as a b false e = lt-ltb a b (leb-false b a e)

-- a test the other way round
flip : (a b : ℕ) → ltb a b ≡ not (leb b a)
flip a b = flip_as a b (leb b a) refl

cap_point : (n : ℕ) → is_point (cap n) ≡ is_point n
unfolding is_point
cap_point n = rw (flip (cap n) 0xd800, flip n 0xd800, cap_ge n 0xd800 (omega arith), cap_ge n 0xe000 (omega arith), cap_le n 0x10ffff (omega arith))

point_exact : (n : ℕ) → is_point n ≡ true → cap n ≡ n
point_exact n e = omega (arith, point_most n e)

module _ (h : Head) (is : List Item) (few : length is < 8192) where
  point_fits : (cs : List ℕ) (n : ℕ) (t : Bool) → is_point n ≡ t → added is + length cs + 1 ≤ 131070 → fits (item h is adding) cs n ≡ t
  unfolding fits fits_item
  point_fits cs n t e g = rw (lt-ltb (length is) 8192 few, e, le-leb (added is + length cs + 1) 131070 g) (and_true t)

  no_room : (cs : List ℕ) (n : ℕ) → 131070 < added is + length cs + 1 → fits (item h is adding) cs n ≡ false
  unfolding fits fits_item
  no_room cs n g = rw (lt-leb (added is + length cs + 1) 131070 g, and_false (is_point n)) (and_false (ltb (length is) 8192))

  ended : (cs p : List ℕ) (i : ℕ) (r : Option Number) → added is + length cs + 1 ≤ 131070 → Scanned (item h is adding) cs p i r → Pointed h is cs p i (ended_at p r)
  unfolding ended_at line_no next item_of several hexes
  ended cs p i None g f = f
  ended cs p i (Some got) g (m, a, b, w, q, d) = rw w (go (is_point (cap m)) refl (eqb (get_or p got.next 0) 10) refl (eqb (get_or p got.next 0) 32) refl)
    where
      l : Line
      l = item h is adding

      go : (t : Bool) → is_point (cap m) ≡ t → (u : Bool) → eqb (get_or p got.next 0) 10 ≡ u → (x : Bool) → eqb (get_or p got.next 0) 32 ≡ x → Pointed h is cs p i (pick t (pick u (Some (Last (cap m) (got.next + 1))) (pick x (Some (More (cap m) (got.next + 1))) None)) None)
      go false e u f x k = q ∙ num_stop l cs p m got.next d (point_fits cs m false (sym (cap_point m) ∙ e) g)
      go true e true f x k =
          let o : is_point m ≡ true = sym (cap_point m) ∙ e in
          let y : got.next < length p = before_end p got.next 10 f (omega arith) in
          rw (point_exact m o)
          (omega arith, q ∙ ap (found (num l cs m)) (byte_at p got.next 10 f (omega arith)) ∙ num_lf l cs m (drop (got.next + 1) p) (point_fits cs m true o g))
      go true e false f true k =
          let o : is_point m ≡ true = sym (cap_point m) ∙ e in
          let y : got.next < length p = before_end p got.next 32 k (omega arith) in
          rw (point_exact m o)
          (omega arith, q ∙ ap (found (num l cs m)) (byte_at p got.next 32 k (omega arith)) ∙ num_space l cs m (drop (got.next + 1) p) refl (point_fits cs m true o g))
      go true e false f false k = q ∙ num_odd l cs p m got.next d f k

pub pointed : (h : Head) (is : List Item) → length is < 8192 → (cs p : List ℕ) (i : ℕ) → added is + length cs + 1 ≤ 131070 → Pointed h is cs p i (point_at p i)
unfolding point_at base several hexes
pointed h is few cs p i g = ended h is few cs p i (scan 16 i (drop i p)) g (scanned (item h is adding) cs p i)

pub crowded : (h : Head) (is : List Item) → length is < 8192 → (cs p : List ℕ) (i : ℕ) → 131070 < added is + length cs + 1 → found (gap (item h is adding) cs) (drop i p) ≡ Refused (length is + 5)
unfolding line_no
crowded h is few cs p i g = go (scan (base (item h is adding)) i (drop i p)) (scanned (item h is adding) cs p i)
  where
    go : (r : Option Number) → Scanned (item h is adding) cs p i r → found (gap (item h is adding) cs) (drop i p) ≡ Refused (length is + 5)
    go None f = f
    go (Some got) (m, a, b, w, q, d) = q ∙ num_stop (item h is adding) cs p m got.next d (no_room h is few cs m g)
