-- Runs of bytes put one after the other: a byte, a line, code points.
-- Each is `placed_more` once; the loop says what is put and what is left of the whole. Assumes nothing.
use mathlib.Core.Path.{◌≡◌, refl, sym, ap, ◌∙◌}
use mathlib.Core.List.{List, [], ◌∷◌, ◌++◌, append_assoc, append-nil}
use Prim.Native.Nat.{ℕ, suc, ◌+◌, ◌/◌, ◌%◌, ◌≤◌, ◌<◌}
use native.Mathlib.Numerals.{add-one}
use native.Mathlib.Omega.{arith}
use lib.ListN.{length, get_or, drop, take, set, length-append, length-set}
use lib.Seq.{set_split}
use Rattle.room.specs.Placed.{placed, Put}
use Rattle.room.proofs.Placing.{put_none, placed_length, placed_more}
use Rattle.edit_format.specs.Digits.{digit, digits}
use Rattle.edit_format.specs.Items.{Add}
use Rattle.edit_format.specs.Written.{points, number_line, add_key, item_line}
use Rattle.written_lines.specs.Lengths.{further, last_two}
use Rattle.edit_format.proofs.DigitLaws.{digits_one, digits_last}
use Rattle.written_lines.proofs.Numbers.{one_digit}
use Rattle.written_lines.proofs.Counting.{line_length, add_length, points_further, next_point, no_point}

pub put_length : {s d d₁ : List ℕ} {at a : ℕ} → Put s d at d₁ a → at + length s ≤ length d → length d₁ ≡ length d
put_length {s} {d} {d₁} {at} p h = ap length p.stands ∙ placed_length d at s h

pub put_then : {s t d d₁ d₂ : List ℕ} {at a b : ℕ} → at ≤ length d → Put s d at d₁ a → Put t d₁ a d₂ b → Put (s ++ t) d at d₂ b
put_then {s} {t} {d} {d₁} {d₂} {at} {a} {b} h p q = record {
  next = omega (arith, p.next, q.next, length-append s t);
  stands = q.stands ∙ ap (λ (l : List ℕ). placed l a t) p.stands ∙ ap (λ (n : ℕ). placed (placed d at s) n t) p.next ∙ placed_more d at s t h;
}

one_byte : (d : List ℕ) (a v : ℕ) → a < length d → Put (v ∷ []) d a (set d a v) (a + 1)
unfolding placed
one_byte d a v h = record { next = refl; stands = set_split d a v h ∙ rw (add-one a) (sym (append_assoc (take a d) (v ∷ []) (drop (suc a) d))) }

pub put_byte : {s d d₁ : List ℕ} {at a : ℕ} (v : ℕ) → Put s d at d₁ a → at + length s < length d → Put (s ++ v ∷ []) d at (set d₁ a v) (a + 1)
put_byte {s} {d} {d₁} {at} {a} v p h = put_then (omega arith) p (one_byte d₁ a v (omega (arith, put_length p (omega arith), p.next)))

-- the place of the next byte
pub next_in : {s d d₁ : List ℕ} {at a : ℕ} → Put s d at d₁ a → at + length s < length d → a < length d₁
next_in p h = omega (arith, put_length p (omega arith), p.next)

-- a number of one digit
pub one_put : (m : ℕ) (d : List ℕ) (at c : ℕ) → c < m → at + length (digits m c) ≤ length d → Put (digits m c) d at (set d at (digit c)) (at + 1)
one_put m d at c h g = rw (digits_one m c h) (one_byte d at (digit c) (omega (arith, one_digit m c h)))

-- numbers in hexadecimal, two digits at a time
pub pair_put : (d : List ℕ) (at c : ℕ) → at + 2 ≤ length d → Put (last_two c) d at (set (set d at (digit (c / 16 % 16))) (at + 1) (digit (c % 16))) (at + 2)
unfolding last_two
pair_put d at c h =
    let p = put_byte (digit (c % 16)) (one_byte d at (digit (c / 16 % 16)) (omega arith)) (omega arith) in
    record { next = refl; stands = p.stands }

pub two_hex : (c : ℕ) → 16 ≤ c → c < 256 → digits 16 c ≡ last_two c
unfolding last_two
two_hex c g h =
    let e : c / 16 % 16 ≡ c / 16 = omega arith in
    digits_last 16 c (omega arith) g ∙ rw (digits_one 16 (c / 16) (omega arith), e)

pub two_in : (c : ℕ) → 16 ≤ c → c < 256 → (at l : ℕ) → at + length (digits 16 c) ≤ l → at + 2 ≤ l
unfolding last_two
two_in c g h at l f = omega (arith, ap length (two_hex c g h))

more_hex : (c : ℕ) → 256 ≤ c → digits 16 c ≡ digits 16 (c / 256) ++ last_two c
unfolding last_two
more_hex c h =
    let e : c / 256 ≡ c / 16 / 16 = omega arith in
    digits_last 16 c (omega arith) (omega arith)
    ∙ rw (digits_last 16 (c / 16) (omega arith) (omega arith), e) (append_assoc (digits 16 (c / 16 / 16)) (digit (c / 16 % 16) ∷ []) (digit (c % 16) ∷ []))

length_two : (c : ℕ) → length (last_two c) ≡ 2
unfolding last_two
length_two c = refl

hex_split : (c : ℕ) → 256 ≤ c → length (digits 16 c) ≡ length (digits 16 (c / 256)) + 2
hex_split c h = omega (arith, ap length (more_hex c h), length-append (digits 16 (c / 256)) (last_two c), length_two c)

pub front_in : (c : ℕ) → 256 ≤ c → (at l : ℕ) → at + length (digits 16 c) ≤ l → at + length (digits 16 (c / 256)) ≤ l
front_in c h at l g = omega (arith, hex_split c h)

module _ (c : ℕ) (big : 256 ≤ c) {d d₁ : List ℕ} {at a : ℕ} (fits : at + length (digits 16 c) ≤ length d) (p : Put (digits 16 (c / 256)) d at d₁ a) where
  pub pair_in : a + 2 ≤ length d₁
  pair_in = omega (arith, hex_split c big, p.next, put_length p (front_in c big at (length d) fits))

  pub hex_put : {d₂ : List ℕ} {b : ℕ} → Put (last_two c) d₁ a d₂ b → Put (digits 16 c) d at d₂ b
  hex_put q = rw (more_hex c big) (put_then (omega arith) p q)

pub put_number_line : (k : List ℕ) (n : ℕ) {d d₁ d₂ : List ℕ} {at a b : ℕ} → at + length (number_line k n) ≤ length d → Put k d at d₁ a → Put (digits 10 n) d₁ a d₂ b → Put (number_line k n) d at (set d₂ b 10) (b + 1)
unfolding number_line
put_number_line k n h p q = put_byte 10 (put_then (omega arith) p q) (omega (arith, length-append k (digits 10 n), length-append (k ++ digits 10 n) (10 ∷ [])))

module _ (k : List ℕ) (n : ℕ) {d d₁ : List ℕ} {at a : ℕ} (h : at + length (number_line k n) ≤ length d) (p : Put k d at d₁ a) where
  pub digits_in : a + length (digits 10 n) ≤ length d₁
  digits_in = omega (arith, line_length k n, p.next, put_length p (omega (arith, line_length k n)))

  both_put : {d₂ : List ℕ} {b : ℕ} → Put (digits 10 n) d₁ a d₂ b → Put (k ++ digits 10 n) d at d₂ b
  both_put q = put_then (omega (arith, line_length k n)) p q

  pub lf_in : {d₂ : List ℕ} {b : ℕ} → Put (digits 10 n) d₁ a d₂ b → b < length d₂
  lf_in q = next_in (both_put q) (omega (arith, line_length k n, length-append k (digits 10 n)))

  pub line_long : {d₂ : List ℕ} {b : ℕ} → Put (digits 10 n) d₁ a d₂ b → length (set d₂ b 10) ≡ length d
  line_long {d₂} {b} q = length-set d₂ b 10 ∙ put_length (both_put q) (omega (arith, line_length k n, length-append k (digits 10 n)))

module _ (cs : List ℕ) {d d₁ : List ℕ} {at a : ℕ} (h : at + length (item_line (Add cs)) ≤ length d) (p : Put add_key d at d₁ a) where
  pub points_in : a + length (points cs) ≤ length d₁
  points_in = omega (arith, add_length cs, p.next, put_length p (omega (arith, add_length cs)))

  both_points : {d₂ : List ℕ} {b : ℕ} → Put (points cs) d₁ a d₂ b → Put (add_key ++ points cs) d at d₂ b
  both_points q = put_then (omega (arith, add_length cs)) p q

  pub add_lf_in : {d₂ : List ℕ} {b : ℕ} → Put (points cs) d₁ a d₂ b → b < length d₂
  add_lf_in q = next_in (both_points q) (omega (arith, add_length cs, length-append add_key (points cs)))

  pub add_long : {d₂ : List ℕ} {b : ℕ} → Put (points cs) d₁ a d₂ b → length (set d₂ b 10) ≡ length d
  add_long {d₂} {b} q = length-set d₂ b 10 ∙ put_length (both_points q) (omega (arith, add_length cs, length-append add_key (points cs)))

pub put_add_line : (cs : List ℕ) {d d₁ d₂ : List ℕ} {at a b : ℕ} → at + length (item_line (Add cs)) ≤ length d → Put add_key d at d₁ a → Put (points cs) d₁ a d₂ b → Put (item_line (Add cs)) d at (set d₂ b 10) (b + 1)
unfolding item_line
put_add_line cs h p q = put_byte 10 (put_then (omega arith) p q) (omega (arith, length-append add_key (points cs), length-append (add_key ++ points cs) (10 ∷ [])))

pub record Pointing (t d : List ℕ) (at : ℕ) (o : List ℕ) (k i : ℕ) : Type 0 where
  pub done : List ℕ
  pub put : Put done d at o k
  pub whole : further t ≡ done ++ further (drop i t)
  pub same : length o ≡ length d

pub points_begin : (t d : List ℕ) (at : ℕ) → Pointing t d at d at 0
points_begin t d at = record { done = []; put = put_none d at; whole = refl; same = refl }

module _ {t d : List ℕ} {at : ℕ} {o : List ℕ} {k i : ℕ} (p : Pointing t d at o k i) (fits : at + length (further t) ≤ length d) where
  left : i < length t → at + length p.done + 1 + length (digits 16 (get_or t i 0)) ≤ length d
  left h = omega (arith, simp length-append at (ap length p.whole), simp length-append at (ap length (next_point t i h)))

  pub space_in : i < length t → k < length o
  space_in h = next_in p.put (omega (arith, left h))

  pub point_in : i < length t → k + 1 + length (digits 16 (get_or t i 0)) ≤ length (set o k 32)
  point_in h = rw (length-set o k 32) (omega (arith, left h, p.put.next, p.same))

  pub points_more : {o' : List ℕ} {k' : ℕ} → i < length t → Put (digits 16 (get_or t i 0)) (set o k 32) (k + 1) o' k' → Pointing t d at o' k' (i + 1)
  points_more {o'} {k'} h q =
      let s = put_then (omega (arith, left h)) (put_byte 32 p.put (omega (arith, left h))) q in
      record {
        done = (p.done ++ 32 ∷ []) ++ digits 16 (get_or t i 0);
        put = s;
        whole = p.whole ∙ ap (λ (l : List ℕ). p.done ++ l) (next_point t i h) ∙ sym (append_assoc (p.done ++ 32 ∷ []) (digits 16 (get_or t i 0)) (further (drop (i + 1) t)) ∙ append_assoc p.done (32 ∷ []) (digits 16 (get_or t i 0) ++ further (drop (i + 1) t)));
        same = put_length s (omega (arith, left h, length-append (p.done ++ 32 ∷ []) (digits 16 (get_or t i 0)), length-append p.done (32 ∷ [])));
      }

  pub points_end : length t ≤ i → Put (further t) d at o k
  points_end h = rw (p.whole, no_point t i h, append-nil p.done) p.put

-- the first code point, and the others after it
pub no_points : (d : List ℕ) (at : ℕ) → Put (points []) d at d at
unfolding points
no_points d at = put_none d at

module _ (x : ℕ) (xs d : List ℕ) (at : ℕ) (g : at + length (points (x ∷ xs)) ≤ length d) where
  split : length (points (x ∷ xs)) ≡ length (digits 16 x) + length (further xs)
  split = ap length (points_further x xs) ∙ length-append (digits 16 x) (further xs)

  pub first_in : at + length (digits 16 x) ≤ length d
  first_in = omega (arith, split)

  module _ {d₁ : List ℕ} {a : ℕ} (p : Put (digits 16 x) d at d₁ a) where
    pub further_in : a + length (further xs) ≤ length d₁
    further_in = omega (arith, split, p.next, put_length p first_in)

    pub all_points_lem : {d₂ : List ℕ} {b : ℕ} → Put (further xs) d₁ a d₂ b → Put (points (x ∷ xs)) d at d₂ b
    all_points_lem {d₂} {b} q = rw (points_further x xs) (put_then (omega arith) p q)

    pub points_long : {d₂ : List ℕ} {b : ℕ} → Put (further xs) d₁ a d₂ b → length d₂ ≡ length d
    points_long q = put_length (all_points_lem q) g
