-- Numbers written from their last digit: the width's loop, a store before a run, and the digits' loop.
-- Both loops take `digits_last` apart, one digit a turn. Assumes nothing.
use mathlib.Core.Path.{◌≡◌, refl, sym, ap, ◌∙◌}
use mathlib.Core.List.{List, [], ◌∷◌, ◌++◌, append_assoc, append-nil}
use Prim.Native.Nat.{ℕ, zero, suc, ◌+◌, ◌-◌, ◌*◌, ◌/◌, ◌%◌, ◌≤◌, ◌<◌}
use native.Mathlib.Numerals.{add-one}
use native.Mathlib.Omega.{arith}
use native.Mathlib.Decide.{dec_lt}
use lib.ListN.{length, take, drop, get_or, set, length-append, length-set}
use lib.Seq.{take-suc, set_at, length-take-le}
use lib.Dec.{ltb}
use borrow.Author.Tests.{lt-ltb, le-ltb}
use Rattle.room.specs.Placed.{placed, Put}
use Rattle.edit_format.specs.Digits.{digit, digits, digits_in}
use Rattle.room.proofs.Choices.{pick_elim}
use Rattle.edit_format.proofs.DigitLaws.{digits_one, digits_last}
use Rattle.room.proofs.Placing.{placed_none}

length_in : (f m n : ℕ) → length (digits_in f m n) ≤ f + 1
unfolding digits_in
length_in zero m n = omega arith
length_in (suc f) m n = pick_elim (λ (l : List ℕ). length l ≤ suc f + 1) (ltb n m) (λ e. omega arith) (λ e. omega (arith, length-append (digits_in f m (n / m)) (digit (n % m) ∷ []), length_in f m (n / m)))

-- a number has no more digits than one more than itself
pub few_digits : (m n : ℕ) → length (digits m n) ≤ n + 1
unfolding digits
few_digits m n = length_in n m n

pub one_digit : (m n : ℕ) → n < m → length (digits m n) ≡ 1
one_digit m n h = rw (digits_one m n h)

pub one_less : (m n : ℕ) → 1 < m → m ≤ n → length (digits m n) ≡ length (digits m (n / m)) + 1
one_less m n h g = ap length (digits_last m n h g) ∙ length-append (digits m (n / m)) (digit (n % m) ∷ [])

-- how many decimal digits a number has, by its size
pub one_ten : (n : ℕ) → n < 10 → 1 ≡ length (digits 10 n)
one_ten n h = sym (one_digit 10 n h)

pub tens_2 : (n : ℕ) → 10 ≤ n → n < 100 → 2 ≡ length (digits 10 n)
tens_2 n g h = omega (arith, one_less 10 n (omega arith) g, one_digit 10 (n / 10) (omega arith))

pub tens_3 : (n : ℕ) → 100 ≤ n → n < 1000 → 3 ≡ length (digits 10 n)
tens_3 n g h = omega (arith, one_less 10 n (omega arith) (omega arith), tens_2 (n / 10) (omega arith) (omega arith))

pub tens_4 : (n : ℕ) → 1000 ≤ n → n < 10000 → 4 ≡ length (digits 10 n)
tens_4 n g h = omega (arith, one_less 10 n (omega arith) (omega arith), tens_3 (n / 10) (omega arith) (omega arith))

pub tens_5 : (n : ℕ) → 10000 ≤ n → n < 100000 → 5 ≡ length (digits 10 n)
tens_5 n g h = omega (arith, one_less 10 n (omega arith) (omega arith), tens_4 (n / 10) (omega arith) (omega arith))

-- one more than without the last
pub ten_less : (n : ℕ) → 10 ≤ n → 1 + length (digits 10 (n / 10)) ≡ length (digits 10 n)
ten_less n g = omega (arith, one_less 10 n (omega arith) g)

-- and five more than what is left without the last five
pub five_less : (n : ℕ) → 100000 ≤ n → 5 + length (digits 10 (n / 100000)) ≡ length (digits 10 n)
five_less n g =
    let a : n / 10 / 10 ≡ n / 100 = omega arith in
    let b : n / 100 / 10 ≡ n / 1000 = omega arith in
    let c : n / 1000 / 10 ≡ n / 10000 = omega arith in
    let d : n / 10000 / 10 ≡ n / 100000 = omega arith in
    omega (
      arith,
      one_less 10 n (omega arith) (omega arith),
      one_less 10 (n / 10) (omega arith) (omega arith),
      rw a at (one_less 10 (n / 10) (omega arith) (omega arith)),
      rw b at (one_less 10 (n / 100) (omega arith) (omega arith)),
      rw c at (one_less 10 (n / 1000) (omega arith) (omega arith)),
      rw d at (one_less 10 (n / 10000) (omega arith) (omega arith)),
    )

-- the bytes of digits as sums
pub decimal_digit : (d : ℕ) → d < 10 → d + 48 ≡ digit d
unfolding digit
decimal_digit d h = rw (lt-ltb d 10 h)

pub hex_digit : (d : ℕ) → d < 16 → d + 48 + (d + 6) / 16 * 39 ≡ digit d
unfolding digit
hex_digit d h = elim (dec_lt d 10) [ yes g ↦ rw (lt-ltb d 10 g) (omega arith) | no g ↦ rw (le-ltb d 10 (omega arith)) (omega arith) ]

some_digit : (n : ℕ) → 1 ≤ length (digits 10 n)
some_digit n = elim (dec_lt n 10) [
  | yes g ↦ omega (arith, one_digit 10 n g)
  | no g ↦ omega (arith, one_less 10 n (omega arith) (omega arith))
]

-- a store just before a run makes it longer
store_before : (d tail : List ℕ) (j v : ℕ) → j < length d → set (placed d (j + 1) tail) j v ≡ placed d j (v ∷ tail)
unfolding placed
store_before d tail j v h =
    let e : j + suc (length tail) ≡ suc j + length tail = omega arith in
    rw (add-one, e, take-suc d j 0 h, append_assoc (take j d) (get_or d j 0 ∷ []) tail, append_assoc (take j d) (get_or d j 0 ∷ tail) (drop (suc j + length tail) d), append_assoc (take j d) (v ∷ tail) (drop (suc j + length tail) d))
    (set_at (take j d) (get_or d j 0) (tail ++ drop (suc j + length tail) d) v j (length-take-le j d (omega arith)))

-- the digits of a number from the last on: those behind the place k are put, those of m are left
pub record Digiting (d : List ℕ) (at n : ℕ) (o : List ℕ) (m k : ℕ) : Type 0 where
  pub tail : List ℕ
  pub whole : digits 10 n ≡ digits 10 m ++ tail
  pub place : k + 1 ≡ at + length (digits 10 m)
  pub room : o ≡ placed d (k + 1) tail
  pub same : length o ≡ length d

pub starts : (d : List ℕ) (at n : ℕ) {k : ℕ} → k ≡ at + length (digits 10 n) - 1 → Digiting d at n d n k
starts d at n e = record { tail = []; whole = sym (append-nil (digits 10 n)); place = omega (arith, some_digit n); room = sym (placed_none d _); same = refl }

pub ends_behind : (at n : ℕ) → 0 < at + length (digits 10 n)
ends_behind at n = omega (arith, some_digit n)

module _ {d : List ℕ} {at n : ℕ} {o : List ℕ} {m k : ℕ} (s : Digiting d at n o m k) (fits : at + length (digits 10 n) ≤ length d) where
  pub inside : k < length o
  inside = omega (arith, s.place, s.same, simp length-append at (ap length s.whole))

  pub before : 10 ≤ m → 0 < k
  before g = omega (arith, s.place, one_less 10 m (omega arith) g, some_digit (m / 10))

  stored : (v : ℕ) → set o k v ≡ placed d k (v ∷ s.tail)
  stored v = ap (λ (l : List ℕ). set l k v) s.room ∙ store_before d s.tail k v (omega (arith, inside, s.same))

  pub goes_on : 10 ≤ m → Digiting d at n (set o k (digit (m % 10))) (m / 10) (k - 1)
  goes_on g =
      let e : k - 1 + 1 ≡ k = omega (arith, before g) in
      record {
        tail = digit (m % 10) ∷ s.tail;
        whole = s.whole ∙ ap (λ (l : List ℕ). l ++ s.tail) (digits_last 10 m (omega arith) g) ∙ append_assoc (digits 10 (m / 10)) (digit (m % 10) ∷ []) s.tail;
        place = omega (arith, s.place, one_less 10 m (omega arith) g);
        room = rw e (stored (digit (m % 10)));
        same = length-set o k (digit (m % 10)) ∙ s.same;
      }

  pub ends : {e : ℕ} → m < 10 → e ≡ at + length (digits 10 n) → Put (digits 10 n) d at (set o k (digit m)) e
  ends {e} g f =
      let j : k ≡ at = omega (arith, s.place, one_digit 10 m g) in
      record { next = f; stands = stored (digit m) ∙ ap (λ (i : ℕ). placed d i (digit m ∷ s.tail)) j ∙ ap (λ (l : List ℕ). placed d at l) (sym (s.whole ∙ ap (λ (l : List ℕ). l ++ s.tail) (digits_one 10 m g))) }
