-- The leaves' definitions, one law for each way that the code takes through them.
-- Each opens the definition at the byte that is tested. Assumes nothing.
use Rattle.std.specs.Prelude.{Some, None}
use mathlib.Core.Path.{◌≡◌, refl, sym, ◌∙◌}
use mathlib.Core.Bool.{Bool, true, false}
use mathlib.Core.List.{List, ◌∷◌}
use Prim.Native.Nat.{ℕ, ◌+◌, ◌*◌, ◌≤◌, ◌<◌}
use native.Mathlib.Nat.{mul-le-mul}
use native.Mathlib.Numerals.{add-one}
use native.Mathlib.Omega.{arith}
use lib.ListN.{length, get_or, drop, drop_of_length-le, get_or-eq_default}
use lib.Seq.{drop-cons}
use lib.Dec.{eqb}
use borrow.Author.Tests.{lt-ltb, le-ltb, eq-eqb, ne_eqb}
use Rattle.edit_format.specs.Digits.{is_digit, value_of}
use Rattle.edit_format.proofs.DigitLaws.{value_test, value_of_lem}
use Rattle.room.specs.Choice.{pick}
use Rattle.numbers.specs.Points.{is_point}
use Rattle.edit_lines.specs.declared.Number.{Number}
use Rattle.edit_lines.specs.declared.Point.TheVariants.{More, Last}
use Rattle.edit_lines.specs.Scan.{cap, more, scan, closed_at, ended_at}

pub product_fits : {n m d : ℕ} → n ≤ 2000000 → m ≤ 16 → d ≤ 16 → n * m + d ≤ 32000016
product_fits h g f = let w = mul-le-mul h g in omega (arith, w)

is_digit_lem : (m b : ℕ) → m ≤ 16 → value_of b < m → is_digit m b ≡ true
is_digit_lem m b h g = sym (value_test m b h) ∙ lt-ltb (value_of b) m g

is_none : (m b : ℕ) → m ≤ 16 → m ≤ value_of b → is_digit m b ≡ false
is_none m b h g = sym (value_test m b h) ∙ le-ltb (value_of b) m g

pub at_byte : (p : List ℕ) (i : ℕ) → i < length p → drop i p ≡ get_or p i 0 ∷ drop (i + 1) p
at_byte p i h = rw (add-one i) (drop-cons p i 0 h)

module _ (p : List ℕ) (m i : ℕ) (small : m ≤ 16) where
  pub scan_end : length p ≤ i → scan m i (drop i p) ≡ None
  unfolding scan
  scan_end h = rw (drop_of_length-le p h)

  pub scan_none : i < length p → m ≤ value_of (get_or p i 0) → scan m i (drop i p) ≡ None
  unfolding scan
  scan_none h g = rw (at_byte p i h, is_none m (get_or p i 0) small g)

  pub scan_on : i < length p → value_of (get_or p i 0) < m → scan m i (drop i p) ≡ more m (value_of (get_or p i 0)) (i + 1) (drop (i + 1) p)
  unfolding scan
  scan_on h g = rw (at_byte p i h, is_digit_lem m (get_or p i 0) small g, value_of_lem m (get_or p i 0) small (is_digit_lem m (get_or p i 0) small g))

  pub more_end : (n : ℕ) → length p ≤ i → more m n i (drop i p) ≡ Some (record { value = n; next = i })
  unfolding more
  more_end n h = rw (drop_of_length-le p h)

  pub more_none : (n : ℕ) → i < length p → m ≤ value_of (get_or p i 0) → more m n i (drop i p) ≡ Some (record { value = n; next = i })
  unfolding more
  more_none n h g = rw (at_byte p i h, is_none m (get_or p i 0) small g)

  pub more_zero : (n : ℕ) → i < length p → value_of (get_or p i 0) < m → n ≡ 0 → more m n i (drop i p) ≡ None
  unfolding more
  more_zero n h g z = rw (at_byte p i h, is_digit_lem m (get_or p i 0) small g, eq-eqb n 0 z)

  pub more_on : (n : ℕ) → i < length p → value_of (get_or p i 0) < m → (n ≡ 0 → ⊥) → more m n i (drop i p) ≡ more m (cap (n * m + value_of (get_or p i 0))) (i + 1) (drop (i + 1) p)
  unfolding more
  more_on n h g z = rw (at_byte p i h, is_digit_lem m (get_or p i 0) small g, ne_eqb n 0 z, value_of_lem m (get_or p i 0) small (is_digit_lem m (get_or p i 0) small g))

-- past the end stands no LF and no space
past_end : (p : List ℕ) (i b : ℕ) → length p ≤ i → 0 < b → get_or p i 0 ≡ b → ⊥
past_end p i b h g e = let z = get_or-eq_default p 0 h in omega (arith, z)

module _ (p : List ℕ) (n : Number) where
  pub closes : get_or p n.next 0 ≡ 10 → Some (record { value = n.value; next = n.next + 1 }) ≡ closed_at p (Some n)
  unfolding closed_at
  closes e = rw (eq-eqb (get_or p n.next 0) 10 e)

  pub closes_not : (get_or p n.next 0 ≡ 10 → ⊥) → None ≡ closed_at p (Some n)
  unfolding closed_at
  closes_not e = rw (ne_eqb (get_or p n.next 0) 10 e)

  pub closes_past : length p ≤ n.next → None ≡ closed_at p (Some n)
  closes_past h = closes_not (past_end p n.next 10 h (omega arith))

  pub no_point : is_point n.value ≡ false → None ≡ ended_at p (Some n)
  unfolding ended_at
  no_point f = rw f

  pub ends_last : is_point n.value ≡ true → get_or p n.next 0 ≡ 10 → Some (Last n.value (n.next + 1)) ≡ ended_at p (Some n)
  unfolding ended_at
  ends_last f e = rw (f, eq-eqb (get_or p n.next 0) 10 e)

  pub ends_more : is_point n.value ≡ true → get_or p n.next 0 ≡ 32 → Some (More n.value (n.next + 1)) ≡ ended_at p (Some n)
  unfolding ended_at
  ends_more f e = rw (f, ne_eqb (get_or p n.next 0) 10 (λ z. omega arith), eq-eqb (get_or p n.next 0) 32 e)

  pub ends_not : (get_or p n.next 0 ≡ 10 → ⊥) → (get_or p n.next 0 ≡ 32 → ⊥) → None ≡ ended_at p (Some n)
  unfolding ended_at
  ends_not d e = go (is_point n.value)
    where
      go : (t : Bool) → None ≡ pick t (pick (eqb (get_or p n.next 0) 10) (Some (Last n.value (n.next + 1))) (pick (eqb (get_or p n.next 0) 32) (Some (More n.value (n.next + 1))) None)) None
      go true = rw (ne_eqb (get_or p n.next 0) 10 d, ne_eqb (get_or p n.next 0) 32 e)
      go false = refl

  pub ends_past : length p ≤ n.next → None ≡ ended_at p (Some n)
  ends_past h = ends_not (past_end p n.next 10 h (omega arith)) (past_end p n.next 32 h (omega arith))
