-- The digits of a code point, one after the other: what is left after k of them decides what was left at the first.
-- By the laws of a number's digits; a number that has passed the last code point stays past it. Assumes nothing.
use Rattle.std.specs.Prelude.{Some, None}
use mathlib.Core.Path.{◌≡◌, refl, sym, ap, ◌∙◌}
use mathlib.Core.Bool.{Bool, true, false}
use mathlib.Core.List.{List, [], ◌∷◌}
use Prim.Native.Nat.{ℕ, ◌+◌, ◌*◌, ◌^◌, ◌≤◌, ◌<◌}
use native.Mathlib.Nat.{pow-suc}
use native.Mathlib.Numerals.{add-one}
use native.Mathlib.Omega.{arith}
use native.Mathlib.Decide.{dec_lt, ℕ_discrete}
use lib.ListN.{length, get_or, drop, get_or-eq_default}
use lib.Dec.{eqb}
use borrow.Author.Tests.{eq-eqb, ne_eqb}
use Rattle.room.specs.Choice.{pick}
use Rattle.edit_format.specs.Digits.{digit_of, is_digit, value_of}
use Rattle.numbers.specs.Points.{is_point}
use Rattle.numbers.proofs.Points.{beyond}
use Rattle.edit_format.proofs.DigitLaws.{value_low}
use Rattle.edit_lines.specs.Scan.{cap, more, ended_at, point_at, Stands}
use Rattle.edit_lines.specs.declared.Number.{Number}
use Rattle.edit_lines.specs.declared.Point.TheVariants.{More, Last}
use Rattle.edit_lines.proofs.Leaves.{scan_end, scan_none, scan_on, more_end, more_none, more_zero, more_on}

-- past the end stands no digit
digit_in : (p : List ℕ) (i : ℕ) → value_of (get_or p i 0) < 16 → i < length p
digit_in p i h = elim (dec_lt i (length p)) [
  | yes g ↦ g
  | no g ↦ absurd (let k : length p ≤ i = omega arith in let w = rw (get_or-eq_default p 0 k, value_low 0 (omega arith)) at h in omega (arith, w))
]

ended_none : (p : List ℕ) → ended_at p None ≡ None
unfolding ended_at
ended_none p = refl

-- a number past the last code point stays past it
too_large : (p : List ℕ) (n i : ℕ) (bs : List ℕ) → 1114111 < n → ended_at p (more 16 n i bs) ≡ None
unfolding ended_at more
too_large p n i [] h = rw (beyond n h)
too_large p n i (b ∷ bs) h = go (is_digit 16 b) (too_large p (cap (n * 16 + digit_of b)) (i + 1) bs (omega arith))
  where
    go : (t : Bool) → ended_at p (more 16 (cap (n * 16 + digit_of b)) (i + 1) bs) ≡ None → ended_at p (pick t (pick (eqb n 0) None (more 16 (cap (n * 16 + digit_of b)) (i + 1) bs)) (Some (record { value = n; next = i }))) ≡ None
    go true f = rw (ne_eqb n 0 (λ e. omega arith)) f
    go false f = rw (beyond n h)

-- a byte that ends no code point
other : (p : List ℕ) (n i : ℕ) → (get_or p i 0 ≡ 10 → ⊥) → (get_or p i 0 ≡ 32 → ⊥) → ended_at p (Some (record { value = n; next = i })) ≡ None
unfolding ended_at
other p n i g h = go (is_point n)
  where
    go : (t : Bool) → pick t (pick (eqb (get_or p i 0) 10) (Some (Last n (i + 1))) (pick (eqb (get_or p i 0) 32) (Some (More n (i + 1))) None)) None ≡ None
    go true = rw (ne_eqb (get_or p i 0) 10 g, ne_eqb (get_or p i 0) 32 h)
    go false = refl

-- k digits were read, with the value n
pub record Digits (p : List ℕ) (at k n : ℕ) : Type 0 where
  pub some : 0 < k
  pub most : k ≤ 6
  pub small : n ≤ 1114111
  pub long : (n ≡ 0 → ⊥) → 16 ^ k ≤ n * 16
  pub same : point_at p at ≡ ended_at p (more 16 n (at + k) (drop (at + k) p))

module _ (p : List ℕ) (at : ℕ) where
  pub none : at < length p → 16 ≤ value_of (get_or p at 0) → point_at p at ≡ ended_at p None
  unfolding point_at
  none h g = rw (scan_none p 16 at (omega arith) h g)

  cut : length p ≤ at → point_at p at ≡ ended_at p None
  unfolding point_at
  cut h = rw (scan_end p 16 at (omega arith) h)

  pub first : value_of (get_or p at 0) < 16 → Digits p at 1 (value_of (get_or p at 0))
  unfolding point_at
  first g = record {
    some = omega arith;
    most = omega arith;
    small = omega arith;
    long = λ z. omega arith;
    same = ap (ended_at p) (scan_on p 16 at (omega arith) (digit_in p at g) g);
  }

module _ {p : List ℕ} {at k n : ℕ} (q : Digits p at k n) where
  pub further : k < 6 → value_of (get_or p (at + k) 0) < 16 → (n ≡ 0 → ⊥) → n ≤ 69631 → Digits p at (k + 1) (n * 16 + value_of (get_or p (at + k) 0))
  further h g z l =
      let v : ℕ = value_of (get_or p (at + k) 0) in
      let e : cap (n * 16 + v) ≡ n * 16 + v = omega arith in
      let s : at + k + 1 ≡ at + (k + 1) = omega arith in
      let w : 16 ^ k ≤ n * 16 = q.long z in
      let x : 16 ^ (k + 1) ≡ 16 ^ k * 16 = ap (λ (m : ℕ). 16 ^ m) (add-one k) ∙ pow-suc 16 k in
      record {
        some = omega arith;
        most = omega arith;
        small = omega arith;
        long = λ y. omega (arith, x, w);
        same = q.same ∙ ap (ended_at p) (more_on p 16 (at + k) (omega arith) n (digit_in p (at + k) g) g z ∙ rw (e, s));
      }

  pub after_zero : value_of (get_or p (at + k) 0) < 16 → n ≡ 0 → point_at p at ≡ ended_at p None
  after_zero g z = q.same ∙ ap (ended_at p) (more_zero p 16 (at + k) (omega arith) n (digit_in p (at + k) g) g z)

  pub after_last : value_of (get_or p (at + k) 0) < 16 → 69631 < n → point_at p at ≡ ended_at p None
  unfolding ended_at
  after_last g l =
      q.same ∙ ap (ended_at p) (more_on p 16 (at + k) (omega arith) n (digit_in p (at + k) g) g (λ e. omega arith))
      ∙ too_large p _ _ _ (omega arith)

  pub stops : 16 ≤ value_of (get_or p (at + k) 0) → point_at p at ≡ ended_at p (Some (record { value = n; next = at + k }))
  stops g = elim (dec_lt (at + k) (length p)) [
    | yes h ↦ q.same ∙ ap (ended_at p) (more_none p 16 (at + k) (omega arith) n h g)
    | no h ↦ q.same ∙ ap (ended_at p) (more_end p 16 (at + k) (omega arith) n (omega arith))
  ]

  seventh : k ≡ 6 → point_at p at ≡ ended_at p (Some (record { value = n; next = at + k }))
  seventh e = elim (dec_lt (value_of (get_or p (at + k) 0)) 16) [
    | no g ↦ stops (omega arith)
    | yes g ↦
        (elim (ℕ_discrete n 0) [
          | yes z ↦ after_zero g z
          | no z ↦ let w : 16 ^ 6 ≤ n * 16 = rw e at (q.long z) in after_last g (omega (arith, w))
        ])
        ∙ sym (other p n (at + k) (λ f. no_end 10 (omega arith) g f) (λ f. no_end 32 (omega arith) g f) ∙ sym (ended_none p))
  ]
    where
      no_end : (b : ℕ) → b < 48 → value_of (get_or p (at + k) 0) < 16 → get_or p (at + k) 0 ≡ b → ⊥
      no_end b l g f = (let w = rw (f, value_low b l) at g in omega (arith, w))

  -- a seventh digit makes it no code point
  pub six : k ≡ 6 → point_at p at ≡ ended_at p (Some (record { value = n; next = at + 6 }))
  six e = seventh e ∙ ap (λ (m : ℕ). ended_at p (Some (record { value = n; next = at + m }))) e

-- a code point that was judged
module _ (p : List ℕ) (at : ℕ) (good : Stands p at) where
  pub judged_first : value_of (get_or p at 0) < 16
  judged_first = elim (dec_lt (value_of (get_or p at 0)) 16) [
    | yes g ↦ g
    | no g ↦ absurd (elim (dec_lt at (length p)) [
      | yes h ↦ good (none p at h (omega arith) ∙ ended_none p)
      | no h ↦ good (cut p at (omega arith) ∙ ended_none p)
    ])
  ]

  pub judged_starts : at < length p
  judged_starts = digit_in p at judged_first

module _ {p : List ℕ} {at k n : ℕ} (good : Stands p at) (q : Digits p at k n) where
  pub judged_stops : get_or p (at + k) 0 < 48 → point_at p at ≡ ended_at p (Some (record { value = n; next = at + k }))
  judged_stops g = stops q (omega (arith, value_low (get_or p (at + k) 0) g))

  pub judged_digit : 48 ≤ get_or p (at + k) 0 → value_of (get_or p (at + k) 0) < 16
  judged_digit g = elim (dec_lt (value_of (get_or p (at + k) 0)) 16) [
    | yes h ↦ h
    | no h ↦ absurd (good (stops q (omega arith) ∙ other p n (at + k) (λ e. omega arith) (λ e. omega arith)))
  ]

  pub judged_further : k < 6 → 48 ≤ get_or p (at + k) 0 → Digits p at (k + 1) (n * 16 + value_of (get_or p (at + k) 0))
  judged_further h g = elim (ℕ_discrete n 0) [
    | yes z ↦ absurd (good (after_zero q (judged_digit g) z ∙ ended_none p))
    | no z ↦ elim (dec_lt 69631 n) [
      | yes l ↦ absurd (good (after_last q (judged_digit g) l ∙ ended_none p))
      | no l ↦ further q h (judged_digit g) z (omega arith)
    ]
  ]

  pub judged_in : at + k < length p
  judged_in = elim (dec_lt (at + k) (length p)) [
    | yes h ↦ h
    | no h ↦ absurd (good (past (omega arith)))
  ]
    where
      past : length p ≤ at + k → point_at p at ≡ None
      past h =
          let z : get_or p (at + k) 0 ≡ 0 = get_or-eq_default p 0 h in
          judged_stops (omega (arith, z)) ∙ other p n (at + k) (λ e. omega (arith, z, e)) (λ e. omega (arith, z, e))

-- the byte after it, a space or LF
module _ (p : List ℕ) (at : ℕ) (got : Number) (good : Stands p at) (e : point_at p at ≡ ended_at p (Some got)) where
  pub ends_in : got.next < length p
  ends_in = elim (dec_lt got.next (length p)) [
    | yes h ↦ h
    | no h ↦ absurd (good (e ∙ past (omega arith)))
  ]
    where
      past : length p ≤ got.next → ended_at p (Some got) ≡ None
      past h = let z : get_or p got.next 0 ≡ 0 = get_or-eq_default p 0 h in other p got.value got.next (λ f. omega (arith, z, f)) (λ f. omega (arith, z, f))

  point : is_point got.value ≡ true
  unfolding ended_at
  point = go (is_point got.value) refl
    where
      go : (t : Bool) → is_point got.value ≡ t → is_point got.value ≡ true
      go true f = f
      go false f = absurd (good (e ∙ rw f))

  pub ends_last : get_or p got.next 0 ≡ 10 → Some (Last got.value (got.next + 1)) ≡ point_at p at
  unfolding ended_at
  ends_last g = sym (e ∙ rw (point, eq-eqb (get_or p got.next 0) 10 g))

  pub ends_more : (get_or p got.next 0 ≡ 10 → ⊥) → Some (More got.value (got.next + 1)) ≡ point_at p at
  unfolding ended_at
  ends_more g = elim (ℕ_discrete (get_or p got.next 0) 32) [
    | yes f ↦ sym (e ∙ rw (point, ne_eqb (get_or p got.next 0) 10 g, eq-eqb (get_or p got.next 0) 32 f))
    | no f ↦ absurd (good (e ∙ other p got.value got.next g f))
  ]
