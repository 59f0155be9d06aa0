-- The digits of a line's number that was judged, one after the other: what is left at a place gives the number.
-- The number found is known, so every byte from 0 on is a digit, no digit makes it larger than it is found, and the first other byte is LF.
use Rattle.std.specs.Prelude.{Option, Some, None}
use mathlib.Core.Path.{◌≡◌, refl, sym, ◌∙◌, ap}
use mathlib.Core.Bool.{Bool, true, false}
use mathlib.Core.List.{List, [], ◌∷◌}
use Prim.Native.Nat.{ℕ, ◌+◌, ◌-◌, ◌*◌, ◌≤◌, ◌<◌}
use native.Mathlib.Omega.{arith}
use native.Mathlib.Decide.{dec_lt, ℕ_discrete}
use lib.ListN.{length, get_or, drop, get_or-eq_default}
use lib.Dec.{eqb}
use borrow.Author.Tests.{eqb-true, eq-eqb}
use Rattle.room.specs.Choice.{pick}
use Rattle.edit_format.specs.Tests.{begins}
use Rattle.edit_format.specs.Digits.{digit_of, is_digit, value_of}
use Rattle.edit_format.proofs.DigitLaws.{value_low, value_ten, value_gap, value_six, value_high}
use Rattle.edit_lines.specs.Scan.{cap, more, scan, closed_at, line_at, Closes}
use Rattle.edit_lines.specs.declared.Number.{Number}
use Rattle.edit_lines.proofs.Leaves.{scan_end, scan_none, scan_on, more_end, more_none, more_zero, more_on}

never : {A : Type 0} {got : Number} → None ≡ Some got → A
never e = let z : ◌≡◌ {A = ℕ} 0 1 = cc in absurd (omega arith)

same : {a b : Number} → Some a ≡ Some b → a ≡ b
same e = cc

value_of_same : {a b : Number} → Some a ≡ Some b → a.value ≡ b.value
value_of_same e = ap (λ (n : Number). n.value) (same e)

-- a decimal digit is one of ten bytes
ten_only : (b : ℕ) → value_of b < 10 → (48 ≤ b) × (b < 58)
ten_only b h = elim (dec_lt b 48) [
  | yes a ↦ absurd (omega (arith, value_low b a))
  | no a ↦ elim (dec_lt b 58) [
    | yes c ↦ (omega arith, c)
    | no c ↦ elim (dec_lt b 97) [
      | yes d ↦ absurd (omega (arith, value_gap b (omega arith) d))
      | no d ↦ elim (dec_lt b 103) [
        | yes e ↦ absurd (omega (arith, value_six b (omega arith) e))
        | no e ↦ absurd (omega (arith, value_high b (omega arith)))
      ]
    ]
  ]
]

-- a number only grows
grows : (n i : ℕ) (bs : List ℕ) {got : Number} → n ≤ 2000000 → more 10 n i bs ≡ Some got → n ≤ got.value
unfolding more
grows n i [] {got} h e = omega (arith, value_of_same e)
grows n i (b ∷ bs) {got} h e = go (is_digit 10 b) (eqb n 0) (grows (cap (n * 10 + digit_of b)) (i + 1) bs (omega arith)) e
  where
    go : (t u : Bool) → (more 10 (cap (n * 10 + digit_of b)) (i + 1) bs ≡ Some got → cap (n * 10 + digit_of b) ≤ got.value)
        → pick t (pick u None (more 10 (cap (n * 10 + digit_of b)) (i + 1) bs)) (Some (record { value = n; next = i })) ≡ Some got → n ≤ got.value
    go true true f e = never e
    go true false f e = let w : cap (n * 10 + digit_of b) ≤ got.value = f e in omega arith
    go false u f e = omega (arith, value_of_same e)

-- a number with LF after it
closes : (p : List ℕ) (r : Option Number) {got : Number} → closed_at p r ≡ Some got → (k : ℕ) × (r ≡ Some (record { value = got.value; next = k })) × (get_or p k 0 ≡ 10)
unfolding closed_at
closes p None e = never e
closes p (Some n) {got} e = go (eqb (get_or p n.next 0) 10) refl e
  where
    go : (t : Bool) → eqb (get_or p n.next 0) 10 ≡ t → pick t (Some (record { value = n.value; next = n.next + 1 })) None ≡ Some got → (k : ℕ) × (Some n ≡ Some (record { value = got.value; next = k })) × (get_or p k 0 ≡ 10)
    go true f e = (n.next, ap (λ (x : ℕ). Some (record { value = x; next = n.next })) (value_of_same e), eqb-true (get_or p n.next 0) 10 f)
    go false f e = never e

-- a line's key, and its number
pub line_parts : (k p : List ℕ) (at : ℕ) {got : Number} → line_at k p at ≡ Some got
    → (begins k (drop at p) ≡ true) × (closed_at p (scan 10 (at + length k) (drop (at + length k) p)) ≡ Some got)
unfolding line_at
line_parts k p at {got} e = go (begins k (drop at p)) refl e
  where
    go : (t : Bool) → begins k (drop at p) ≡ t → pick t (closed_at p (scan 10 (at + length k) (drop (at + length k) p))) None ≡ Some got
        → (begins k (drop at p) ≡ true) × (closed_at p (scan 10 (at + length k) (drop (at + length k) p)) ≡ Some got)
    go true f e = (f, e)
    go false f e = never e

-- n was read up to place i
pub record Reads (p : List ℕ) (at n i : ℕ) : Type 0 where
  pub small : n ≤ 65535
  pub same : scan 10 at (drop at p) ≡ more 10 n i (drop i p)

module _ {p : List ℕ} {at : ℕ} (a : Closes p at) where
  end : (k : ℕ) × (scan 10 at (drop at p) ≡ Some (record { value = a.number.value; next = k })) × (get_or p k 0 ≡ 10)
  end = closes p (scan 10 at (drop at p)) a.closed

  pub starts : at < length p
  starts = elim (dec_lt at (length p)) [
    | yes h ↦ h
    | no h ↦ never (sym (scan_end p 10 at (omega arith) (omega arith)) ∙ end.1)
  ]

  first_small : value_of (get_or p at 0) < 10
  first_small = elim (dec_lt (value_of (get_or p at 0)) 10) [
    | yes h ↦ h
    | no h ↦ never (sym (scan_none p 10 at (omega arith) starts (omega arith)) ∙ end.1)
  ]

  first_digit : (48 ≤ get_or p at 0) × (get_or p at 0 < 58)
  first_digit = ten_only (get_or p at 0) first_small

  pub first_low : 48 ≤ get_or p at 0
  first_low = first_digit.0

  pub first_read : Reads p at (get_or p at 0 - 48) (at + 1)
  first_read =
      let e = value_ten (get_or p at 0) first_digit.0 first_digit.1 in
      record { small = omega (arith, first_digit.1); same = scan_on p 10 at (omega arith) starts first_small ∙ rw e }

  module _ {n i : ℕ} (q : Reads p at n i) where
    -- the number ends here
    here : ◌≡◌ {A = Option Number} (Some (record { value = n; next = i })) (Some (record { value = a.number.value; next = end.0 })) → (get_or p i 0 ≡ 10) × (closed_at p (scan 10 at (drop at p)) ≡ Some (record { value = n; next = i + 1 }))
    unfolding closed_at
    here e =
        let l : get_or p i 0 ≡ 10 = rw (ap (λ (n : Number). n.next) (same e)) end.2 in
        (l, rw (end.1 ∙ sym e, eq-eqb (get_or p i 0) 10 l))

    pub inside : i < length p
    inside = elim (dec_lt i (length p)) [
      | yes h ↦ h
      | no h ↦
          let k : length p ≤ i = omega arith in
          let l = (here (sym (more_end p 10 i (omega arith) n k) ∙ (sym q.same ∙ end.1))).0 in
          absurd (omega (arith, l, get_or-eq_default p 0 k))
    ]

    no_digit : 10 ≤ value_of (get_or p i 0) → (get_or p i 0 ≡ 10) × (closed_at p (scan 10 at (drop at p)) ≡ Some (record { value = n; next = i + 1 }))
    no_digit g = here (sym (more_none p 10 i (omega arith) n inside g) ∙ (sym q.same ∙ end.1))

    pub ends : get_or p i 0 < 48 → closed_at p (scan 10 at (drop at p)) ≡ Some (record { value = n; next = i + 1 })
    ends g = (no_digit (omega (arith, value_low (get_or p i 0) g))).1

    digit_small : 48 ≤ get_or p i 0 → value_of (get_or p i 0) < 10
    digit_small g = elim (dec_lt (value_of (get_or p i 0)) 10) [
      | yes h ↦ h
      | no h ↦ absurd (let l = (no_digit (omega arith)).0 in omega (arith, l))
    ]

    pub digit_most : 48 ≤ get_or p i 0 → get_or p i 0 < 58
    digit_most g = (ten_only (get_or p i 0) (digit_small g)).1

    pub goes_on : 48 ≤ get_or p i 0 → Reads p at (n * 10 + (get_or p i 0 - 48)) (i + 1)
    goes_on g = elim (ℕ_discrete n 0) [
      | yes z ↦ never (sym (more_zero p 10 i (omega arith) n inside (digit_small g) z) ∙ (sym q.same ∙ end.1))
      | no z ↦
          let v : value_of (get_or p i 0) ≡ get_or p i 0 - 48 = value_ten (get_or p i 0) g (digit_most g) in
          let e : scan 10 at (drop at p) ≡ more 10 (cap (n * 10 + (get_or p i 0 - 48))) (i + 1) (drop (i + 1) p) =
          rw v at (q.same ∙ more_on p 10 i (omega arith) n inside (digit_small g) z)
          in
          let m : cap (n * 10 + (get_or p i 0 - 48)) ≤ a.number.value = grows _ (i + 1) (drop (i + 1) p) (omega arith) (sym e ∙ end.1) in
          let c : cap (n * 10 + (get_or p i 0 - 48)) ≡ n * 10 + (get_or p i 0 - 48) = omega (arith, a.small) in
          record { small = omega (arith, a.small); same = rw c at e }
    ]
