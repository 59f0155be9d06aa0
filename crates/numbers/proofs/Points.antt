-- Where a number is a code point and where it is none, and what a code point is below and past.
-- One law for each of the four ranges; the rest by which range it would be in. Assumes nothing.
use Prim.Native.Nat.{ℕ, ◌/◌, ◌≤◌, ◌<◌}
use mathlib.Core.Path.{◌≡◌, sym, subst, ◌∙◌}
use mathlib.Core.Bool.{true, false}
use native.Mathlib.Decide.{dec_lt}
use native.Mathlib.Omega.{arith}
use lib.Dec.{T}
use borrow.Author.Tests.{lt-ltb, le-ltb, le-leb, lt-leb}
use Rattle.numbers.specs.Points.{is_point}

module _ (x : ℕ) where
  pub point_low : x < 0xd800 → is_point x ≡ true
  unfolding is_point
  point_low h = rw (lt-ltb x 0xd800 h)

  pub point_high : 0xe000 ≤ x → x ≤ 0x10ffff → is_point x ≡ true
  unfolding is_point
  point_high g h = rw (le-ltb x 0xd800 (omega arith), le-leb 0xe000 x g, le-leb x 0x10ffff h)

  -- surrogates are the twenty-eighth 2,048 numbers
  pub point_but : (x / 0x800 ≡ 27 → ⊥) → x ≤ 0x10ffff → is_point x ≡ true
  point_but g h = elim (dec_lt x 0xd800) [
    | yes l ↦ point_low l
    | no l ↦ elim (dec_lt x 0xe000) [ yes m ↦ absurd (g (omega arith)) | no m ↦ point_high (omega arith) h ]
  ]

  pub surrogate : 0xd800 ≤ x → x < 0xe000 → is_point x ≡ false
  unfolding is_point
  surrogate g h = rw (le-ltb x 0xd800 g, lt-leb 0xe000 x h)

  pub beyond : 0x10ffff < x → is_point x ≡ false
  unfolding is_point
  beyond h = rw (le-ltb x 0xd800 (omega arith), le-leb 0xe000 x (omega arith), lt-leb x 0x10ffff h)

  both_ways : {A : Type 0} → is_point x ≡ true → is_point x ≡ false → A
  both_ways e f = absurd (subst T (sym e ∙ f) tt)

  pub point_most : is_point x ≡ true → x ≤ 0x10ffff
  point_most e = elim (dec_lt 0x10ffff x) [ yes h ↦ both_ways e (beyond h) | no h ↦ omega arith ]

  -- a code point that is not below the surrogates is past them
  pub point_past : is_point x ≡ true → 0xd800 ≤ x → 0xe000 ≤ x
  point_past e g = elim (dec_lt x 0xe000) [ yes h ↦ both_ways e (surrogate g h) | no h ↦ omega arith ]
