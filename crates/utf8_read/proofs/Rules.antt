-- The grammar's rules as orders of numbers, both ways.
-- A test that holds is taken apart into its alternatives; the alternative that a first byte chooses makes the test hold. Assumes nothing.
use mathlib.Core.Path.{◌≡◌}
use mathlib.Core.Bool.{Bool, true, false, ◌&&◌, ◌||◌}
use mathlib.Core.Logic.{⊎_elim}
use Prim.Native.Nat.{ℕ, ◌≤◌, ◌<◌}
use native.Mathlib.Omega.{arith}
use native.Mathlib.Decide.{dec_lt}
use lib.Dec.{leb, eqb}
use borrow.Author.Tests.{le-leb, leb-true, eq-eqb, ne_eqb, eqb-true}
use Rattle.utf8_read.specs.Grammar.{range, tail, utf8_1, utf8_2, utf8_3, utf8_4}
use Rattle.room.proofs.Bools.{and_left, and_right}
use Rattle.utf8_read.proofs.Tests.{or_one, refuted}

pub record Within (first last b : ℕ) : Type 0 where
  pub low : first ≤ b
  pub high : b ≤ last

in_range : (first last b : ℕ) → range first last b ≡ true → Within first last b
in_range first last b e = record { low = leb-true first b (and_left (leb first b) (leb b last) e); high = leb-true b last (and_right (leb first b) (leb b last) e) }

range_in : (first last b : ℕ) → first ≤ b → b ≤ last → range first last b ≡ true
range_in first last b l h = rw (le-leb first b l) (le-leb b last h)

range_past : (first last b : ℕ) → last < b → range first last b ≡ false
range_past first last b h = refuted (range first last b) (λ e. omega (arith, (in_range first last b e).high))

pub in_tail : (b : ℕ) → tail b ≡ true → Within 0x80 0xbf b
unfolding tail
in_tail b e = in_range 0x80 0xbf b e

pub tail_in : (b : ℕ) → 0x80 ≤ b → b ≤ 0xbf → tail b ≡ true
unfolding tail
tail_in b l h = range_in 0x80 0xbf b l h

pub tail_below : (b : ℕ) → b < 0x80 → tail b ≡ false
tail_below b h = refuted (tail b) (λ e. omega (arith, (in_tail b e).low))

pub tail_above : (b : ℕ) → 0xc0 ≤ b → tail b ≡ false
tail_above b h = refuted (tail b) (λ e. omega (arith, (in_tail b e).high))

pub one_in : (a : ℕ) → a < 0x80 → utf8_1 a ≡ true
unfolding utf8_1
one_in a h = le-leb a 0x7f (omega arith)

pub in_one : (a : ℕ) → utf8_1 a ≡ true → a < 0x80
unfolding utf8_1
in_one a e = omega (arith, leb-true a 0x7f e)

pub record Two (a b : ℕ) : Type 0 where
  pub first : Within 0xc2 0xdf a
  pub second : Within 0x80 0xbf b

pub in_two : (a b : ℕ) → utf8_2 a b ≡ true → Two a b
unfolding utf8_2
in_two a b e = record { first = in_range 0xc2 0xdf a (and_left (range 0xc2 0xdf a) (tail b) e); second = in_tail b (and_right (range 0xc2 0xdf a) (tail b) e) }

pub two_in : (a b : ℕ) → 0xc2 ≤ a → a ≤ 0xdf → 0x80 ≤ b → b ≤ 0xbf → utf8_2 a b ≡ true
unfolding utf8_2
two_in a b al ah bl bh = rw (range_in 0xc2 0xdf a al ah) (tail_in b bl bh)

pub record Three (a b c : ℕ) : Type 0 where
  pub first : Within 0xe0 0xef a
  pub second : Within 0x80 0xbf b
  pub third : Within 0x80 0xbf c
  pub shortest : a ≡ 0xe0 → 0xa0 ≤ b
  pub plain : a ≡ 0xed → b ≤ 0x9f

three_of : (a b c a₁ a₂ b₁ b₂ : ℕ) (t u : Bool) → (t ≡ true → Within a₁ a₂ a) → (u ≡ true → Within b₁ b₂ b) → (t && (u && tail c)) ≡ true
    → (Within a₁ a₂ a) × (Within b₁ b₂ b) × (Within 0x80 0xbf c)
three_of a b c a₁ a₂ b₁ b₂ t u f g e =
    let p = and_right t (u && tail c) e in
    (f (and_left t (u && tail c) e), g (and_left u (tail c) p), in_tail c (and_right u (tail c) p))

only : (a n : ℕ) → eqb a n ≡ true → Within n n a
only a n e = omega (arith, eqb-true a n e)

pub in_three : (a b c : ℕ) → utf8_3 a b c ≡ true → Three a b c
unfolding utf8_3
in_three a b c e =
    ⊎_elim (λ t. let f = three_of a b c 0xe0 0xe0 0xa0 0xbf (eqb a 0xe0) (range 0xa0 0xbf b) (only a 0xe0) (in_range 0xa0 0xbf b) t in omega arith)
    (λ r. ⊎_elim (λ t. let f = three_of a b c 0xe1 0xec 0x80 0xbf (range 0xe1 0xec a) (tail b) (in_range 0xe1 0xec a) (in_tail b) t in omega arith)
    (λ r. ⊎_elim (λ t. let f = three_of a b c 0xed 0xed 0x80 0x9f (eqb a 0xed) (range 0x80 0x9f b) (only a 0xed) (in_range 0x80 0x9f b) t in omega arith)
    (λ t. let f = three_of a b c 0xee 0xef 0x80 0xbf (range 0xee 0xef a) (tail b) (in_range 0xee 0xef a) (in_tail b) t in omega arith)
    (or_one (eqb a 0xed && (range 0x80 0x9f b && tail c)) (range 0xee 0xef a && (tail b && tail c)) r))
    (or_one (range 0xe1 0xec a && (tail b && tail c)) ((eqb a 0xed && (range 0x80 0x9f b && tail c)) || (range 0xee 0xef a && (tail b && tail c))) r))
    (or_one (eqb a 0xe0 && (range 0xa0 0xbf b && tail c))
    ((range 0xe1 0xec a && (tail b && tail c)) || ((eqb a 0xed && (range 0x80 0x9f b && tail c)) || (range 0xee 0xef a && (tail b && tail c)))) e)

pub three_in : (a b c : ℕ) → Three a b c → utf8_3 a b c ≡ true
unfolding utf8_3
three_in a b c h =
    let tb = tail_in b h.second.low h.second.high in
    let tc = tail_in c h.third.low h.third.high in
    elim (dec_lt a 0xe1) [
      | yes l ↦
          let e : a ≡ 0xe0 = omega arith in
          rw (eq-eqb a 0xe0 e, range_in 0xa0 0xbf b (h.shortest e) h.second.high, tc)
      | no l ↦ elim (dec_lt a 0xed) [
        | yes m ↦ rw (ne_eqb a 0xe0 (omega arith), range_in 0xe1 0xec a (omega arith) (omega arith), tb, tc)
        | no m ↦ elim (dec_lt a 0xee) [
          | yes k ↦
              let e : a ≡ 0xed = omega arith in
              rw (ne_eqb a 0xe0 (omega arith), range_past 0xe1 0xec a (omega arith), eq-eqb a 0xed e, range_in 0x80 0x9f b h.second.low (h.plain e), tc)
          | no k ↦ rw (
            ne_eqb a 0xe0 (omega arith),
            range_past 0xe1 0xec a (omega arith),
            ne_eqb a 0xed (omega arith),
            range_in 0xee 0xef a
                (omega arith) h.first.high,
            tb,
            tc,
          )
        ]
      ]
    ]

pub record Four (a b c d : ℕ) : Type 0 where
  pub first : Within 0xf0 0xf4 a
  pub second : Within 0x80 0xbf b
  pub third : Within 0x80 0xbf c
  pub fourth : Within 0x80 0xbf d
  pub shortest : a ≡ 0xf0 → 0x90 ≤ b
  pub least : a ≡ 0xf4 → b ≤ 0x8f

four_of : (a b c d a₁ a₂ b₁ b₂ : ℕ) (t u : Bool) → (t ≡ true → Within a₁ a₂ a) → (u ≡ true → Within b₁ b₂ b) → (t && (u && (tail c && tail d))) ≡ true
    → (Within a₁ a₂ a) × (Within b₁ b₂ b) × (Within 0x80 0xbf c) × (Within 0x80 0xbf d)
four_of a b c d a₁ a₂ b₁ b₂ t u f g e =
    let p = and_right t (u && (tail c && tail d)) e in
    let q = and_right u (tail c && tail d) p in
    (f (and_left t (u && (tail c && tail d)) e), g (and_left u (tail c && tail d) p), in_tail c (and_left (tail c) (tail d) q), in_tail d (and_right (tail c) (tail d) q))

pub in_four : (a b c d : ℕ) → utf8_4 a b c d ≡ true → Four a b c d
unfolding utf8_4
in_four a b c d e =
    ⊎_elim (λ t. let f = four_of a b c d 0xf0 0xf0 0x90 0xbf (eqb a 0xf0) (range 0x90 0xbf b) (only a 0xf0) (in_range 0x90 0xbf b) t in omega arith)
    (λ r. ⊎_elim (λ t. let f = four_of a b c d 0xf1 0xf3 0x80 0xbf (range 0xf1 0xf3 a) (tail b) (in_range 0xf1 0xf3 a) (in_tail b) t in omega arith)
    (λ t. let f = four_of a b c d 0xf4 0xf4 0x80 0x8f (eqb a 0xf4) (range 0x80 0x8f b) (only a 0xf4) (in_range 0x80 0x8f b) t in omega arith)
    (or_one (range 0xf1 0xf3 a && (tail b && (tail c && tail d))) (eqb a 0xf4 && (range 0x80 0x8f b && (tail c && tail d))) r))
    (or_one (eqb a 0xf0 && (range 0x90 0xbf b && (tail c && tail d)))
    ((range 0xf1 0xf3 a && (tail b && (tail c && tail d))) || (eqb a 0xf4 && (range 0x80 0x8f b && (tail c && tail d)))) e)

pub four_in : (a b c d : ℕ) → Four a b c d → utf8_4 a b c d ≡ true
unfolding utf8_4
four_in a b c d h =
    let tb = tail_in b h.second.low h.second.high in
    let tc = tail_in c h.third.low h.third.high in
    let td = tail_in d h.fourth.low h.fourth.high in
    elim (dec_lt a 0xf1) [
      | yes l ↦
          let e : a ≡ 0xf0 = omega arith in
          rw (eq-eqb a 0xf0 e, range_in 0x90 0xbf b (h.shortest e) h.second.high, tc, td)
      | no l ↦ elim (dec_lt a 0xf4) [
        | yes m ↦ rw (ne_eqb a 0xf0 (omega arith), range_in 0xf1 0xf3 a (omega arith) (omega arith), tb, tc, td)
        | no m ↦
            let e : a ≡ 0xf4 = omega arith in
            rw (ne_eqb a 0xf0 (omega arith), range_past 0xf1 0xf3 a (omega arith), eq-eqb a 0xf4 e, range_in 0x80 0x8f b h.second.low (h.least e), tc, td)
      ]
    ]
