-- Bytes that each fit after the three before them are good sequences, from a place where none is open to another.
-- By the first byte of a sequence, whose tails are then due; `Fit` is what a test of one place says. Assumes nothing.
use mathlib.Core.Path.{◌≡◌, refl, sym, ap, ◌∙◌, subst}
use mathlib.Core.Bool.{Bool, true, false, not, ◌&&◌, ◌||◌, beq, or-true}
use mathlib.Core.List.{List}
use Prim.Native.Nat.{ℕ, zero, suc, ◌+◌, ◌-◌, ◌≤◌, ◌<◌}
use native.Mathlib.Omega.{arith}
use native.Mathlib.Decide.{dec_lt}
use lib.ListN.{length, get_or, drop}
use lib.Dec.{ltb, leb, eqb}
use borrow.Author.Tests.{le-leb, lt-leb, leb-false, ltb-false, eq-eqb, ne_eqb}
use Rattle.utf8_read.specs.Grammar.{tail}
use Rattle.utf8_read.specs.Reading.{good_from}
use Rattle.utf8_read.specs.Window.{misfit, Local, Clean, Ascii}
use Rattle.room.proofs.Choices.{never}
use Rattle.utf8_read.proofs.Tests.{or_none}
use Rattle.utf8_read.proofs.Rules.{in_tail, tail_in, tail_below}
use Rattle.utf8_read.proofs.Sequences.{At, fits}
use Rattle.utf8_read.proofs.Steps.{next_good}

record Fit (a b c d : ℕ) : Type 0 where
  same : tail d ≡ (leb 0xc0 c || leb 0xe0 b || leb 0xf0 a)
  lead : 0xc0 ≤ d → 0xc2 ≤ d
  most : d ≤ 0xf4
  after_e0 : c ≡ 0xe0 → 0xa0 ≤ d
  after_ed : c ≡ 0xed → d ≤ 0x9f
  after_f0 : c ≡ 0xf0 → 0x90 ≤ d
  after_f4 : c ≡ 0xf4 → d ≤ 0x8f

not_differs : (a b : Bool) → not (beq a b) ≡ false → a ≡ b
not_differs true true e = refl
not_differs true false e = never e
not_differs false true e = never e
not_differs false false e = refl

-- a joint test that fails, with its first part true
second : (a b : Bool) → (a && b) ≡ false → a ≡ true → b ≡ false
second true b e h = e
second false b e h = never (sym h)

fit : (a b c d : ℕ) → misfit a b c d ≡ false → Fit a b c d
unfolding misfit
fit a b c d e =
    let e₆ = or_none _ (eqb c 0xf4 && leb 0x90 d) e in
    let e₅ = or_none _ (eqb c 0xf0 && ltb d 0x90) e₆.0 in
    let e₄ = or_none _ (eqb c 0xed && leb 0xa0 d) e₅.0 in
    let e₃ = or_none _ (eqb c 0xe0 && ltb d 0xa0) e₄.0 in
    let e₂ = or_none _ (leb 0xf5 d) e₃.0 in
    let e₁ = or_none (not (beq (tail d) (leb 0xc0 c || leb 0xe0 b || leb 0xf0 a))) (leb 0xc0 d && ltb d 0xc2) e₂.0 in
    record {
      same = not_differs (tail d) (leb 0xc0 c || leb 0xe0 b || leb 0xf0 a) e₁.0;
      lead = λ h. ltb-false d 0xc2 (second (leb 0xc0 d) (ltb d 0xc2) e₁.1 (le-leb 0xc0 d h));
      most = omega (arith, leb-false 0xf5 d e₂.1);
      after_e0 = λ h. ltb-false d 0xa0 (second (eqb c 0xe0) (ltb d 0xa0) e₃.1 (eq-eqb c 0xe0 h));
      after_ed = λ h. omega (arith, leb-false 0xa0 d (second (eqb c 0xed) (leb 0xa0 d) e₄.1 (eq-eqb c 0xed h)));
      after_f0 = λ h. ltb-false d 0x90 (second (eqb c 0xf0) (ltb d 0x90) e₅.1 (eq-eqb c 0xf0 h));
      after_f4 = λ h. omega (arith, leb-false 0x90 d (second (eqb c 0xf4) (leb 0x90 d) e₆.1 (eq-eqb c 0xf4 h)));
    }

module _ {a b c d : ℕ} (f : Fit a b c d) where
  quiet : c < 0xc0 → b < 0xe0 → a < 0xf0 → tail d ≡ false
  quiet hc hb ha = f.same ∙ rw (lt-leb 0xc0 c hc, lt-leb 0xe0 b hb, lt-leb 0xf0 a ha)

  due_2 : 0xc0 ≤ c → tail d ≡ true
  due_2 h = f.same ∙ rw (le-leb 0xc0 c h)

  due_3 : 0xe0 ≤ b → tail d ≡ true
  due_3 h = f.same ∙ rw (le-leb 0xe0 b h, or-true)

  due_4 : 0xf0 ≤ a → tail d ≡ true
  due_4 h = f.same ∙ rw (le-leb 0xf0 a h) (or-true (leb 0xc0 c || leb 0xe0 b))

  open_none : tail d ≡ false → (c < 0xc0) × (b < 0xe0) × (a < 0xf0)
  open_none e =
      let o₁ = or_none (leb 0xc0 c || leb 0xe0 b) (leb 0xf0 a) (sym f.same ∙ e) in
      let o₂ = or_none (leb 0xc0 c) (leb 0xe0 b) o₁.0 in
      (leb-false 0xc0 c o₂.0, leb-false 0xe0 b o₂.1, leb-false 0xf0 a o₁.1)

byte : (s : List ℕ) (i j n : ℕ) → j ≡ i → get_or s i 0 < n → get_or s j 0 < n
byte s i j n e h = subst (λ (k : ℕ). get_or s k 0 < n) (sym e) h

-- what a sequence ends is not open any more
pub clean_next : {s : List ℕ} {p l : ℕ} → At s p l → Clean s p → Clean s (p + l)
clean_next {s} {p} (At.one a m) c = record {
  one = λ j e. byte s p j 0xc0 (omega arith) (omega arith);
  two = λ j e. omega (arith, c.one j (omega arith));
  three = λ j e. omega (arith, c.two j (omega arith));
}
clean_next {s} {p} (At.two a m) c = record {
  one = λ j e. byte s (p + 1) j 0xc0 (omega arith) (omega arith);
  two = λ j e. byte s p j 0xe0 (omega arith) (omega arith);
  three = λ j e. omega (arith, c.one j (omega arith));
}
clean_next {s} {p} (At.three a m) c = record {
  one = λ j e. byte s (p + 2) j 0xc0 (omega arith) (omega arith);
  two = λ j e. byte s (p + 1) j 0xe0 (omega arith) (omega arith);
  three = λ j e. byte s p j 0xf0 (omega arith) (omega arith);
}
clean_next {s} {p} (At.four a m) c = record {
  one = λ j e. byte s (p + 3) j 0xc0 (omega arith) (omega arith);
  two = λ j e. byte s (p + 2) j 0xe0 (omega arith) (omega arith);
  three = λ j e. byte s (p + 1) j 0xf0 (omega arith) (omega arith);
}

pub clean_start : (s : List ℕ) → Clean s 0
clean_start s = record { one = λ j e. absurd (omega arith); two = λ j e. absurd (omega arith); three = λ j e. absurd (omega arith) }

fit_at :
    (s : List ℕ) (p e : ℕ) → Local s p e → (w x y z : ℕ) → x ≡ w + 1 → y ≡ w + 2 → z ≡ w + 3 → p ≤ z → z < e
    → Fit (get_or s w 0) (get_or s x 0) (get_or s y 0) (get_or s z 0)
fit_at s p e loc w x y z ex ey ez l h = rw (ex, ey, ez) (fit _ _ _ _ (loc w (omega arith) (omega arith)))

-- where none is open a byte that fits is no tail
pub starts_here : (s : List ℕ) (p e : ℕ) → 3 ≤ p → p < e → Local s p e → Clean s p → tail (get_or s p 0) ≡ false
starts_here s p e h l loc c =
    quiet (fit_at s p e loc (p - 3) (p - 2) (p - 1) p (omega arith) (omega arith) (omega arith) (omega arith) l)
    (c.one (p - 1) (omega arith)) (c.two (p - 2) (omega arith)) (c.three (p - 3) (omega arith))

-- and where a byte that fits is no tail none is open
pub clean_here : (s : List ℕ) (q p e : ℕ) → 3 ≤ p → q ≤ p → p < e → Local s q e → tail (get_or s p 0) ≡ false → Clean s p
clean_here s q p e h g l loc t =
    let o = open_none (fit_at s q e loc (p - 3) (p - 2) (p - 1) p (omega arith) (omega arith) (omega arith) g l) t in
    record {
      one = λ j e. byte s (p - 1) j 0xc0 (omega arith) o.0;
      two = λ j e. byte s (p - 2) j 0xe0 (omega arith) o.1;
      three = λ j e. byte s (p - 3) j 0xf0 (omega arith) o.2;
    }

record Stands (s : List ℕ) (p e : ℕ) : Type 0 where
  long : ℕ
  there : At s p long
  short : p + long ≤ e

module _ (s : List ℕ) (p e : ℕ) (h : 3 ≤ p) (m : e ≤ length s) (loc : Local s p e) (ends : Clean s e) where
  -- a byte with as many tails as are due before e stands with them before e
  one_more : p < e → 0xc0 ≤ get_or s p 0 → p + 1 < e
  one_more l a = elim (dec_lt (p + 1) e) [ yes k ↦ k | no k ↦ absurd (omega (arith, ends.one p (omega arith))) ]

  two_more : p + 1 < e → 0xe0 ≤ get_or s p 0 → p + 2 < e
  two_more l a = elim (dec_lt (p + 2) e) [ yes k ↦ k | no k ↦ absurd (omega (arith, ends.two p (omega arith))) ]

  three_more : p + 2 < e → 0xf0 ≤ get_or s p 0 → p + 3 < e
  three_more l a = elim (dec_lt (p + 3) e) [ yes k ↦ k | no k ↦ absurd (omega (arith, ends.three p (omega arith))) ]

  stand : p < e → Clean s p → Stands s p e
  stand l c =
      let f₀ = fit_at s p e loc (p - 3) (p - 2) (p - 1) p (omega arith) (omega arith) (omega arith) (omega arith) l in
      let t₀ = starts_here s p e h l loc c in
      elim (dec_lt (get_or s p 0) 0x80) [
        | yes a ↦ record { long = 1; there = At.one a (omega arith); short = omega arith }
        | no a ↦ elim (dec_lt (get_or s p 0) 0xc0) [
          | yes b ↦ never (sym (tail_in (get_or s p 0) (omega arith) (omega arith)) ∙ t₀)
          | no b ↦
              let l₁ = one_more l (omega arith) in
              let f₁ = fit_at s p e loc (p - 2) (p - 1) p (p + 1) (omega arith) (omega arith) (omega arith) (omega arith) l₁ in
              let t₁ = in_tail (get_or s (p + 1) 0) (due_2 f₁ (omega arith)) in
              let a₀ = f₀.lead (omega arith) in
              elim (dec_lt (get_or s p 0) 0xe0) [
                | yes d ↦ record { long = 2; there = At.two (record { first = omega arith; second = t₁ }) (omega arith); short = omega arith }
                | no d ↦
                    let l₂ = two_more l₁ (omega arith) in
                    let f₂ = fit_at s p e loc (p - 1) p (p + 1) (p + 2) (omega arith) (omega arith) (omega arith) (omega arith) l₂ in
                    let t₂ = in_tail (get_or s (p + 2) 0) (due_3 f₂ (omega arith)) in
                    elim (dec_lt (get_or s p 0) 0xf0) [
                      | yes g ↦ record {
                        long = 3;
                        there = At.three (record { first = omega arith; second = t₁; third = t₂; shortest = f₁.after_e0; plain = f₁.after_ed }) (omega arith);
                        short = omega arith;
                      }
                      | no g ↦
                          let l₃ = three_more l₂ (omega arith) in
                          let f₃ = fit_at s p e loc p (p + 1) (p + 2) (p + 3) refl refl refl (omega arith) l₃ in
                          let t₃ = in_tail (get_or s (p + 3) 0) (due_4 f₃ (omega arith)) in
                          let a₁ = f₀.most in
                          record {
                            long = 4;
                            there = At.four (record
                                { first = omega arith; second = t₁; third = t₂; fourth = t₃; shortest = f₁.after_f0; least = f₁.after_f4 })
                                (omega arith);
                            short = omega arith;
                          }
                    ]
              ]
        ]
      ]

walk :
    (f : ℕ) (s : List ℕ) (p e : ℕ) → 3 ≤ p → e ≤ p + f → p ≤ e → e ≤ length s → Local s p e → Clean s p → Clean s e
    → p + good_from 0 (drop p s) ≡ e + good_from 0 (drop e s)
walk zero s p e h g l m loc c ends = ap (λ (n : ℕ). n + good_from 0 (drop n s)) (let q : p ≡ e = omega arith in q)
walk (suc f) s p e h g l m loc c ends = elim (dec_lt p e) [
  | yes k ↦
      let t = stand s p e h m loc ends k c in
      let w = fits t.there in
      next_good t.there
      ∙ walk f s (p + t.long) e (omega arith) (omega arith) t.short m (λ j a b. loc j (omega arith) b) (clean_next t.there c) ends
  | no k ↦ ap (λ (n : ℕ). n + good_from 0 (drop n s)) (let q : p ≡ e = omega arith in q)
]

pub walked : (s : List ℕ) (p e : ℕ) → 3 ≤ p → p ≤ e → e ≤ length s → Local s p e → Clean s p → Clean s e → p + good_from 0 (drop p s) ≡ e + good_from 0 (drop e s)
walked s p e h l m loc c ends = walk e s p e h (omega arith) l m loc c ends

pub local_none : (s : List ℕ) (a : ℕ) → Local s a a
local_none s a j l h = absurd (omega arith)

pub local_join : (s : List ℕ) (a b c : ℕ) → Local s a b → Local s b c → Local s a c
local_join s a b c f g j l h = elim (dec_lt (j + 3) b) [ yes k ↦ f j l k | no k ↦ g j (omega arith) h ]

plain : (a b c d : ℕ) → a < 0x80 → b < 0x80 → c < 0x80 → d < 0x80 → misfit a b c d ≡ false
unfolding misfit
plain a b c d ha hb hc hd =
    rw (
      tail_below d hd,
      lt-leb 0xc0 c (omega arith),
      lt-leb 0xe0 b (omega arith),
      lt-leb 0xf0 a (omega arith),
      lt-leb 0xc0 d (omega arith),
      lt-leb 0xf5 d (omega arith),
      ne_eqb c 0xe0 (omega arith),
      ne_eqb c 0xed (omega arith),
      ne_eqb c 0xf0 (omega arith),
      ne_eqb c 0xf4 (omega arith),
    )

pub ascii_local : (s : List ℕ) (a e : ℕ) → Ascii s a (e + 3) → Local s (a + 3) (e + 3)
ascii_local s a e f j l h = plain _ _ _ _ (f j (omega arith) (omega arith)) (f (j + 1) (omega arith) (omega arith))
    (f (j + 2) (omega arith) (omega arith)) (f (j + 3) (omega arith) (omega arith))
