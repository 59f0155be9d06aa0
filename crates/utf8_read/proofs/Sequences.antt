-- The sequence that stands at a place of the bytes: one of four kinds, each with its bytes' orders; and what follows where it does not.
-- The grammar's choices are gone through once, by `shown`; everything else goes by the kind. Assumes nothing.
use mathlib.Core.Path.{◌≡◌, refl, ap, ◌∙◌, subst}
use mathlib.Core.List.{List, [], ◌∷◌}
use Prim.Native.Nat.{ℕ, zero, suc, ◌+◌, ◌%◌, ◌≤◌, ◌<◌}
use native.Mathlib.Omega.{arith}
use native.Mathlib.Nat.{add-zero}
use native.Mathlib.Numerals.{add-one}
use lib.ListN.{length, get_or, take, drop, length-drop}
use lib.Seq.{drop-cons, get_or-drop}
use Rattle.utf8_read.specs.Grammar.{utf8_1, utf8_2, utf8_3, utf8_4, from_2, from_3, from_4, utf8_char}
use Rattle.utf8_read.specs.Table.{decode, more}
use Rattle.room.proofs.Choices.{pick_elim}
use Rattle.utf8_read.proofs.Tests.{refuted}
use Rattle.utf8_read.proofs.Rules.{Two, Three, Four, one_in, in_one, in_two, in_three, three_in, in_four, four_in, two_in}

-- a sequence of l bytes stands at a place
pub data At (s : List ℕ) (at : ℕ) : ℕ → Type 0 where
  one : get_or s at 0 < 0x80 → at + 1 ≤ length s → At s at 1
  two : Two (get_or s at 0) (get_or s (at + 1) 0) → at + 2 ≤ length s → At s at 2
  three : Three (get_or s at 0) (get_or s (at + 1) 0) (get_or s (at + 2) 0) → at + 3 ≤ length s → At s at 3
  four : Four (get_or s at 0) (get_or s (at + 1) 0) (get_or s (at + 2) 0) (get_or s (at + 3) 0) → at + 4 ≤ length s → At s at 4

abbrev Shown : List ℕ → ℕ → Type 0
Shown q zero = Unit {0}
Shown q (suc k) = At q 0 (suc k)

shown_4 : (a b c : ℕ) (s : List ℕ) → Shown (a ∷ b ∷ c ∷ s) (from_4 a b c s)
unfolding from_4
shown_4 a b c [] = tt
shown_4 a b c (d ∷ s) = pick_elim (Shown (a ∷ b ∷ c ∷ d ∷ s)) (utf8_4 a b c d) (λ e. four (in_four a b c d e) (omega arith)) (λ _. tt)

shown_3 : (a b : ℕ) (s : List ℕ) → Shown (a ∷ b ∷ s) (from_3 a b s)
unfolding from_3
shown_3 a b [] = tt
shown_3 a b (c ∷ s) = pick_elim (Shown (a ∷ b ∷ c ∷ s)) (utf8_3 a b c) (λ e. three (in_three a b c e) (omega arith)) (λ _. shown_4 a b c s)

shown_2 : (a : ℕ) (s : List ℕ) → Shown (a ∷ s) (from_2 a s)
unfolding from_2
shown_2 a [] = tt
shown_2 a (b ∷ s) = pick_elim (Shown (a ∷ b ∷ s)) (utf8_2 a b) (λ e. two (in_two a b e) (omega arith)) (λ _. shown_3 a b s)

shown : (q : List ℕ) → Shown q (utf8_char q)
unfolding utf8_char
shown [] = tt
shown (a ∷ s) = pick_elim (Shown (a ∷ s)) (utf8_1 a) (λ e. one (in_one a e) (omega arith)) (λ _. shown_2 a s)

-- a place of what is left from a place on is a place of the whole
shifted : (s : List ℕ) (at l : ℕ) → at ≤ length s → At (drop at s) 0 l → At s at l
shifted s at _ h (one a m) = one (rw (get_or-drop, add-zero) at a) (omega (arith, length-drop at s))
shifted s at _ h (two a m) = two (rw (get_or-drop, add-zero, get_or-drop) at a) (omega (arith, length-drop at s))
shifted s at _ h (three a m) = three (rw (get_or-drop, add-zero, get_or-drop, get_or-drop) at a) (omega (arith, length-drop at s))
shifted s at _ h (four a m) = four (rw (get_or-drop, add-zero, get_or-drop, get_or-drop, get_or-drop) at a) (omega (arith, length-drop at s))

pub found : (s : List ℕ) (at k : ℕ) → at ≤ length s → utf8_char (drop at s) ≡ suc k → At s at (suc k)
found s at k h e = shifted s at (suc k) h (subst (Shown (drop at s)) e (shown (drop at s)))

-- the bytes from a place on, the first ones by name
front : (s : List ℕ) (p q : ℕ) → q ≡ p + 1 → p < length s → drop p s ≡ get_or s p 0 ∷ drop q s
front s p q e h = rw (e, add-one) (drop-cons s p 0 h)

pub front_1 : (s : List ℕ) (at : ℕ) → at + 1 ≤ length s → drop at s ≡ get_or s at 0 ∷ drop (at + 1) s
front_1 s at h = front s at (at + 1) refl (omega arith)

pub front_2 : (s : List ℕ) (at : ℕ) → at + 2 ≤ length s → drop at s ≡ get_or s at 0 ∷ get_or s (at + 1) 0 ∷ drop (at + 2) s
front_2 s at h = front_1 s at (omega arith) ∙ ap (λ (t : List ℕ). get_or s at 0 ∷ t) (front s (at + 1) (at + 2) (omega arith) (omega arith))

pub front_3 : (s : List ℕ) (at : ℕ) → at + 3 ≤ length s → drop at s ≡ get_or s at 0 ∷ get_or s (at + 1) 0 ∷ get_or s (at + 2) 0 ∷ drop (at + 3) s
front_3 s at h = front_2 s at (omega arith) ∙ ap (λ (t : List ℕ). get_or s at 0 ∷ get_or s (at + 1) 0 ∷ t) (front s (at + 2) (at + 3) (omega arith) (omega arith))

pub front_4 : (s : List ℕ) (at : ℕ) → at + 4 ≤ length s → drop at s ≡ get_or s at 0 ∷ get_or s (at + 1) 0 ∷ get_or s (at + 2) 0 ∷ get_or s (at + 3) 0 ∷ drop (at + 4) s
front_4 s at h =
    front_3 s at (omega arith)
    ∙ ap (λ (t : List ℕ). get_or s at 0 ∷ get_or s (at + 1) 0 ∷ get_or s (at + 2) 0 ∷ t) (front s (at + 3) (at + 4) (omega arith) (omega arith))

char_1 : (a : ℕ) (s : List ℕ) → a < 0x80 → utf8_char (a ∷ s) ≡ 1
unfolding utf8_char
char_1 a s h = rw (one_in a h)

char_2 : (a b : ℕ) (s : List ℕ) → Two a b → utf8_char (a ∷ b ∷ s) ≡ 2
unfolding utf8_char from_2
char_2 a b s h = rw (refuted (utf8_1 a) (λ e. omega (arith, in_one a e)), two_in a b h.first.low h.first.high h.second.low h.second.high)

char_3 : (a b c : ℕ) (s : List ℕ) → Three a b c → utf8_char (a ∷ b ∷ c ∷ s) ≡ 3
unfolding utf8_char from_2 from_3
char_3 a b c s h = rw (refuted (utf8_1 a) (λ e. omega (arith, in_one a e)), refuted (utf8_2 a b) (λ e. omega (arith, in_two a b e)), three_in a b c h)

char_4 : (a b c d : ℕ) (s : List ℕ) → Four a b c d → utf8_char (a ∷ b ∷ c ∷ d ∷ s) ≡ 4
unfolding utf8_char from_2 from_3 from_4
char_4 a b c d s h =
    rw (
      refuted (utf8_1 a) (λ e. omega (arith, in_one a e)),
      refuted (utf8_2 a b) (λ e. omega (arith, in_two a b e)),
      refuted (utf8_3 a b c) (λ e. omega (arith, (in_three a b c e).first)),
      four_in a b c d h,
    )

pub stands : {s : List ℕ} {at l : ℕ} → At s at l → utf8_char (drop at s) ≡ l
stands {s} {at} (one a m) = rw (front_1 s at m) (char_1 _ _ a)
stands {s} {at} (two a m) = rw (front_2 s at m) (char_2 _ _ _ a)
stands {s} {at} (three a m) = rw (front_3 s at m) (char_3 _ _ _ _ a)
stands {s} {at} (four a m) = rw (front_4 s at m) (char_4 _ _ _ _ _ a)

-- where no kind fits, none stands
pub none : (s : List ℕ) (at : ℕ) → at ≤ length s → ((l : ℕ) → At s at l → ⊥) → utf8_char (drop at s) ≡ 0
none s at h not = go (utf8_char (drop at s)) refl
  where
    go : (k : ℕ) → utf8_char (drop at s) ≡ k → utf8_char (drop at s) ≡ 0
    go zero e = e
    go (suc k) e = absurd (not (suc k) (found s at k h e))

pub record Fits (s : List ℕ) (at l : ℕ) : Type 0 where
  pub least : 1 ≤ l
  pub most : l ≤ 4
  pub ends : at + l ≤ length s

pub fits : {s : List ℕ} {at l : ℕ} → At s at l → Fits s at l
fits (one a m) = omega arith
fits (two a m) = omega arith
fits (three a m) = omega arith
fits (four a m) = omega arith

-- the number of the sequence at a place
pub value_1 : (s : List ℕ) (at : ℕ) → at + 1 ≤ length s → decode (take 1 (drop at s)) ≡ get_or s at 0
unfolding decode
value_1 s at h = rw (front_1 s at h)

pub value_2 : (s : List ℕ) (at : ℕ) → at + 2 ≤ length s → decode (take 2 (drop at s)) ≡ more (get_or s at 0 % 32) (get_or s (at + 1) 0)
unfolding decode
value_2 s at h = rw (front_2 s at h)

pub value_3 : (s : List ℕ) (at : ℕ) → at + 3 ≤ length s → decode (take 3 (drop at s)) ≡ more (more (get_or s at 0 % 16) (get_or s (at + 1) 0)) (get_or s (at + 2) 0)
unfolding decode
value_3 s at h = rw (front_3 s at h)

pub value_4 : (s : List ℕ) (at : ℕ) → at + 4 ≤ length s → decode (take 4 (drop at s)) ≡ more
    (more (more (get_or s at 0 % 8) (get_or s (at + 1) 0)) (get_or s (at + 2) 0)) (get_or s (at + 3) 0)
unfolding decode
value_4 s at h = rw (front_4 s at h)
