-- What the one bits at the top of a first byte say of the sequence that it begins.
-- The count is gone through once, by `leads`; the kinds of a sequence by their first byte. Assumes nothing.
use mathlib.Core.Path.{◌≡◌, subst, refl}
use mathlib.Core.Bool.{true}
use mathlib.Core.List.{List}
use Prim.Native.Nat.{ℕ, zero, suc, ◌+◌, ◌≤◌, ◌<◌}
use native.Mathlib.Omega.{arith}
use lib.Dec.{ltb}
use lib.ListN.{length, get_or}
use borrow.Author.Tests.{ltb-true, ltb-false}
use Rattle.utf8_read.specs.Grammar.{utf8_2, utf8_3, utf8_4}
use Rattle.utf8_read.specs.Window.{ones}
use Rattle.room.proofs.Choices.{pick_elim}
use Rattle.utf8_read.proofs.Rules.{Within, two_in, three_in, four_in}
use Rattle.utf8_read.proofs.Sequences.{At}

abbrev pub Lead : ℕ → ℕ → Type 0
Lead b zero = b < 0x80
Lead b (suc zero) = Within 0x80 0xbf b
Lead b (suc (suc zero)) = Within 0xc0 0xdf b
Lead b (suc (suc (suc zero))) = Within 0xe0 0xef b
Lead b (suc (suc (suc (suc zero)))) = Within 0xf0 0xf7 b
Lead b (suc (suc (suc (suc (suc n))))) = 0xf8 ≤ b

leads : (b : ℕ) → Lead b (ones b)
unfolding ones
leads b =
    pick_elim (Lead b) (ltb b 128) (λ e. ltb-true b 128 e)
    (λ e₀. pick_elim (Lead b) (ltb b 192) (λ e. omega (arith, ltb-false b 128 e₀, ltb-true b 192 e))
    (λ e₁. pick_elim (Lead b) (ltb b 224) (λ e. omega (arith, ltb-false b 192 e₁, ltb-true b 224 e))
    (λ e₂. pick_elim (Lead b) (ltb b 240) (λ e. omega (arith, ltb-false b 224 e₂, ltb-true b 240 e))
    (λ e₃. pick_elim (Lead b) (ltb b 248) (λ e. omega (arith, ltb-false b 240 e₃, ltb-true b 248 e))
    (λ e₄. pick_elim (Lead b) (ltb b 252) (λ e. ltb-false b 248 e₄)
    (λ e₅. pick_elim (Lead b) (ltb b 254) (λ e. ltb-false b 248 e₄)
    (λ e₆. pick_elim (Lead b) (ltb b 255) (λ e. ltb-false b 248 e₄) (λ e. ltb-false b 248 e₄))))))))

pub lead : (b n : ℕ) → ones b ≡ n → Lead b n
lead b n e = subst (Lead b) e (leads b)

-- "0 means one byte, 2 to 4 that many, any other count is bad"
pub says_1 : {s : List ℕ} {at l : ℕ} → At s at l → Lead (get_or s at 0) 0 → l ≡ 1
says_1 (At.one a m) h = refl
says_1 (At.two a m) h = absurd (omega arith)
says_1 (At.three a m) h = absurd (omega arith)
says_1 (At.four a m) h = absurd (omega arith)

pub record Says (s : List ℕ) (at l n : ℕ) (t : Type 0) : Type 0 where
  pub long : l ≡ n
  pub ends : at + n ≤ length s
  pub test : t

pub says_2 : {s : List ℕ} {at l : ℕ} → At s at l → Lead (get_or s at 0) 2 → Says s at l 2 (utf8_2 (get_or s at 0) (get_or s (at + 1) 0) ≡ true)
says_2 (At.one a m) h = absurd (omega arith)
says_2 (At.two a m) h = record { long = refl; ends = m; test = two_in _ _ a.first.low a.first.high a.second.low a.second.high }
says_2 (At.three a m) h = absurd (omega arith)
says_2 (At.four a m) h = absurd (omega arith)

pub says-3 :
    {s : List ℕ} {at l : ℕ} → At s at l → Lead (get_or s at 0) 3
    → Says s at l 3 (utf8_3 (get_or s at 0) (get_or s (at + 1) 0) (get_or s (at + 2) 0) ≡ true)
says-3 (At.one a m) h = absurd (omega arith)
says-3 (At.two a m) h = absurd (omega arith)
says-3 (At.three a m) h = record { long = refl; ends = m; test = three_in _ _ _ a }
says-3 (At.four a m) h = absurd (omega arith)

pub says-4 :
    {s : List ℕ} {at l : ℕ} → At s at l → Lead (get_or s at 0) 4
    → Says s at l 4 (utf8_4 (get_or s at 0) (get_or s (at + 1) 0) (get_or s (at + 2) 0) (get_or s (at + 3) 0) ≡ true)
says-4 (At.one a m) h = absurd (omega arith)
says-4 (At.two a m) h = absurd (omega arith)
says-4 (At.three a m) h = absurd (omega arith)
says-4 (At.four a m) h = record { long = refl; ends = m; test = four_in _ _ _ _ a }

-- the count of a first byte is one of the four
pub says_none : {s : List ℕ} {at l : ℕ} → At s at l → (n : ℕ) → Lead (get_or s at 0) n → (n ≡ 0 → ⊥) → (n ≡ 2 → ⊥) → (n ≡ 3 → ⊥) → (n ≡ 4 → ⊥) → ⊥
says_none a zero h z t r f = z refl
says_none (At.one a m) (suc zero) h z t r f = omega arith
says_none (At.two a m) (suc zero) h z t r f = omega arith
says_none (At.three a m) (suc zero) h z t r f = omega arith
says_none (At.four a m) (suc zero) h z t r f = omega arith
says_none a (suc (suc zero)) h z t r f = t refl
says_none a (suc (suc (suc zero))) h z t r f = r refl
says_none a (suc (suc (suc (suc zero)))) h z t r f = f refl
says_none (At.one a m) (suc (suc (suc (suc (suc n))))) h z t r f = omega arith
says_none (At.two a m) (suc (suc (suc (suc (suc n))))) h z t r f = omega arith
says_none (At.three a m) (suc (suc (suc (suc (suc n))))) h z t r f = omega arith
says_none (At.four a m) (suc (suc (suc (suc (suc n))))) h z t r f = omega arith
