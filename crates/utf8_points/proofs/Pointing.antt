-- The good sequence at a place by its first byte: how long it is, and that it ends within the bytes.
-- A good sequence has one of four kinds, and its first byte says which. Assumes nothing.
use mathlib.Core.Path.{◌≡◌, refl, sym, ap, ◌∙◌}
use mathlib.Core.List.{List}
use Prim.Native.Nat.{ℕ, zero, suc, ◌+◌, ◌≤◌, ◌<◌}
use native.Mathlib.Omega.{arith}
use lib.ListN.{length, get_or, take, drop}
use Rattle.utf8_read.specs.Grammar.{utf8_char}
use Rattle.utf8_read.specs.Table.{decode}
use Rattle.utf8_points.specs.Found.{Pointed}
use Rattle.utf8_read.proofs.Sequences.{At, found, stands}
use Rattle.utf8_read.proofs.Leads.{says_1}

pub some : (s : List ℕ) (at : ℕ) → at < length s → 0 < utf8_char (drop at s) → (k : ℕ) × At s at (suc k)
some s at h p = go (utf8_char (drop at s)) refl
  where
    go : (n : ℕ) → utf8_char (drop at s) ≡ n → (k : ℕ) × At s at (suc k)
    go zero e = absurd (omega arith)
    go (suc k) e = (k, found s at k (omega arith) e)

pub record Known (s : List ℕ) (at n : ℕ) : Type 0 where
  pub ends : at + n ≤ length s
  pub long : utf8_char (drop at s) ≡ n

record Kind (s : List ℕ) (at l n : ℕ) : Type 0 where
  ends : at + n ≤ length s
  long : l ≡ n

kind_2 : {s : List ℕ} {at l : ℕ} → At s at l → 0x80 ≤ get_or s at 0 → get_or s at 0 < 0xe0 → Kind s at l 2
kind_2 (At.one a m) g h = absurd (omega arith)
kind_2 (At.two a m) g h = record { ends = m; long = refl }
kind_2 (At.three a m) g h = absurd (omega arith)
kind_2 (At.four a m) g h = absurd (omega arith)

kind_3 : {s : List ℕ} {at l : ℕ} → At s at l → 0xe0 ≤ get_or s at 0 → get_or s at 0 < 0xf0 → Kind s at l 3
kind_3 (At.one a m) g h = absurd (omega arith)
kind_3 (At.two a m) g h = absurd (omega arith)
kind_3 (At.three a m) g h = record { ends = m; long = refl }
kind_3 (At.four a m) g h = absurd (omega arith)

kind_4 : {s : List ℕ} {at l : ℕ} → At s at l → 0xf0 ≤ get_or s at 0 → Kind s at l 4
kind_4 (At.one a m) g = absurd (omega arith)
kind_4 (At.two a m) g = absurd (omega arith)
kind_4 (At.three a m) g = absurd (omega arith)
kind_4 (At.four a m) g = record { ends = m; long = refl }

module _ (s : List ℕ) (at : ℕ) (h : at < length s) (p : 0 < utf8_char (drop at s)) where
  known : {n : ℕ} → Kind s at (suc (some s at h p).0) n → Known s at n
  known k = record { ends = k.ends; long = stands (some s at h p).1 ∙ k.long }

  pub known_1 : get_or s at 0 < 0x80 → Known s at 1
  known_1 l = known (record { ends = omega arith; long = says_1 (some s at h p).1 l })

  pub known_2 : 0x80 ≤ get_or s at 0 → get_or s at 0 < 0xe0 → Known s at 2
  known_2 g l = known (kind_2 (some s at h p).1 g l)

  pub known_3 : 0xe0 ≤ get_or s at 0 → get_or s at 0 < 0xf0 → Known s at 3
  known_3 g l = known (kind_3 (some s at h p).1 g l)

  pub known_4 : 0xf0 ≤ get_or s at 0 → Known s at 4
  known_4 g = known (kind_4 (some s at h p).1 g)

pub pointed : {s : List ℕ} {at n : ℕ} (x : ℕ) → Known s at n → x ≡ decode (take n (drop at s)) → Pointed s at (record { code = x; len = n })
pointed {s} {at} x k e = record { long = sym k.long; number = e ∙ ap (λ (m : ℕ). decode (take m (drop at s))) (sym k.long) }
