-- A natural below 2^63 and its negative fit 64 signed bits.
-- By cases on zero. Assumes nothing.
use Prim.Native.Nat.{ℕ, zero, suc, ◌<◌, ◌^◌}
use native.Mathlib.Nat.{lt_of_le_of_lt, le-suc}
use lib.IntN.{pos, neg_ℤ}
use lib.Dec.{lit<}
use mir.Syntax.{w64}
use mir.Val.{SFits}

pub pos_fits : (k : ℕ) → k < 2 ^ 63 → SFits w64 (pos k)
pos_fits k h = record { sfits = h }

pub neg_fits : (k : ℕ) → k < 2 ^ 63 → SFits w64 (neg_ℤ (pos k))
neg_fits zero h = record { sfits = lit< tt }
neg_fits (suc k) h = record { sfits = lt_of_le_of_lt (le-suc k) h }
