-- Of two numbers the first is at most the second, or above it; and orders that follow from each other have one test.
-- By deciding which. Assumes nothing.
use Prim.Native.Nat.{ℕ, ◌≤◌, ◌<◌}
use mathlib.Core.Path.{◌≡◌, sym, ◌∙◌}
use mathlib.Core.Logic.{◌⊎◌, inl, inr}
use native.Mathlib.Decide.{dec_le}
use native.Mathlib.Omega.{arith}
use lib.Dec.{leb}
use borrow.Author.Tests.{le-leb, lt-leb}

pub le_or_lt : (a b : ℕ) → (a ≤ b) ⊎ (b < a)
le_or_lt a b = go (dec_le a b)
  where
    go : Dec (a ≤ b) → (a ≤ b) ⊎ (b < a)
    go (yes h) = inl h
    go (no h) = inr (omega arith)

not_le : {a b : ℕ} → (a ≤ b → ⊥) → b < a
not_le h = omega arith

pub leb_same : (a b x y : ℕ) → (a ≤ b → x ≤ y) → (x ≤ y → a ≤ b) → leb a b ≡ leb x y
leb_same a b x y f g = go (dec_le a b)
  where
    go : Dec (a ≤ b) → leb a b ≡ leb x y
    go (yes h) = le-leb a b h ∙ sym (le-leb x y (f h))
    go (no h) = lt-leb a b (omega arith) ∙ sym (lt-leb x y (not_le (λ k. h (g k))))
