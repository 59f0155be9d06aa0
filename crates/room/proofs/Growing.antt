-- A room that is filled by a loop within a loop: what the inner one has done, whatever the room held at first.
-- What was true of the room before is true of it after. Assumes nothing.
use mathlib.Core.List.{List}
use Prim.Native.Nat.{ℕ, ◌≤◌}
use native.Mathlib.Omega.{arith}
use lib.ListN.{length}

-- F says of a room as it was at first and as it is now how far it is filled; most is how much it is to hold
pub record Grown (F : List ℕ → List ℕ → ℕ → ℕ → Type 0) (most : ℕ) (o₀ : List ℕ) (i₀ at₀ : ℕ) (o : List ℕ) (i at : ℕ) : Type 0 where
  pub least : i₀ ≤ i
  pub grown : (d : List ℕ) → most ≤ length d → F d o₀ i₀ at₀ → F d o i at

pub not_yet : (F : List ℕ → List ℕ → ℕ → ℕ → Type 0) (most : ℕ) (o : List ℕ) (i at : ℕ) → Grown F most o i at o i at
not_yet F most o i at = record { least = omega arith; grown = λ d h f. f }
