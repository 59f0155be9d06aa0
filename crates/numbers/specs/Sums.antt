-- Sums over the numbers of a text. Assumes nothing.
use Rattle.std.specs.Prelude.{◌≡◌, ℕ, ◌+◌, ◌≤◌, List, [], ◌∷◌}

-- a measure of numbers gives what f says
abbrev pub Measures : {M : Type 0} → (M → ℕ → ℕ → Type 0) → M → (ℕ → ℕ) → Type 0
Measures post m f = (x y : ℕ) → post m x y → y ≡ f x

-- a measure gives at most 8, so that 65,536 of what it gives are below 2 ^ 32
abbrev pub IsSmall : {M : Type 0} → (M → ℕ → ℕ → Type 0) → M → Type 0
IsSmall post m = (x y : ℕ) → post m x y → y ≤ 8

-- the sum of what f gives for each number
unfoldable pub sum_of : (ℕ → ℕ) → List ℕ → ℕ
sum_of f [] = 0
sum_of f (x ∷ xs) = f x + sum_of f xs
