-- Sums over the numbers of a text: of two parts, of one number more. Assumes nothing.
use Prim.Native.Nat.{ℕ, ◌+◌, ◌≤◌, ◌<◌}
use mathlib.Core.Path.{◌≡◌, refl, ap, ◌∙◌}
use mathlib.Core.List.{List, [], ◌∷◌, ◌++◌}
use native.Mathlib.Omega.{arith}
use native.Mathlib.Numerals.{add-one}
use lib.ListN.{length, get_or, take}
use lib.Seq.{take-suc, take_all}
use Rattle.numbers.specs.Sums.{sum_of}

pub sum_none : (f : ℕ → ℕ) → 0 ≡ sum_of f []
unfolding sum_of
sum_none f = refl

sum_one : (f : ℕ → ℕ) (x : ℕ) → sum_of f (x ∷ []) ≡ f x
unfolding sum_of
sum_one f x = omega arith

pub sum_both : (f : ℕ → ℕ) (s t : List ℕ) → sum_of f (s ++ t) ≡ sum_of f s + sum_of f t
unfolding sum_of
sum_both f [] t = omega arith
sum_both f (x ∷ s) t = omega (arith, sum_both f s t)

-- one number more of a block, and all of it
pub sum_more : (f : ℕ → ℕ) (s : List ℕ) (k n m : ℕ) → k < length s → n ≡ sum_of f (take k s) → m ≡ f (get_or s k 0) → n + m ≡ sum_of f (take (k + 1) s)
sum_more f s k n m h e g =
    let t : take (k + 1) s ≡ take k s ++ (get_or s k 0 ∷ []) = rw (add-one k, take-suc s k 0 h) in
    omega (arith, ap (λ (r : List ℕ). sum_of f r) t, sum_both f (take k s) (get_or s k 0 ∷ []), sum_one f (get_or s k 0))

pub sum_all : (f : ℕ → ℕ) (s : List ℕ) (k n : ℕ) → length s ≤ k → n ≡ sum_of f (take k s) → n ≡ sum_of f s
sum_all f s k n h e = e ∙ ap (λ (r : List ℕ). sum_of f r) (take_all k s h)
