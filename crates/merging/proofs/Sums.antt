-- Shown: sums of token lengths over parts of a list, and of a run of tokens.
-- How: by induction on the list.
use Prim.Native.Nat.{ℕ, zero, suc, ◌+◌, ◌-◌, ◌≤◌}
use mathlib.Core.Path.{◌≡◌, refl, ap}
use mathlib.Core.List.{List, [], ◌∷◌, ◌++◌}
use native.Mathlib.Omega.{arith}
use native.Mathlib.Nat.{add-zero, sub-zero}
use lib.ListN.{length, drop, length-take, length-drop}
use lib.Seq.{slice}
use Rattle.merging.specs.Lent.{Lent, keys_of, lengths_of, sum}

pub sum_nil : sum [] ≡ 0
unfolding sum
sum_nil = refl

pub sum_append : (xs ys : List ℕ) → sum (xs ++ ys) ≡ sum xs + sum ys
unfolding sum
sum_append [] ys = omega arith
sum_append (x ∷ xs) ys = omega (arith, sum_append xs ys)

pub sum_drop : (k : ℕ) (xs : List ℕ) → sum (drop k xs) ≤ sum xs
unfolding sum
sum_drop zero xs = omega arith
sum_drop (suc k) [] = omega arith
sum_drop (suc k) (x ∷ xs) = omega (arith, sum_drop k xs)

-- a part, and what stands behind it
pub sum_part : (s e : ℕ) (xs : List ℕ) → s ≤ e → sum (drop s xs) ≡ sum (slice s e xs) + sum (drop e xs)
unfolding sum
sum_part zero zero [] h = refl
sum_part zero zero (x ∷ xs) h = omega arith
sum_part zero (suc e) [] h = refl
sum_part zero (suc e) (x ∷ xs) h = omega (arith, sum_part zero e xs (omega arith))
sum_part (suc s) zero xs h = absurd (omega arith)
sum_part (suc s) (suc e) [] h = refl
sum_part (suc s) (suc e) (x ∷ xs) h = sum_part s e xs (omega arith)

module _ (lent : Lent) where
  -- the first z of n tokens, and the rest
  pub lengths_split : (z f n : ℕ) → z ≤ n → sum (lengths_of lent f n) ≡ sum (lengths_of lent f z) + sum (lengths_of lent (f + z) (n - z))
  unfolding sum lengths_of
  lengths_split zero f n h = rw (add-zero f, sub-zero n) (omega arith)
  lengths_split (suc z) f zero h = absurd (omega arith)
  lengths_split (suc z) f (suc n) h =
      let e : f + 1 + z ≡ f + suc z = omega arith in
      let d : n - z ≡ suc n - suc z = omega arith in
      omega (arith, rw (e, d) at (lengths_split z (f + 1) n (omega arith)))

  pub keys_short : (f n : ℕ) → length (keys_of lent f n) ≤ n
  unfolding keys_of
  keys_short f n = simp (length-drop, length-take) (omega arith)

  pub lengths_count : (f n : ℕ) → length (lengths_of lent f n) ≡ n
  unfolding lengths_of
  lengths_count f zero = refl
  lengths_count f (suc n) = ap suc (lengths_count (f + 1) n)
