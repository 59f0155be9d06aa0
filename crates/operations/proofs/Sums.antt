-- The capped fold over operation structs is the definition's length of their text, capped.
-- By induction on the list. Assumes nothing.
use mathlib.Core.Path.{◌≡◌, refl, ◌∙◌}
use mathlib.Core.List.{List, [], ◌∷◌}
use Prim.Native.Nat.{ℕ, ◌+◌, ◌≤◌, min}
use native.Mathlib.Omega.{arith}
use Rattle.records.specs.declared.Operation.{Operation}
use Rattle.records.specs.Operations.{operations_from, operations_of}
use Rattle.sizes.specs.Texts.{total, retained_by, inserted_by, text_length}
use Rattle.operations.specs.Folds.{text_by, text_all}

module _ (n : ℕ) (spans keys : List ℕ) where
  -- from a sum that is not above the cap
  sums : (ys : List Operation) (s : ℕ) → s ≤ 1000000 → text_all n spans keys ys s ≡ min 1000000 (s + (total retained_by ys + total (inserted_by n spans keys) ys))
  unfolding total
  sums [] s h = omega arith
  sums (y ∷ ys) s h =
      sums ys (min 1000000 (s + text_by n spans keys y)) (omega arith)
      ∙ once s (retained_by y) (inserted_by n spans keys y) (total retained_by ys) (total (inserted_by n spans keys) ys)
    where
      once : (a b c d e : ℕ) → min 1000000 (min 1000000 (a + (b + c)) + (d + e)) ≡ min 1000000 (a + (b + d + (c + e)))
      once a b c d e = omega arith

  pub sum_all : (ys : List Operation) → text_all n spans keys ys 0 ≡ min 1000000 (text_length n spans keys ys)
  sum_all ys = sums ys 0 (omega arith) ∙ from_zero (text_length n spans keys ys)
    where
      from_zero : (t : ℕ) → min 1000000 (0 + t) ≡ min 1000000 t
      from_zero t = omega arith

  -- a sum with one operation more, by the text of a list that has it alone
  pub stepped : (o : Operation) (s before more r : ℕ) → before ≡ min 1000000 s → more ≡ min 1000000 (text_length n spans keys (o ∷ []))
      → r ≡ min 1000000 (before + more) → r ≡ min 1000000 (s + text_by n spans keys o)
  unfolding total
  stepped o s before more r p q e = plus s (retained_by o) (inserted_by n spans keys o) before more r p q e
    where
      plus : (s x y b k r : ℕ) → b ≡ min 1000000 s → k ≡ min 1000000 (x + 0 + (y + 0)) → r ≡ min 1000000 (b + k) → r ≡ min 1000000 (s + (x + y))
      plus s x y b k r p q e = omega arith

-- six numbers are the list of one operation
pub one : (o : Operation) → operations_of (o.kind ∷ o.order ∷ o.length ∷ o.side ∷ o.first ∷ o.count ∷ []) ≡ o ∷ []
unfolding operations_of operations_from
one o = refl
