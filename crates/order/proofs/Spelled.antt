-- What is left of a spelling: nothing, and one token more.
-- Each unfolds what the tokens spell. Assumes nothing.
use Prim.Native.Nat.{ℕ, suc, ◌+◌, ◌-◌}
use mathlib.Core.Path.{◌≡◌}
use mathlib.Core.List.{List, [], ◌∷◌, ◌++◌}
use native.Mathlib.Omega.{arith}
use lib.ListN.{length, take, drop}
use Rattle.records.specs.declared.Token.{Token}
use Rattle.records.specs.Tokens.{token_at, tokens_from, spelled, spelling}
use Rattle.order.specs.Readable.{Run}

module _ (text spans keys : List ℕ) (i k : ℕ) where
  -- the end of a token's text, and no tokens
  pub none_left : (rest : List ℕ) → length rest ≡ 0 → k ≡ 0 → rest ++ spelling text spans keys i k ≡ []
  unfolding tokens_from spelled
  none_left [] h z = rw z
  none_left (x ∷ xs) h z = absurd (omega arith)

  -- the end of a token's text, and one token more
  pub one_read : (rest : List ℕ) {t : Token} {a b : ℕ} → length rest ≡ 0 → (k ≡ 0 → ⊥) → t ≡ token_at spans keys i → a ≡ t.start → b ≡ t.length
      → take (a + b - a) (drop a text) ++ spelling text spans keys (i + 1) (k - 1) ≡ rest ++ spelling text spans keys i k
  unfolding tokens_from spelled
  one_read [] {t} {a} {b} h n e p q = let v : a + b - a ≡ b = omega arith in let s : k ≡ suc (k - 1) = omega arith in let u : suc (k - 1) - 1 ≡ k - 1 = omega arith in rw (v, p, q, s, u, e)
  one_read (x ∷ xs) h n e p q = absurd (omega arith)

  pub run_behind : Run text spans keys i k → (k ≡ 0 → ⊥) → Run text spans keys (i + 1) (k - 1)
  run_behind g n = record { lent = omega (arith, g.lent); inside = λ j l h. g.inside j (omega arith) (omega arith) }
