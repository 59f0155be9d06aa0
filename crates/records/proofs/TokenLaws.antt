-- Runs of tokens: one more, none, and the length of what they spell.
-- By the number of tokens. Assumes nothing.
use Prim.Native.Nat.{ℕ, zero, suc, ◌+◌, ◌-◌, ◌≤◌, ◌<◌}
use mathlib.Core.Path.{◌≡◌, refl, ap}
use mathlib.Core.List.{List, [], ◌∷◌}
use native.Mathlib.Omega.{arith}
use lib.ListN.{length, length-take, length-drop}
use Rattle.records.specs.declared.Token.{Token}
use Rattle.records.specs.Tokens.{token_at, tokens_from, spell}

pub length_from : (spans keys : List ℕ) (i k : ℕ) → length (tokens_from spans keys i k) ≡ k
unfolding tokens_from
length_from spans keys i zero = refl
length_from spans keys i (suc k) = ap suc (length_from spans keys (i + 1) k)

-- the tokens from i to n: one, and those from i + 1; or none
pub from_more : (spans keys : List ℕ) (i n : ℕ) → i < n
    → tokens_from spans keys i (n - i) ≡ token_at spans keys i ∷ tokens_from spans keys (i + 1) (n - (i + 1))
unfolding tokens_from
from_more spans keys i n h = let e : n - i ≡ suc (n - (i + 1)) = omega arith in rw e

pub from_none : (spans keys : List ℕ) (i n : ℕ) → n ≤ i → tokens_from spans keys i (n - i) ≡ []
unfolding tokens_from
from_none spans keys i n h = let e : n - i ≡ 0 = omega arith in rw e

-- a token in the text spells as many code points as it is long
pub length_spell : (text : List ℕ) (t : Token) → t.start + t.length ≤ length text → length (spell text t) ≡ t.length
length_spell text t h = rw (length-take, length-drop) (omega arith)
