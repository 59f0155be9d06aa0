-- The tokens that are lent, and what they spell. Assumes nothing.
use Rattle.std.specs.Prelude.{ℕ, zero, suc, ◌+◌, ◌*◌, ◌/◌, min, List, [], ◌∷◌, ◌++◌, length, get_or, take, drop}
use Rattle.records.specs.declared.Token.{Token}

-- "A token is a range of lent code points, a key": lent when both slices reach it
abbrev pub tokens_lent : List ℕ → List ℕ → ℕ
tokens_lent spans keys = min (length spans / 2) (length keys)

-- "A token is a range of lent code points, a key": the one at place i
abbrev pub token_at : List ℕ → List ℕ → ℕ → Token
token_at spans keys i = record { start = get_or spans (i * 2) 0; length = get_or spans (i * 2 + 1) 0; key = get_or keys i 0 }

-- "for an insert its tokens": the k from place i on
unfoldable pub tokens_from : List ℕ → List ℕ → ℕ → ℕ → List Token
tokens_from spans keys i zero = []
tokens_from spans keys i (suc k) = token_at spans keys i ∷ tokens_from spans keys (i + 1) k

-- "A token is a range of lent code points": those code points
abbrev pub spell : List ℕ → Token → List ℕ
spell text t = take t.length (drop t.start text)

-- "insert tokens' spelling, in list order"
unfoldable pub spelled : List ℕ → List Token → List ℕ
spelled text [] = []
spelled text (t ∷ ts) = spell text t ++ spelled text ts

-- "insert tokens' spelling, in list order": of the run of k tokens from place i on
abbrev pub spelling : List ℕ → List ℕ → List ℕ → ℕ → ℕ → List ℕ
spelling text spans keys i k = spelled text (tokens_from spans keys i k)

-- "a list's inserted text is the sum of its tokens' lengths": of a run of tokens
unfoldable pub tokens_length : List Token → ℕ
tokens_length [] = 0
tokens_length (t ∷ ts) = t.length + tokens_length ts
