-- What is asked of a run of tokens whose spelling is put into a room. Assumes nothing.
use Rattle.std.specs.Prelude.{ℕ, ◌+◌, ◌≤◌, List, [], ◌∷◌, length}
use Rattle.records.specs.declared.Token.{Token}
use Rattle.records.specs.Tokens.{tokens_lent, tokens_from, spelling}
use Rattle.shapes.specs.Accepted.{AllIn}

-- "token or range outside what was lent": not so; and the room d has place for the spelling from `at` on
pub record Lends (text spans keys : List ℕ) (first count : ℕ) (d : List ℕ) (at : ℕ) : Type 0 where
  pub lent : first + count ≤ tokens_lent spans keys
  pub tokens : AllIn (length text) (tokens_from spans keys first count)
  pub place : at + length (spelling text spans keys first count) ≤ length d

-- "A token is a range of lent code points": where the first of some begins; 0 of none
unfoldable pub first_start : List Token → ℕ
first_start [] = 0
first_start (t ∷ ts) = t.start
