-- What is true of a raw list that was accepted. Assumes nothing.
use Rattle.std.specs.Prelude.{ℕ, ◌+◌, ◌≤◌, ◌<◌, List, [], ◌∷◌}
use Rattle.records.specs.Tokens.{tokens_from}
use Rattle.shapes.specs.Accepted.{AllIn}
use Rattle.raw_lists.specs.declared.Raw.{Raw}
use Rattle.raw_lists.specs.Raws.{pieces_lent}

-- "unknown kind", "raw operation with no tokens; token or range outside what was lent": not so
pub record GoodRaw (n : ℕ) (spans keys joins : List ℕ) (r : Raw) : Type 0 where
  pub known : r.kind ≤ 2
  pub some : 0 < r.count
  pub lent : r.first + r.count ≤ pieces_lent spans keys joins
  pub tokens : AllIn n (tokens_from spans keys r.first r.count)

-- the same of each operation of a list
unfoldable pub AllGood : ℕ → List ℕ → List ℕ → List ℕ → List Raw → Type 0
AllGood n spans keys joins [] = Unit
AllGood n spans keys joins (r ∷ rs) = GoodRaw n spans keys joins r × AllGood n spans keys joins rs

-- "token counts stand as claimed": of a list
unfoldable pub counts : List Raw → ℕ
counts [] = 0
counts (r ∷ rs) = r.count + counts rs
