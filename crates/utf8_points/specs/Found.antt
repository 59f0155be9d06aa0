-- What the reader finds at a place. Assumes nothing.
use Rattle.std.specs.Prelude.{ℕ, ◌≡◌, List, take, drop}
use Rattle.utf8_read.specs.Grammar.{utf8_char}
use Rattle.utf8_read.specs.Table.{decode}
use Rattle.utf8_points.specs.declared.Point.{Point}

-- the code point at a place, and the bytes it takes
pub record Pointed (s : List ℕ) (at : ℕ) (r : Point) : Type 0 where
  pub long : r.len ≡ utf8_char (drop at s)
  pub number : r.code ≡ decode (take (utf8_char (drop at s)) (drop at s))
