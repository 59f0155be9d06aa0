-- What it is for the lines before a line to be good. Assumes nothing.
use Rattle.std.specs.Prelude.{◌≡◌, ℕ, ◌+◌, List, [], ◌∷◌, ◌++◌, length, eqb}
use Rattle.room.specs.Choice.{pick}
use Rattle.edit_format.specs.Reading.{State, bad, key, gap, num, open', after, form, line_no, run}

-- "Lines end in LF": how many lines end in these bytes
unfoldable pub ends : List ℕ → ℕ
ends [] = 0
ends (b ∷ bs) = pick (eqb b 10) 1 0 + ends bs

-- the reader stands at the start of line l: every line before it was read, and is good
abbrev pub Starts : ℕ → State → Type 0
Starts l (bad k) = ⊥
Starts l (key k i) = (i ≡ 0) × (line_no k ≡ l)
Starts l (gap k cs) = ⊥
Starts l (num k cs n) = ⊥
Starts l (open' h is) = length is + 5 ≡ l
Starts l (after h is) = length is + 6 ≡ l

-- q is all lines before line l, and each of them is good
pub record Before (l : ℕ) (q : List ℕ) : Type 0 where
  pub lines : ends q + 1 ≡ l
  pub good : Starts l (run (key form 0) q)

-- p is good lines up to line l and what stands from there on: line l exists, or with nothing there it is one past the last
abbrev pub Charged : ℕ → List ℕ → Type 0
Charged l p = (q : List ℕ) × (r : List ℕ) × (p ≡ q ++ r) × Before l q
