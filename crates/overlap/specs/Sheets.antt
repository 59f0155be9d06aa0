-- The paper's bench sheets of the overlap, as a table. Assumes nothing.
use Rattle.std.specs.Prelude.{ℕ, List, [], ◌∷◌, Result, Ok}
use Rattle.refusal.specs.declared.Refusal.{Refusal}
use Rattle.overlap.specs.declared.Range.{Range}
use Rattle.overlap.specs.Overlap.{range}

-- new keys, and the answer that the paper gives for them and the sheets' old ones
pub record Sheet : Type 0 where
  pub new : List ℕ
  pub gives : Result Range Refusal

-- "old 0 1 9 0 2 5"
abbrev pub old : List ℕ
old = 0 ∷ 1 ∷ 9 ∷ 0 ∷ 2 ∷ 5 ∷ []

-- a row of the table, by its parts
abbrev sheet : List ℕ → ℕ → ℕ → Sheet
sheet new s e = record { new = new; gives = Ok (range s e) }

-- "new 9 0 2 5 1 gives 2..6; ★ 0 2 gives 3..5; ★ 0 4 gives 0..1; ★ empty gives 0..0."
abbrev pub sheets : List Sheet
sheets = sheet (9 ∷ 0 ∷ 2 ∷ 5 ∷ 1 ∷ []) 2 6 ∷ sheet (0 ∷ 2 ∷ []) 3 5 ∷ sheet (0 ∷ 4 ∷ []) 0 1 ∷ sheet [] 0 0 ∷ []
