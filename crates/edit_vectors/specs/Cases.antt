-- What a reader of a case promises a program: its file, text and items fit the rooms. Assumes nothing.
use Rattle.std.specs.Prelude.{ℕ, ◌≤◌, List, length, ℤ}
use Rattle.edit_vectors.specs.declared.Case.{Case}

-- what a case took of the three rooms
pub record Fits (f t : List ℕ) (i : List ℤ) (r : Case) : Type 0 where
  pub file : length r.file.now ≤ length f
  pub text : length r.text.now ≤ length t
  pub items : length r.items.now ≤ length i
