-- "Sheets on the bench": what the program writes, as a table. Assumes nothing.
use Rattle.std.specs.Prelude.{ℕ, ◌≡◌, List, [], ◌∷◌}
use Rattle.merge_files.specs.Program.{merged, result_of}
use Rattle.sheets.specs.Ascii.{ascii, lines}

-- "The program takes an original and two edit files": their bytes, and the lines that it writes
pub record Sheet : Type 0 where
  pub original : List ℕ
  pub left : List ℕ
  pub right : List ℕ
  pub written : List ℕ

-- "Original "abcdef"; left keeps 2, drops 2, adds "X", keeps 2; right keeps 3, drops 2, adds "Y", keeps 1. [..] The program writes exactly
-- the lines `form=1`, `original=6`, `result=5`, `items=6`, `keep=2`, `drop=2`, `drop=1`, `add=58`, `add=59`, `keep=1`, `end=6`."
abbrev pub abcdef : Sheet
abcdef =
    record {
      original = ascii "abcdef";
      left = lines ("form=1" ∷ "original=6" ∷ "result=5" ∷ "items=4" ∷ "keep=2" ∷ "drop=2" ∷ "add=58" ∷ "keep=2" ∷ "end=4" ∷ []);
      right = lines ("form=1" ∷ "original=6" ∷ "result=5" ∷ "items=4" ∷ "keep=3" ∷ "drop=2" ∷ "add=59" ∷ "keep=1" ∷ "end=4" ∷ []);
      written =
          lines
          ("form=1" ∷ "original=6" ∷ "result=5" ∷ "items=6" ∷ "keep=2" ∷ "drop=2" ∷ "drop=1" ∷ "add=58" ∷ "add=59" ∷ "keep=1" ∷ "end=6" ∷ []);
    }

-- "Empty everything: `form=1`, `original=0`, `result=0`, `items=0`, `end=0`."
abbrev pub none : List ℕ
none = lines ("form=1" ∷ "original=0" ∷ "result=0" ∷ "items=0" ∷ "end=0" ∷ [])

-- "Empty everything"
abbrev pub nothing : Sheet
nothing = record { original = []; left = none; right = none; written = none }

-- "Sheets on the bench (★ proved, one statement over the table)"
abbrev pub sheets : List Sheet
sheets = abcdef ∷ nothing ∷ []

-- "★ proved, one statement over the table": of each row, the program writes exactly its lines
abbrev pub Hold : List Sheet → Type 0
Hold [] = Unit
Hold (s ∷ ss) = (result_of s.original s.left s.right ≡ merged s.written) × Hold ss
