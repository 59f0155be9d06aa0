-- "Sheets on the bench": all of them together, over the definitions that the public calls equal. Assumes nothing.
use Rattle.std.specs.Prelude.{◌≡◌, List, [], ◌∷◌, map, length}
use Rattle.overlap.specs.Overlap.{answer_of}
use Rattle.overlap.specs.Sheets as overlaps
use Rattle.replay.specs.Sheets as replays
use Rattle.sizes.specs.Sizes.{merging}
use Rattle.checks.specs.Lists.{lists_verdict}
use Rattle.merging.specs.Sheets as merges
use Rattle.apply.specs.Sheets as views
use Rattle.sheets.specs.Lines as program
use Rattle.verdict.specs.Verdicts.{accepted}

-- "Order for lists: 3, 4, 1, 2, 5, 7": the merge refuses no row
abbrev pub Accepts : List merges.Sheet → Type 0
Accepts [] = Unit
Accepts (s ∷ ss) =
    (lists_verdict merging s.lent.original s.lent.inserted s.lent.spans s.lent.keys s.left s.right s.left_cursors s.right_cursors ≡ accepted)
    × Accepts ss

-- "★ proved, one statement over the table"
pub record Sheets : Type 0 where
  -- "old 0 1 9 0 2 5: new 9 0 2 5 1 gives 2..6": the overlap, with a work room just as long as asked
  pub overlap : map (λ (s : overlaps.Sheet). answer_of overlaps.old s.new (length s.new)) overlaps.sheets ≡ map (λ (s : overlaps.Sheet). s.gives) overlaps.sheets
  -- ""abcde" with 2, "X", -2 replays to "abX"; covering refuses 9 with 1 left.": plain and covering replay
  pub replay : replays.AllRight replays.table
  -- "Original "abcdef"", "Empty original", "Original "a"": the merge accepts, and gives operations and cursors
  pub accepts : Accepts merges.sheets
  pub merge : merges.Hold merges.sheets
  -- "Text "abXYf"; history unchanged ab": text, cursors and history of the merged lists
  pub view : views.AllMade merges.sheets
  -- "The program writes exactly the lines", and "Empty everything"
  pub writes : program.Hold program.sheets
