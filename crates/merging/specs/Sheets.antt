-- "Sheets on the bench": the merges, as one table, and examples of our own for what no sheet shows. Assumes nothing.
use Rattle.std.specs.Prelude.{ℕ, ◌≡◌, List, [], ◌∷◌}
use Rattle.records.specs.declared.Operation.{Operation}
use Rattle.records.specs.declared.Cursor.{Cursor}
use Rattle.diff.specs.Replay.{Edit, retain, delete, insert}
use Rattle.merging.specs.Lent.{Lent, rules_of}
use Rattle.merging.specs.Operations.{ops_in, outs_from}
use Rattle.merging.specs.Merge.{Merged, merge_of}
use Rattle.merging.specs.Outputs.{Span, text_of, history_of, to_diff}

-- "Sheets on the bench": what is lent to a merge, and what comes of it
pub record Sheet : Type 0 where
  pub lent : Lent
  pub left : List Operation
  pub right : List Operation
  pub left_cursors : List Cursor
  pub right_cursors : List Cursor
  pub merged : Merged
  pub text : List ℕ
  pub history : List Span
  pub diff : List Edit

-- "★ proved, one statement over the table": the merge gives the operations and the cursors, and the merged list the text, the history and the diff
pub record Holds (s : Sheet) : Type 0 where
  pub merges : merge_of (rules_of s.lent) s.left s.right s.left_cursors s.right_cursors ≡ s.merged
  pub says : text_of s.lent (ops_in (outs_from 0 s.merged.operations)) ≡ s.text
  pub tells : history_of s.lent (outs_from 0 s.merged.operations) ≡ s.history
  pub writes : to_diff s.lent (ops_in (outs_from 0 s.merged.operations)) ≡ s.diff

-- "★ proved, one statement over the table": each row holds
abbrev pub Hold : List Sheet → Type 0
Hold [] = Unit
Hold (s ∷ ss) = Holds s × Hold ss

-- "operation records: kind, order, length, side, and for an insert its tokens"
abbrev pub operation : ℕ → ℕ → ℕ → ℕ → ℕ → ℕ → Operation
operation k o l s f n = record { kind = k; order = o; length = l; side = s; first = f; count = n }

-- "keeps 2": a list's own records; an insert's order and length are not told
abbrev pub keeps : ℕ → ℕ → Operation
keeps o l = operation 2 o l 0 0 0

-- "drops 2"
abbrev pub drops : ℕ → ℕ → Operation
drops o l = operation 0 o l 0 0 0

-- "adds"
abbrev pub adds : ℕ → ℕ → Operation
adds f n = operation 1 0 0 0 f n

-- "Left cursor 3": its identity number and its index
abbrev pub cursor : ℕ → ℕ → Cursor
cursor d i = record { identity = d; index = i }

-- "history unchanged ab"
abbrev pub span : ℕ → ℕ → List ℕ → Span
span k s t = record { kind = k; side = s; text = t }

-- "Sheets on the bench (★ proved, one statement over the table)"
abbrev pub sheets : List Sheet
sheets =
    -- "Original "abcdef"; left keeps 2, drops 2, adds "X", keeps 2; right keeps 3, drops 2, adds "Y", keeps 1. Text "abXYf"; history
    -- unchanged ab, removed left cd, removed right e, added left X, added right Y, unchanged f. Left cursor 3 stays 3; right cursor 3
    -- becomes 2, 4 stays 4."
    record {
      lent = record { original = 97 ∷ 98 ∷ 99 ∷ 100 ∷ 101 ∷ 102 ∷ []; inserted = 88 ∷ 89 ∷ []; spans = 0 ∷ 1 ∷ 1 ∷ 1 ∷ []; keys = 88 ∷ 89 ∷ [] };
      left = keeps 0 2 ∷ drops 2 2 ∷ adds 0 1 ∷ keeps 4 2 ∷ [];
      right = keeps 0 3 ∷ drops 3 2 ∷ adds 1 1 ∷ keeps 5 1 ∷ [];
      left_cursors = cursor 1 3 ∷ [];
      right_cursors = cursor 2 3 ∷ cursor 3 4 ∷ [];
      merged =
          record {
            operations =
                operation 2 0 2 0 0 0
                ∷ operation 0 2 2 0 0 0
                ∷ operation 0 4 1 1 0 0
                ∷ operation 1 5 1 0 0 1
                ∷ operation 1 5 1 1 1 1
                ∷ operation 2 5 1 0 0 0
                ∷ [];
            cursors = cursor 2 2 ∷ cursor 1 3 ∷ cursor 3 4 ∷ [];
          };
      text = 97 ∷ 98 ∷ 88 ∷ 89 ∷ 102 ∷ [];
      history =
          span 0 0 (97 ∷ 98 ∷ [])
          ∷ span 2 0 (99 ∷ 100 ∷ [])
          ∷ span 2 1 (101 ∷ [])
          ∷ span 1 0 (88 ∷ [])
          ∷ span 1 1 (89 ∷ [])
          ∷ span 0 0 (102 ∷ [])
          ∷ [];
      diff = retain 2 ∷ delete 2 ∷ delete 1 ∷ insert (88 ∷ []) ∷ insert (89 ∷ []) ∷ retain 1 ∷ [];
    }
    -- "Empty original, left adds p q, right adds q r: "pqr"; right cursors 0, 1, 2 become 1, 2, 3."
    ∷ record {
      lent =
          record {
            original = [];
            inserted = 112 ∷ 113 ∷ 113 ∷ 114 ∷ [];
            spans = 0 ∷ 1 ∷ 1 ∷ 1 ∷ 2 ∷ 1 ∷ 3 ∷ 1 ∷ [];
            keys = 112 ∷ 113 ∷ 113 ∷ 114 ∷ [];
          };
      left = adds 0 2 ∷ [];
      right = adds 2 2 ∷ [];
      left_cursors = [];
      right_cursors = cursor 1 0 ∷ cursor 2 1 ∷ cursor 3 2 ∷ [];
      merged =
          record {
            operations = operation 1 0 2 0 0 2 ∷ operation 1 0 1 1 3 1 ∷ [];
            cursors = cursor 1 1 ∷ cursor 2 2 ∷ cursor 3 3 ∷ [];
          };
      text = 112 ∷ 113 ∷ 114 ∷ [];
      history = span 1 0 (112 ∷ 113 ∷ []) ∷ span 1 1 (114 ∷ []) ∷ [];
      diff = insert (112 ∷ 113 ∷ []) ∷ insert (114 ∷ []) ∷ [];
    }
    -- "Original "a", both drop 1 and add "b": text "b", two operations, both right."
    ∷ record {
      lent = record { original = 97 ∷ []; inserted = 98 ∷ 98 ∷ []; spans = 0 ∷ 1 ∷ 1 ∷ 1 ∷ []; keys = 98 ∷ 98 ∷ [] };
      left = drops 0 1 ∷ adds 0 1 ∷ [];
      right = drops 0 1 ∷ adds 1 1 ∷ [];
      left_cursors = [];
      right_cursors = [];
      merged = record { operations = operation 0 0 1 1 0 0 ∷ operation 1 1 1 1 1 1 ∷ []; cursors = [] };
      text = 98 ∷ [];
      history = span 2 1 (97 ∷ []) ∷ span 1 1 (98 ∷ []) ∷ [];
      diff = delete 1 ∷ insert (98 ∷ []) ∷ [];
    }
    ∷ []

-- "How wrong ports would look right": examples of our own, each for a sentence that no sheet shows
abbrev pub examples : List Sheet
examples =
    -- "The result is remembered, even when empty": the left's x, which its lost drop makes it forget, does not swallow the right's
    record {
      lent = record { original = 97 ∷ 98 ∷ []; inserted = 120 ∷ []; spans = 0 ∷ 1 ∷ []; keys = 120 ∷ [] };
      left = adds 0 1 ∷ drops 0 2 ∷ [];
      right = drops 0 2 ∷ adds 0 1 ∷ [];
      left_cursors = cursor 1 1 ∷ [];
      right_cursors = cursor 2 1 ∷ [];
      merged =
          record {
            operations = operation 0 0 2 1 0 0 ∷ operation 1 2 1 0 0 1 ∷ operation 1 2 1 1 0 1 ∷ [];
            cursors = cursor 1 1 ∷ cursor 2 2 ∷ [];
          };
      text = 120 ∷ 120 ∷ [];
      history = span 2 1 (97 ∷ 98 ∷ []) ∷ span 1 0 (120 ∷ []) ∷ span 1 1 (120 ∷ []) ∷ [];
      diff = delete 2 ∷ insert (120 ∷ []) ∷ insert (120 ∷ []) ∷ [];
    }
    -- "The result is remembered, even when empty": so with a lost keep, whose cursor goes to "one point"
    ∷ record {
      lent = record { original = 97 ∷ []; inserted = 120 ∷ []; spans = 0 ∷ 1 ∷ []; keys = 120 ∷ [] };
      left = adds 0 1 ∷ keeps 0 1 ∷ [];
      right = drops 0 1 ∷ adds 0 1 ∷ [];
      left_cursors = cursor 1 2 ∷ [];
      right_cursors = cursor 2 1 ∷ [];
      merged =
          record {
            operations = operation 0 0 1 1 0 0 ∷ operation 1 1 1 0 0 1 ∷ operation 1 1 1 1 0 1 ∷ [];
            cursors = cursor 1 1 ∷ cursor 2 2 ∷ [];
          };
      text = 120 ∷ 120 ∷ [];
      history = span 2 1 (97 ∷ []) ∷ span 1 0 (120 ∷ []) ∷ span 1 1 (120 ∷ []) ∷ [];
      diff = delete 1 ∷ insert (120 ∷ []) ∷ insert (120 ∷ []) ∷ [];
    }
    -- "Leftovers go to the end, left before right."
    ∷ record {
      lent = record { original = 97 ∷ []; inserted = []; spans = []; keys = [] };
      left = drops 0 1 ∷ [];
      right = drops 0 1 ∷ [];
      left_cursors = cursor 1 0 ∷ [];
      right_cursors = cursor 2 0 ∷ [];
      merged = record { operations = operation 0 0 1 1 0 0 ∷ []; cursors = cursor 1 0 ∷ cursor 2 0 ∷ [] };
      text = [];
      history = span 2 1 (97 ∷ []) ∷ [];
      diff = delete 1 ∷ [];
    }
    -- "the remembered tokens up to the overlap's end are used up": the right's two inserts are both found in the left's one. Equal
    -- keys spell otherwise, and the left's spelling stands
    ∷ record {
      lent = record { original = []; inserted = 97 ∷ 98 ∷ 99 ∷ 100 ∷ []; spans = 0 ∷ 1 ∷ 1 ∷ 1 ∷ 2 ∷ 1 ∷ 3 ∷ 1 ∷ []; keys = 1 ∷ 2 ∷ 1 ∷ 2 ∷ [] };
      left = adds 0 2 ∷ [];
      right = adds 2 1 ∷ adds 3 1 ∷ [];
      left_cursors = [];
      right_cursors = cursor 1 0 ∷ cursor 2 1 ∷ cursor 3 2 ∷ [];
      merged = record { operations = operation 1 0 2 0 0 2 ∷ []; cursors = cursor 1 0 ∷ cursor 2 1 ∷ cursor 3 2 ∷ [] };
      text = 97 ∷ 98 ∷ [];
      history = span 1 0 (97 ∷ 98 ∷ []) ∷ [];
      diff = insert (97 ∷ 98 ∷ []) ∷ [];
    }
    -- "retains positive with neighbours joined"; "the end of merged text for a retain lost to a retain"
    ∷ record {
      lent = record { original = 97 ∷ 98 ∷ []; inserted = []; spans = []; keys = [] };
      left = keeps 0 1 ∷ keeps 1 1 ∷ [];
      right = keeps 0 2 ∷ [];
      left_cursors = [];
      right_cursors = cursor 1 1 ∷ cursor 2 2 ∷ [];
      merged = record { operations = keeps 0 1 ∷ keeps 1 1 ∷ []; cursors = cursor 1 1 ∷ cursor 2 2 ∷ [] };
      text = 97 ∷ 98 ∷ [];
      history = span 0 0 (97 ∷ []) ∷ span 0 0 (98 ∷ []) ∷ [];
      diff = retain 2 ∷ [];
    }
    -- "retains and deletes by shorter length": the right's drop of 1 goes before the left's of 2
    ∷ record {
      lent = record { original = 97 ∷ 98 ∷ []; inserted = []; spans = []; keys = [] };
      left = drops 0 2 ∷ [];
      right = drops 0 1 ∷ drops 1 1 ∷ [];
      left_cursors = [];
      right_cursors = [];
      merged = record { operations = operation 0 0 1 1 0 0 ∷ operation 0 1 1 0 0 0 ∷ []; cursors = [] };
      text = [];
      history = span 2 1 (97 ∷ []) ∷ span 2 0 (98 ∷ []) ∷ [];
      diff = delete 1 ∷ delete 1 ∷ [];
    }
    ∷ []
