-- What the two replays answer, and what they leave in the room.
-- Assumes nothing.
use Rattle.std.specs.Prelude.{◌≡◌, ℕ, List, length, ℤ, Result, Ok}
use Rattle.verdict.specs.Verdicts.{and_then, leaves, Verdict, accepted}
use Rattle.verdict.specs.Points.{points_verdict}
use Rattle.diff.specs.Items.{items_of}
use Rattle.replay.specs.declared.Judged.{Judged}
use Rattle.diff.specs.Replay.{Edit, edits_of, replayed, left}
use Rattle.diff.specs.Checks.{sizes, records, numbers, covers, fits}
use Rattle.refusal.specs.declared.Refusal.{Refusal}

-- "diff items .. with .. code points of text": a diff as lent: the original, the numbers of the items, their text
pub record Diff : Type 0 where
  pub original : List ℕ
  pub items : List ℤ
  pub text : List ℕ

-- a diff of its three parts
abbrev pub diff : List ℕ → List ℤ → List ℕ → Diff
diff o is t = record { original = o; items = is; text = t }

-- "from_diff up to the replayed text": the edits that a lent diff stands for
unfoldable pub edits : Diff → List Edit
edits d = edits_of d.text (items_of d.items (length d.text))

-- "from_diff up to the replayed text"
unfoldable pub text_of : Diff → List ℕ
text_of d = replayed d.original (edits d)

-- "For diffs: 3, 4, 1, 6 at the first offending item"
unfoldable pub plain : Diff → Verdict
plain d =
    and_then (sizes d.original (items_of d.items (length d.text)) d.text)
    (and_then (points_verdict d.original d.text)
    (and_then (records 0 (items_of d.items (length d.text))) (numbers 0 (length d.original) (edits d))))

-- "9 (covering replay only)"
unfoldable pub covering : Diff → Verdict
covering d = and_then (plain d) (covers (length d.original) (edits d))

-- a diff whose checks are done
unfoldable pub always : Diff → Verdict
always d = accepted

-- "All others: the exact length of the answer": the room is checked after all else
unfoldable pub roomed : (Diff → Verdict) → Diff → List ℕ → Verdict
roomed check d room = and_then (check d) (fits (length (text_of d)) room)

-- "its result, numbers of a refusal included": the length, or the refusal
abbrev pub counted : Verdict → ℕ → Result ℕ Refusal
counted v n = and_then v (Ok n)

-- "the exact length of the answer": that of the replayed text alone
unfoldable pub length_of : (Diff → Verdict) → Diff → Result ℕ Refusal
length_of check d = counted (check d) (length (text_of d))

-- "A public call's statement covers its result, numbers of a refusal included, and the lent buffers": a replay with its checks, into a room
pub record Replayed (check : Diff → Verdict) (d : Diff) (room : List ℕ) (r : Result ℕ Refusal) (room' : List ℕ) : Type 0 where
  pub answer : r ≡ counted (roomed check d room) (length (text_of d))
  pub leaving : room' ≡ leaves (roomed check d room) (text_of d) room

-- what the checks of a plain replay find, for both replays to go on with
unfoldable pub judged : Diff → Result Judged Refusal
judged d = and_then (plain d) (Ok (record { left = left (length d.original) (edits d); length = length (text_of d) }))
