-- What writing a diff as an edit file answers, and what it leaves in the room. Assumes nothing.
use Rattle.std.specs.Prelude.{◌≡◌, ℕ, List, length, Result}
use Rattle.verdict.specs.Verdicts.{and_then, leaves, Verdict}
use Rattle.diff.specs.Checks.{fits}
use Rattle.replay.specs.Answers.{counted}
use Rattle.edit_format.specs.Items.{Item}
use Rattle.edit_format.specs.Written.{written}
use Rattle.writable.specs.Writable.{writable}
use Rattle.refusal.specs.declared.Refusal.{Refusal}

-- "All others: the exact length of the answer": how many bytes, or the refusal
unfoldable pub length_of : List Item → List ℕ → Result ℕ Refusal
length_of is text = counted (writable is text) (length (written is))

-- "order 3, 4, 1, 7": the room last
unfoldable pub roomed : List Item → List ℕ → List ℕ → Verdict
roomed is text out = and_then (writable is text) (fits (length (written is)) out)

-- "A refusal writes nothing. On success a room past its answer is unchanged"
pub record Wrote (is : List Item) (text out out' : List ℕ) (r : Result ℕ Refusal) : Type 0 where
  pub answer : r ≡ counted (roomed is text out) (length (written is))
  pub room : out' ≡ leaves (roomed is text out) (written is) out
