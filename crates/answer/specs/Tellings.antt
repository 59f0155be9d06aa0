-- Every answer as the four numbers that C is handed. Assumes nothing.
use Rattle.std.specs.Prelude.{ℕ, ◌≡◌, Bool, true, false, Result, Ok, Err}
use Rattle.refusal.specs.Numbers.{number, values, padded}
use Rattle.refusal.specs.declared.Refusal.{Refusal}
use Rattle.refusal.specs.declared.Refusal.TheVariants as R
use Rattle.overlap.specs.declared.Range.{Range}
use Rattle.elongate.specs.declared.Written.{Written}
use Rattle.edited_text.specs.declared.Counts.{Counts as Merged}
use Rattle.apply.specs.declared.Applied.{Applied}
use Rattle.apply.specs.declared.WithHistory.{WithHistory}
use Rattle.apply.specs.declared.WithAll.{WithAll}
use Rattle.item_records.specs.declared.Counts.{Counts}
use Rattle.merge_files.specs.declared.Outcome.{Outcome}
use Rattle.merge_files.specs.declared.Outcome.TheVariants as O
use Rattle.answer.specs.declared.Answer.{Answer}

-- "Where an answer is an enum, a definition gives this paper's number and values for each of its cases, and the promises use that definition."
-- Accepted: no refusal has the number 0
abbrev pub tell_counts : ℕ → ℕ → ℕ → Answer
tell_counts a b c = record { refusal = 0; first = a; second = b; third = c }

-- "Refusal numbers": the columns "No." and "Carries", 0 after the last value
abbrev pub tell_refusal : Refusal → Answer
tell_refusal why =
    record { refusal = number why; first = (padded (values why)).first; second = (padded (values why)).second; third = (padded (values why)).third }

-- what was accepted is told in its own way, a refusal by its number and what it carries
abbrev pub told : {T : Type 0} → (T → Answer) → Result T Refusal → Answer
told tell (Ok x) = tell x
told tell (Err why) = tell_refusal why

-- "the exact length of the answer": in code points or bytes
abbrev pub tell_count : Result ℕ Refusal → Answer
tell_count = told (λ n. tell_counts n 0 0)

-- "the longest beginning of new that occurs in old, at its first occurrence; 0..0 if none"
abbrev pub of_range : Range → Answer
of_range r = tell_counts r.start r.end 0

-- "the longest beginning of new that occurs in old, at its first occurrence; 0..0 if none": or the refusal
abbrev pub tell_range : Result Range Refusal → Answer
tell_range = told of_range

-- "Elongating: as many operations, and as many tokens": how many there are of each
abbrev pub of_elongated : Written → Answer
of_elongated n = tell_counts n.operations n.tokens 0

-- "Elongating: as many operations, and as many tokens": or the refusal
abbrev pub tell_elongated : Result Written Refusal → Answer
tell_elongated = told of_elongated

-- "Rooms for a merge: operations, [..]; cursors": how many there are of each
abbrev pub of_merged : Merged → Answer
of_merged n = tell_counts n.operations n.cursors 0

-- "Rooms for a merge: operations, [..]; cursors": or the refusal
abbrev pub tell_merged : Result Merged Refusal → Answer
tell_merged = told of_merged

-- "A list's text", and its cursors: how many code points, how many cursors
abbrev pub of_applied : Applied → Answer
of_applied n = tell_counts n.text n.cursors 0

-- "A list's text": or the refusal
abbrev pub tell_applied : Result Applied Refusal → Answer
tell_applied = told of_applied

-- "History has one span for each operation": spans, and their text
abbrev pub of_history : WithHistory → Answer
of_history n = tell_counts n.spans n.text 0

-- "History has one span for each operation": or the refusal
abbrev pub tell_history : Result WithHistory Refusal → Answer
tell_history = told of_history

-- "apply, apply_with_history, apply_with_all": of the last. The cursors are as many as were lent, so their count is left out
abbrev pub of_all : WithAll → Answer
of_all n = tell_counts n.text n.spans n.history_text

-- "apply, apply_with_history, apply_with_all": or the refusal
abbrev pub tell_all : Result WithAll Refusal → Answer
tell_all = told of_all

-- "to_diff", and "Edit files": items, and their text
abbrev pub of_diff : Counts → Answer
of_diff n = tell_counts n.items n.text 0

-- "to_diff": or the refusal
abbrev pub tell_diff : Result Counts Refusal → Answer
tell_diff = told of_diff

-- "A file is believed for an original": 1, else 0
abbrev pub tell_believed : Bool → Answer
tell_believed true = tell_counts 1 0 0
tell_believed false = tell_counts 0 0 0

-- "writes the edit file or a line `refused=` with the number": how many bytes, and whether they are that line
abbrev pub tell_outcome : Outcome → Answer
tell_outcome (O.Merged bytes) = tell_counts bytes 0 0
tell_outcome (O.Refused bytes) = tell_counts bytes 1 0
tell_outcome O.Room = tell_refusal R.Room

-- "A public call's statement covers its result, numbers of a refusal included": there is an answer that the call's own statement holds of,
-- and what is told is that answer, told
pub record ToldBy {A : Type 0} (tell : A → Answer) (States : A → Type 0) (told : Answer) : Type 0 where
  pub answer : A
  pub states : States answer
  pub is : told ≡ tell answer
