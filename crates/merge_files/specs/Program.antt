-- The program, of three files that can be read: what it writes. Assumes nothing.
use Rattle.std.specs.Prelude.{ℕ, ◌≡◌, Bool, ◌&&◌, List, [], ◌∷◌, ◌++◌, length, replicate, leb, Ok, Err}
use Rattle.refusal.specs.Numbers.{number}
use Rattle.room.specs.Choice.{pick}
use Rattle.room.specs.Placed.{answered}
use Rattle.records.specs.declared.Operation.{Operation}
use Rattle.sizes.specs.Sizes.{merging}
use Rattle.checks.specs.Lists.{lists_verdict}
use Rattle.raw_lists.specs.Raws.{Piece, flat_spans, flat_keys}
use Rattle.elongate.specs.Elongated.{cooked, cooked_from, all_tokens}
use Rattle.utf8_read.specs.Reading.{good_end, points}
use Rattle.edit_format.specs.Items.{Item, texts}
use Rattle.edit_format.specs.Reading.{Found, Accepted, Refused, read_file}
use Rattle.edit_format.specs.Written.{number_line, written}
use Rattle.merging.specs.Lent.{Lent, rules_of}
use Rattle.merging.specs.Merge.{merge_of}
use Rattle.to_diff.specs.Items.{diff_of}
use Rattle.edit_list.specs.Raws.{list_of}
use Rattle.merge_files.specs.declared.Outcome.{Outcome}
use Rattle.merge_files.specs.declared.Outcome.TheVariants as O
use Rattle.verdict.specs.Verdicts.{Verdict}

-- "writes the edit file or a line `refused=` with the number"
pub data Output : Type 0 where
  merged : List ℕ → Output
  refused : ℕ → Output

-- "`refused=`", in ASCII
abbrev pub refused_key : List ℕ
refused_key = 114 ∷ 101 ∷ 102 ∷ 117 ∷ 115 ∷ 101 ∷ 100 ∷ 61 ∷ []

-- "writes the edit file or a line `refused=` with the number": the bytes
unfoldable pub bytes_of : Output → List ℕ
bytes_of (merged bytes) = bytes
bytes_of (refused n) = number_line refused_key n

-- "each keep or drop one joinable token": it is a range of the lent text, so that text is long enough for the longest: zeros, where no code point was added
unfoldable pub padding : List ℕ
padding = replicate 67583 0

-- "one lent inserted text": the added code points of both files, left before right, in a text d
unfoldable pub text_of : List ℕ → List Item → List Item → List ℕ
text_of d ls rs = answered (texts ls ++ texts rs) d

-- "elongates": the tokens of both lists, left before right
unfoldable pub tokens_of : List Item → List Item → List Piece
tokens_of ls rs = all_tokens (list_of 0 ls) ++ all_tokens (list_of (length (texts ls)) rs)

-- "All lists of one call share one lent inserted text" and its tokens
abbrev pub lent_of : List ℕ → List ℕ → List Item → List Item → Lent
lent_of d original ls rs =
    record { original = original; inserted = text_of d ls rs; spans = flat_spans (tokens_of ls rs); keys = flat_keys (tokens_of ls rs) }

-- "elongates": the left list, and the right one, whose tokens stand behind
abbrev pub left_of : List Item → List Operation
left_of ls = cooked (list_of 0 ls)

-- "elongates": the right list, whose tokens stand behind the left one's
abbrev pub right_of : List Item → List Item → List Operation
right_of ls rs = cooked_from (list_of (length (texts ls)) rs) 0 (length (all_tokens (list_of 0 ls)))

-- "then the merge's refusals, so counts that don't fit give 2"
unfoldable pub verdict_of : Lent → List Operation → List Operation → Verdict
verdict_of lent left right = lists_verdict merging lent.original lent.inserted lent.spans lent.keys left right [] []

-- "merges, and writes the edit file"
unfoldable pub file_of : Lent → List Operation → List Operation → List ℕ
file_of lent left right = written (diff_of lent (merge_of (rules_of lent) left right [] []).operations)

-- "writes the edit file or a line `refused=` with the number": by the merge's verdict
unfoldable pub judged : Verdict → List ℕ → Output
judged (Ok u) file = merged file
judged (Err r) file = refused (number r)

-- "merges, and writes the edit file", or "the merge's refusals"
unfoldable pub merged_of : Lent → List Operation → List Operation → Output
merged_of lent left right = judged (verdict_of lent left right) (file_of lent left right)

-- "a bad edit file is 8"
unfoldable pub of_files : List ℕ → List ℕ → Found → Found → Output
of_files d original (Accepted ls) (Accepted rs) = merged_of (lent_of d original ls rs) (left_of ls) (right_of ls rs)
of_files d original (Accepted ls) (Refused l) = refused 8
of_files d original (Refused l) f = refused 8

-- "an oversize file is 3", "at most 2,048 bytes each"
abbrev pub sized : List ℕ → Bool
sized bytes = leb (length bytes) 2048

-- "bad UTF-8 is 10"
abbrev pub utf8 : List ℕ → Bool
utf8 bytes = leb (length bytes) (good_end bytes)

-- "It checks in this order, original, left, right each time: [..] an oversize file is 3; bad UTF-8 is 10; a bad edit file is 8; then the
-- merge's refusals"
unfoldable pub result_of : List ℕ → List ℕ → List ℕ → Output
result_of original left right =
    pick (sized original && (sized left && sized right))
    (pick (utf8 original && (utf8 left && utf8 right)) (of_files padding (points original) (read_file left) (read_file right)) (refused 10))
    (refused 3)

-- "writes the edit file or a line `refused=` with the number": how many bytes, and of which kind
unfoldable pub kind_of : Output → Outcome
kind_of (merged bytes) = O.Merged (length bytes)
kind_of (refused n) = O.Refused (length (number_line refused_key n))

-- "a lent room is shorter than asked": by the bytes' length
unfoldable pub outcome_of : Output → ℕ → Outcome
outcome_of r room = pick (leb (length (bytes_of r)) room) (kind_of r) O.Room

-- "On success a room past its answer is unchanged"
unfoldable pub room_after : Output → List ℕ → List ℕ
room_after r d = pick (leb (length (bytes_of r)) (length d)) (answered (bytes_of r) d) d

-- "A public call's statement covers its result, numbers of a refusal included, and the lent buffers": what the call answers, and what stands in the room after it
pub record Written (result : Output) (out out' : List ℕ) (r : Outcome) : Type 0 where
  pub answer : r ≡ outcome_of result (length out)
  pub room : out' ≡ room_after result out
