-- What the program's steps say to one another. Assumes nothing.
use Rattle.std.specs.Prelude.{ℕ, ◌+◌, ◌≤◌, ◌≡◌, ◌&&◌, List, ◌++◌, length, Result, Ok, Err}
use Rattle.room.specs.Choice.{pick}
use Rattle.records.specs.Operations.{operations_of}
use Rattle.sizes.specs.Texts.{total, claimed_by, inserted_by}
use Rattle.verdict.specs.Points.{points_from}
use Rattle.raw_lists.specs.Raws.{flat_spans, flat_keys}
use Rattle.edit_format.specs.Items.{kept, dropped, texts}
use Rattle.edit_format.specs.Reading.{Found, Accepted, Refused, read_file}
use Rattle.edit_format.specs.Written.{written}
use Rattle.merging.specs.Lent.{lent_of as given}
use Rattle.to_diff.specs.Items.{diff_of}
use Rattle.to_diff.specs.Answers.{verdict_on}
use Rattle.edit_list.specs.Raws.{items_in}
use Rattle.edit_list.specs.Lists.{used_by}
use Rattle.refusal.specs.Numbers.{number}
use Rattle.refusal.specs.declared.Refusal.{Refusal}
use Rattle.merge_files.specs.declared.Uses.{Uses}
use Rattle.merge_files.specs.Program.{Output, merged, merged_of, tokens_of, left_of, right_of, sized, utf8}
use Rattle.verdict.specs.Verdicts.{accepted}

-- the edit file of a list
abbrev pub diff_result : List ℕ → List ℕ → List ℕ → List ℕ → List ℕ → Output
diff_result original text spans keys ops = merged (written (diff_of (given original text spans keys) (operations_of ops)))

-- a list whose diff can be written
pub record Diffable (original text spans keys ops : List ℕ) : Type 0 where
  pub accepted : verdict_on (given original text spans keys) (operations_of ops) ≡ accepted
  pub few : length (operations_of ops) ≤ 682
  pub little : total (inserted_by (length text) spans keys) (operations_of ops) ≤ 2048

-- two lists merged, or the refusal
abbrev pub merge_result : List ℕ → List ℕ → List ℕ → List ℕ → List ℕ → List ℕ → Output
merge_result original text spans keys left right = merged_of (given original text spans keys) (operations_of left) (operations_of right)

-- lists for which the program's rooms are long enough
pub record Mergeable (text spans keys left right : List ℕ) : Type 0 where
  pub left_few : length (operations_of left) ≤ 341
  pub right_few : length (operations_of right) ≤ 341
  pub left_tokens : total claimed_by (operations_of left) ≤ 1024
  pub right_tokens : total claimed_by (operations_of right) ≤ 1024
  pub left_little : total (inserted_by (length text) spans keys) (operations_of left) ≤ 1024
  pub right_little : total (inserted_by (length text) spans keys) (operations_of right) ≤ 1024

-- "writes the edit file or a line `refused=` with the number": of a refusal the number alone
abbrev pub by_number : {A : Type 0} → Result A Refusal → Result A ℕ
by_number (Ok x) = Ok x
by_number (Err r) = Err (number r)

-- "a bad edit file is 8": what each of two files uses of the original, where both are edit files
unfoldable pub uses_of : Found → Found → Result Uses ℕ
uses_of (Accepted ls) (Accepted rs) = Ok (record { left = kept ls + dropped ls; right = kept rs + dropped rs })
uses_of (Accepted ls) (Refused l) = Err 8
uses_of (Refused l) f = Err 8

-- "It checks in this order, original, left, right each time": the first refusal before the merge's own, or what the files use
unfoldable pub first_of : List ℕ → List ℕ → List ℕ → Result Uses ℕ
first_of original left right =
    pick (sized original && (sized left && sized right))
    (pick (utf8 original && (utf8 left && utf8 right)) (uses_of (read_file left) (read_file right)) (Err 10))
    (Err 3)

-- two edit files that were accepted
pub record Files (left right : List ℕ) : Type 0 where
  pub left_short : length left ≤ 2048
  pub right_short : length right ≤ 2048
  pub left_accepted : read_file left ≡ Accepted (items_in (read_file left))
  pub right_accepted : read_file right ≡ Accepted (items_in (read_file right))

-- two such files, what each uses of its original, and an original for both
pub record Fitting (original left right : List ℕ) (of_left of_right : ℕ) : Type 0 where
  pub files : Files left right
  pub good : points_from original 0 ≡ accepted
  pub short : length original ≤ 2048
  pub uses_left : of_left ≡ used_by left
  pub uses_right : of_right ≡ used_by right

-- a room for the code points that they add, as long as what either uses of the original
pub record Texted (left right text : List ℕ) : Type 0 where
  pub good : points_from text 0 ≡ accepted
  pub text_long : 2048 ≤ length text
  pub text_most : length text ≤ 131070
  pub left_long : used_by left ≤ length text
  pub right_long : used_by right ≤ length text

-- rooms for their lists
pub record Rooms (lefts rights spans keys : List ℕ) : Type 0 where
  pub lefts_fit : 2046 ≤ length lefts
  pub rights_fit : 2046 ≤ length rights
  pub spans_fit : 4096 ≤ length spans
  pub keys_fit : 2048 ≤ length keys

-- their merge, over the code points that they add and nothing behind them
abbrev pub good_result : List ℕ → Found → Found → Output
good_result original l r =
    merged_of
    (given original (texts (items_in l) ++ texts (items_in r)) (flat_spans (tokens_of (items_in l) (items_in r))) (flat_keys (tokens_of (items_in l) (items_in r))))
    (left_of (items_in l)) (right_of (items_in l) (items_in r))
