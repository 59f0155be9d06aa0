-- What `list_of` asks, and what it leaves in its rooms. Assumes nothing.
use Rattle.std.specs.Prelude.{ℕ, ◌+◌, ◌*◌, ◌≤◌, ◌≡◌, List, length}
use Rattle.room.specs.Placed.{placed, answered}
use Rattle.records.specs.Operations.{flat_operations}
use Rattle.verdict.specs.Points.{points_from}
use Rattle.raw_lists.specs.Raws.{flat_spans, flat_keys}
use Rattle.elongate.specs.Elongated.{cooked_from, all_tokens}
use Rattle.edit_format.specs.Items.{Item, kept, dropped, texts}
use Rattle.edit_format.specs.Reading.{read_file, Accepted}
use Rattle.edit_list.specs.declared.Listed.{Listed}
use Rattle.edit_list.specs.Raws.{list_of, items_in}
use Rattle.verdict.specs.Verdicts.{accepted as fine}

-- "Keep plus drop is original": how much of the original a file's items use
abbrev pub used_by : List ℕ → ℕ
used_by file = kept (items_in (read_file file)) + dropped (items_in (read_file file))

-- "at most 2,048 bytes each"; a text that is long enough for every keep and drop, and rooms for all that so short a file can hold: its items
-- are at most 341, its code points and its tokens at most 1,024
pub record Listable (file : List ℕ) (at first : ℕ) (text operations spans keys : List ℕ) : Type 0 where
  pub accepted : read_file file ≡ Accepted (items_in (read_file file))
  pub short : length file ≤ 2048
  pub good : points_from text 0 ≡ fine
  pub long : used_by file ≤ length text
  pub most : length text ≤ 131070
  pub text_fits : at + 1024 ≤ length text
  pub operations_fit : 2046 ≤ length operations
  pub spans_fit : (first + 1024) * 2 ≤ length spans
  pub keys_fit : first + 1024 ≤ length keys

-- the file's list: its text at `at` of the lent text, its tokens from place `first` on
pub record Lists (is : List Item) (at first : ℕ) (text text' operations operations' spans spans' keys keys' : List ℕ) (r : Listed) : Type 0 where
  pub text_is : text' ≡ placed text at (texts is)
  pub operations_are : operations' ≡ answered (flat_operations (cooked_from (list_of at is) 0 first)) operations
  pub spans_are : spans' ≡ placed spans (first * 2) (flat_spans (all_tokens (list_of at is)))
  pub keys_are : keys' ≡ placed keys first (flat_keys (all_tokens (list_of at is)))
  pub many_operations : r.operations ≡ length (list_of at is)
  pub many_tokens : r.tokens ≡ length (all_tokens (list_of at is))
  pub many_points : r.text ≡ length (texts is)
  -- bounds that callers need
  pub operations_most : r.operations ≤ 341
  pub tokens_most : r.tokens ≤ 1024
  pub points_most : r.text ≤ 1024
