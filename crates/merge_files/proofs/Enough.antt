-- Shown: whatever the three files, the program writes at most 14,393 bytes.
-- How: short files have few items and add few code points, the merge has no more of either than both together, and each line of its file is short.
use Prim.Native.Nat.{ℕ, ◌+◌, ◌*◌, ◌≤◌}
use mathlib.Core.Path.{◌≡◌, refl}
use mathlib.Core.Bool.{Bool, true, false, ◌&&◌}
use mathlib.Core.List.{List, []}
use native.Mathlib.Omega.{arith}
use lib.ListN.{length}
use borrow.Author.Tests.{leb-true, le-leb}
use Rattle.refusal.specs.Numbers.{number}
use Rattle.room.specs.Choice.{pick}
use Rattle.room.specs.Placed.{answered}
use Rattle.records.specs.declared.Operation.{Operation}
use Rattle.sizes.specs.declared.Limits.{Limits}
use Rattle.sizes.specs.Sizes.{merging}
use Rattle.shapes.specs.Accepted.{AcceptedList}
use Rattle.checks.proofs.Accepted.{accepted_left, accepted_right}
use Rattle.room.proofs.Bools.{and_left, and_right}
use Rattle.utf8_read.specs.Reading.{points}
use Rattle.edit_format.specs.Items.{Item, added}
use Rattle.edit_format.specs.Reading.{Found, Accepted, Refused, read_file}
use Rattle.edit_format.proofs.TextLaws.{texts_length}
use Rattle.written_lines.proofs.Numbers.{few_digits}
use Rattle.written_lines.proofs.Counting.{line_length}
use Rattle.merging.specs.Lent.{Lent, rules_of}
use Rattle.merging.specs.Merge.{merge_of}
use Rattle.merging.specs.Operations.{ops_from}
use Rattle.merging.specs.Outputs.{to_diff}
use Rattle.merging_laws.proofs.Accepted.{merged_accepted, merged_operations_most, merged_text_most}
use Rattle.merging_laws.proofs.Outputs.{diff_fits}
use Rattle.to_diff.specs.Items.{diff_of}
use Rattle.to_diff.proofs.Joining.{length_items, added_items}
use Rattle.outputs.proofs.GoodItems.{accepts, diff_good}
use Rattle.edit_list.proofs.Bounds.{file_long}
use Rattle.merge_files.specs.declared.Outcome.{Outcome}
use Rattle.merge_files.specs.Program.{Output, refused, refused_key, bytes_of, padding, lent_of, left_of, right_of, verdict_of, file_of, judged, merged_of, of_files, sized, utf8, result_of, kind_of, outcome_of, room_after, Written}
use Rattle.merge_files.proofs.Merging.{number_most, merged_fine}
use Rattle.merge_files.proofs.Short.{file_most}
use Rattle.merge_files.proofs.Added.{left_few, right_few, left_adds, right_adds}
use Rattle.std.specs.Prelude.{Ok, Err}
use Rattle.verdict.specs.Verdicts.{Verdict, accepted}

refusal_most : (n : ℕ) → n ≤ 10 → length (bytes_of (refused n)) ≤ 14393
unfolding bytes_of
refusal_most n h = omega (arith, line_length refused_key n, few_digits 10 n)

judged_most : (v : Verdict) (file : List ℕ) → (v ≡ accepted → length file ≤ 14393) → length (bytes_of (judged v file)) ≤ 14393
unfolding judged bytes_of
judged_most (Ok u) file h = h refl
judged_most (Err r) file h = refusal_most (number r) (number_most r)

-- two accepted edit files
module _ (d original : List ℕ) (ls rs : List Item) where
  abbrev lent : Lent
  lent = lent_of d original ls rs

  module _ (few : (4 * length ls + 2 * added ls) + (4 * length rs + 2 * added rs) ≤ 4096) where
    module _ (passed : verdict_of lent (left_of ls) (right_of ls rs) ≡ accepted) where
      abbrev ops : List Operation
      ops = (merge_of (rules_of lent) (left_of ls) (right_of ls rs) [] []).operations

      al : AcceptedList merging original lent.inserted lent.spans lent.keys (left_of ls) []
      unfolding verdict_of
      al = accepted_left merging original lent.inserted lent.spans lent.keys (left_of ls) (right_of ls rs) [] [] passed

      ar : AcceptedList merging original lent.inserted lent.spans lent.keys (right_of ls rs) []
      unfolding verdict_of
      ar = accepted_right merging original lent.inserted lent.spans lent.keys (left_of ls) (right_of ls rs) [] [] passed

      -- what the merged list has at most of operations and of text
      abbrev most : Limits
      most = record { operations = length ls + length rs; tokens = 16384; text = added ls + added rs; cursors = 512 }

      listed : AcceptedList most original lent.inserted lent.spans lent.keys ops (merge_of (rules_of lent) (left_of ls) (right_of ls rs) [] []).cursors
      listed =
          let m = merged_accepted lent (left_of ls) (right_of ls rs) [] [] al ar in
          record {
            original_most = m.original_most;
            text_most = m.text_most;
            operations_most = omega (arith, merged_operations_most lent (left_of ls) (right_of ls rs) [] [] al ar, left_few ls rs, right_few ls rs);
            cursors_most = m.cursors_most;
            tokens_most = m.tokens_most;
            inserted_most = omega (arith, merged_text_most lent (left_of ls) (right_of ls rs) [] [] al ar, left_adds ls rs (length lent.inserted) lent.keys, right_adds ls rs (length lent.inserted) lent.keys);
            shapes = m.shapes;
            tiles = m.tiles;
            within = m.within;
          }

      file_enough : length (file_of lent (left_of ls) (right_of ls rs)) ≤ 14393
      unfolding file_of diff_of verdict_of
      file_enough =
          let is : List Item = diff_of lent ops in
          let f = diff_fits lent most ops _ listed in
          let i : length is ≤ length ls + length rs = omega (arith, length_items (to_diff lent (ops_from 0 ops)), f.items) in
          let t : added is ≤ added ls + added rs = omega (arith, added_items (to_diff lent (ops_from 0 ops)), f.text) in
          omega (arith, few, i, t, file_most is (diff_good lent ops (accepts lent ops (merged_fine lent (left_of ls) (right_of ls rs) passed))) (omega (arith, few, t)))

    merged_enough : length (bytes_of (merged_of lent (left_of ls) (right_of ls rs))) ≤ 14393
    unfolding merged_of
    merged_enough = judged_most (verdict_of lent (left_of ls) (right_of ls rs)) (file_of lent (left_of ls) (right_of ls rs)) file_enough

files_enough : (d original l r : List ℕ) → length l ≤ 2048 → length r ≤ 2048 → (f g : Found) → read_file l ≡ f → read_file r ≡ g
    → length (bytes_of (of_files d original f g)) ≤ 14393
unfolding of_files
files_enough d original l r nl nr (Accepted ls) (Accepted rs) e h =
    merged_enough d original ls rs (omega (arith, file_long l e, file_long r h, texts_length ls, texts_length rs))
files_enough d original l r nl nr (Accepted ls) (Refused k) e h = refusal_most 8 (omega arith)
files_enough d original l r nl nr (Refused k) g e h = refusal_most 8 (omega arith)

-- by the tests of the definition
picked : (a b : Bool) (x : Output) → (a ≡ true → length (bytes_of x) ≤ 14393) → length (bytes_of (pick a (pick b x (refused 10)) (refused 3))) ≤ 14393
picked true true x h = h refl
picked true false x h = refusal_most 10 (omega arith)
picked false b x h = refusal_most 3 (omega arith)

pub enough : (original left right : List ℕ) → length (bytes_of (result_of original left right)) ≤ 14393
unfolding result_of
enough original left right =
    picked (sized original && (sized left && sized right)) (utf8 original && (utf8 left && utf8 right))
    (of_files padding (points original) (read_file left) (read_file right))
    (λ t.
    let s : sized left && sized right ≡ true = and_right (sized original) (sized left && sized right) t in
    files_enough padding (points original) left right (leb-true (length left) 2048 (and_left (sized left) (sized right) s))
    (leb-true (length right) 2048 (and_right (sized left) (sized right) s)) (read_file left) (read_file right) refl refl)

-- so a room of that many bytes is long enough for every result
pub in_room : (original left right out out' : List ℕ) (z : Outcome) → 14393 ≤ length out → Written (result_of original left right) out out' z
    → (z ≡ kind_of (result_of original left right)) × (out' ≡ answered (bytes_of (result_of original left right)) out)
unfolding outcome_of room_after
in_room original left right out out' z h w =
    let t = le-leb (length (bytes_of (result_of original left right))) (length out) (omega (arith, enough original left right)) in
    (rw t at w.answer, rw t at w.room)
