-- Shown: the merge sheets of the paper, and examples of our own.
-- How: by computation.
use mathlib.Core.Path.{refl}
use Rattle.overlap.specs.Overlap.{overlap_of, longest, first}
use Rattle.records.specs.Tokens.{tokens_from, spelled}
use Rattle.cursors.specs.Sorted.{place, sorted}
use Rattle.merging.specs.Lent.{keys_of, lengths_of, sum}
use Rattle.merging.specs.Operations.{ops_from, ops_in, records_of, outs_from}
use Rattle.merging.specs.OrderRule.{content_rule, order_rule, priority_of, goes_left}
use Rattle.merging.specs.Meeting.{cut_at, kept_length, behind_cut, lost_of, met_of, used_up, appended}
use Rattle.merging.specs.Cursors.{overlap_place, place_of, shift_of, moved_index, moved, behind, ended}
use Rattle.merging.specs.Turn.{emitted, turn_with, turn_left, turn_right, taken_of, step_of}
use Rattle.merging.specs.Merge.{run, work, outcome_of, merge_of}
use Rattle.merging.specs.Outputs.{text_of, history_of, to_diff}
use Rattle.merging.specs.Sheets.{Hold, sheets, examples}

both_hold : Hold sheets × Hold examples
unfolding merge_of outcome_of work run step_of taken_of turn_right turn_left turn_with emitted sorted place ended behind moved moved_index shift_of place_of overlap_place appended used_up met_of lost_of behind_cut kept_length cut_at goes_left priority_of order_rule content_rule records_of outs_from ops_in ops_from sum lengths_of keys_of spelled tokens_from overlap_of longest first text_of history_of to_diff
both_hold = (
  (record { merges = refl; says = refl; tells = refl; writes = refl }, (record { merges = refl; says = refl; tells = refl; writes = refl }, (record { merges = refl; says = refl; tells = refl; writes = refl }, tt))),
  (record { merges = refl; says = refl; tells = refl; writes = refl }, (record { merges = refl; says = refl; tells = refl; writes = refl }, (record { merges = refl; says = refl; tells = refl; writes = refl }, (record { merges = refl; says = refl; tells = refl; writes = refl }, (record { merges = refl; says = refl; tells = refl; writes = refl }, (record { merges = refl; says = refl; tells = refl; writes = refl }, tt)))))),
)

pub sheets_hold : Hold sheets
sheets_hold = both_hold.0

pub examples_hold : Hold examples
examples_hold = both_hold.1
