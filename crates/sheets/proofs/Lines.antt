-- Shown: for the bytes of the sheets' files the program writes exactly the sheets' lines.
-- How: by computation, with what stands behind the added text left open: the checks see only how long it is and that it holds code points.
use Prim.Native.Nat.{ℕ}
use mathlib.Core.Path.{◌≡◌, refl, ◌∙◌}
use mathlib.Core.Bool.{◌&&◌}
use mathlib.Core.List.{List, [], ◌∷◌}
use native.Mathlib.Omega.{arith}
use lib.Dec.{leb}
use lib.ListN.{length, drop, length-replicate}
use Rattle.numbers.specs.Points.{is_point}
use Rattle.room.proofs.Answers.{same_room}
use Rattle.overlap.specs.Overlap.{overlap_of, longest, first}
use Rattle.records.specs.declared.Operation.{Operation}
use Rattle.records.specs.Tokens.{tokens_from, spelled}
use Rattle.cursors.specs.Sorted.{place, sorted}
use Rattle.verdict.specs.Verdicts.{and_then, sized, Verdict, accepted}
use Rattle.verdict.specs.Points.{points_from}
use Rattle.sizes.specs.Texts.{total, run_text, text_length}
use Rattle.sizes.specs.Sizes.{merging, list_fits}
use Rattle.shapes.specs.Shapes.{run_good, records_from}
use Rattle.shapes.specs.Tiling.{tiling_from, tiling_of, within_from}
use Rattle.checks.specs.Lists.{lists_verdict}
use Rattle.raw_lists.specs.Raws.{flat_spans, flat_keys}
use Rattle.elongate.specs.Elongated.{parts, last_right, first_left, joined_from, elongated, pieces_length, cooked_from, all_tokens}
use Rattle.merging.specs.Lent.{Lent, keys_of, lengths_of, sum}
use Rattle.merging.specs.Operations.{ops_from, records_of}
use Rattle.merging.specs.OrderRule.{content_rule, order_rule, priority_of, goes_left}
use Rattle.merging.specs.Meeting.{cut_at, kept_length, behind_cut, lost_of, met_of, used_up, appended}
use Rattle.merging.specs.Cursors.{overlap_place, place_of, shift_of, moved_index, moved, behind, ended}
use Rattle.merging.specs.Turn.{emitted, turn_with, turn_left, turn_right, taken_of, step_of}
use Rattle.merging.specs.Merge.{run, work, outcome_of, merge_of}
use Rattle.merging.specs.Outputs.{to_diff}
use Rattle.edit_format.specs.Digits.{digit, digits_in, digits}
use Rattle.edit_format.specs.Items.{kept, dropped, added, texts}
use Rattle.edit_format.specs.Written.{number_line, points, item_line, item_lines, head_lines, head_of, written}
use Rattle.edit_format.specs.Records.{size}
use Rattle.to_diff.specs.Items.{item_of, items_of, diff_of}
use Rattle.edit_list.specs.Raws.{point_tokens, run_of, runs_of, list_of}
use Rattle.merge_files.specs.Program.{merged, padding, text_of, tokens_of, lent_of, left_of, right_of, verdict_of, file_of, judged, merged_of}
use Rattle.merge_files.proofs.Files.{zeros_fine}
use Rattle.sheets.specs.Ascii.{ascii, lines}
use Rattle.sheets.specs.Lines.{abcdef, nothing, sheets, Hold}
use Rattle.sheets.proofs.Opening.{letters, lefts, rights, opens_abcdef, opens_nothing}

-- all that the verdict sees of the lent text: its length n, and what the check of its code points says
measured : ℕ → Verdict → List ℕ → List ℕ → List ℕ → List Operation → List Operation → Verdict
measured n p original spans keys left right =
    and_then
    (sized
    ((leb (length original) 65535 && leb n 131070) && (list_fits merging n spans keys left [] && list_fits merging n spans keys right [])))
    (and_then (and_then (points_from original 0) p)
    (and_then (and_then (records_from n spans keys left 0) (records_from n spans keys right 0))
    (and_then (and_then (tiling_of (length original) left) (tiling_of (length original) right))
    (and_then (within_from (text_length n spans keys left) [] 0) (within_from (text_length n spans keys right) [] 0)))))

verdict_is : (lent : Lent) (left right : List Operation)
    → verdict_of lent left right ≡ measured (length lent.inserted) (points_from lent.inserted 0) lent.original lent.spans lent.keys left right
unfolding measured verdict_of lists_verdict
verdict_is lent left right = refl

long : length padding ≡ 67583
unfolding padding
long = length-replicate {A = ℕ} 67583 0

points_behind : points_from (drop 2 padding) 2 ≡ accepted
unfolding padding
points_behind = zeros_fine 67581 2

accepts_abcdef : measured 67583 accepted letters (flat_spans (tokens_of lefts rights)) (flat_keys (tokens_of lefts rights)) (left_of lefts) (right_of lefts rights) ≡ accepted
unfolding measured points_from is_point total run_text run_good records_from tiling_from within_from tokens_from tokens_of flat_spans flat_keys all_tokens list_of runs_of run_of point_tokens elongated parts last_right first_left joined_from cooked_from pieces_length size texts
accepts_abcdef = refl

accepts_nothing : measured 67583 accepted [] (flat_spans (tokens_of [] [])) (flat_keys (tokens_of [] [])) (left_of []) (right_of [] []) ≡ accepted
unfolding measured points_from is_point total records_from tiling_from within_from tokens_of flat_spans flat_keys all_tokens list_of runs_of elongated parts cooked_from texts
accepts_nothing = refl

long_abcdef : length (text_of padding lefts rights) ≡ 67583
unfolding text_of texts
long_abcdef = same_room (88 ∷ 89 ∷ []) padding (omega (arith, long)) ∙ long

points_abcdef : points_from (text_of padding lefts rights) 0 ≡ accepted
unfolding text_of texts points_from is_point
points_abcdef = points_behind

long_nothing : length (text_of padding [] []) ≡ 67583
unfolding text_of texts
long_nothing = long

points_nothing : points_from (text_of padding [] []) 0 ≡ accepted
unfolding text_of texts padding
points_nothing = zeros_fine 67583 0

-- the merged file, whatever stands behind the added text
file_abcdef : (d : List ℕ) → file_of (lent_of d letters lefts rights) (left_of lefts) (right_of lefts rights) ≡ abcdef.written
unfolding file_of written head_lines head_of number_line points item_line item_lines digits digits_in digit kept dropped added diff_of items_of item_of to_diff ops_from merge_of outcome_of work run step_of taken_of turn_right turn_left turn_with emitted sorted place ended behind moved moved_index shift_of place_of overlap_place appended used_up met_of lost_of behind_cut kept_length cut_at goes_left priority_of order_rule content_rule records_of sum lengths_of keys_of spelled tokens_from overlap_of longest first text_of texts tokens_of flat_spans flat_keys all_tokens list_of runs_of run_of point_tokens elongated parts last_right first_left joined_from cooked_from pieces_length size ascii lines
file_abcdef d = refl

file_nothing : (d : List ℕ) → file_of (lent_of d [] [] []) (left_of []) (right_of [] []) ≡ nothing.written
unfolding file_of written head_lines head_of number_line item_lines digits digits_in digit kept dropped added diff_of items_of to_diff ops_from merge_of outcome_of work run step_of taken_of sorted place ended behind moved priority_of records_of texts tokens_of flat_spans flat_keys all_tokens list_of runs_of elongated parts cooked_from ascii lines
file_nothing d = refl

writes_abcdef : merged_of (lent_of padding letters lefts rights) (left_of lefts) (right_of lefts rights) ≡ merged abcdef.written
unfolding merged_of judged
writes_abcdef =
    let lent : Lent = lent_of padding letters lefts rights in
    let v : verdict_of lent (left_of lefts) (right_of lefts rights) ≡ accepted =
    verdict_is lent (left_of lefts) (right_of lefts rights)
    ∙ ((λ i. measured (long_abcdef i) (points_abcdef i) letters lent.spans lent.keys (left_of lefts) (right_of lefts rights)) ∙ accepts_abcdef)
    in
    λ i. judged (v i) (file_abcdef padding i)

writes_nothing : merged_of (lent_of padding [] [] []) (left_of []) (right_of [] []) ≡ merged nothing.written
unfolding merged_of judged
writes_nothing =
    let lent : Lent = lent_of padding [] [] [] in
    let v : verdict_of lent (left_of []) (right_of [] []) ≡ accepted =
    verdict_is lent (left_of []) (right_of [] [])
    ∙ ((λ i. measured (long_nothing i) (points_nothing i) [] lent.spans lent.keys (left_of []) (right_of [] [])) ∙ accepts_nothing)
    in
    λ i. judged (v i) (file_nothing padding i)

pub lines_hold : Hold sheets
lines_hold = (opens_abcdef ∙ writes_abcdef, (opens_nothing ∙ writes_nothing, tt))
