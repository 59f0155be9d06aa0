-- Shown: the sheets' files are short, UTF-8, and edit files of these items; so the program merges their lists.
-- How: by computation.
use Prim.Native.Nat.{ℕ}
use mathlib.Core.Path.{◌≡◌, refl, ◌∙◌}
use mathlib.Core.List.{List, [], ◌∷◌}
use Rattle.utf8_read.specs.Grammar.{utf8_1, utf8_char}
use Rattle.utf8_read.specs.Table.{decode}
use Rattle.utf8_read.specs.Reading.{good_from, points_from_lem}
use Rattle.edit_format.specs.Digits.{digit, digit_of, is_digit}
use Rattle.numbers.specs.Points.{is_point}
use Rattle.edit_format.specs.Items.{Item, Keep, Drop, Add, kept, dropped, added, is_keep, ends_keep}
use Rattle.edit_format.specs.Reading.{Accepted, line_no, kind_key, key_of, hexes, several, base, fits_item, fits, kind_of, item_of, opened, next, begun, keyed, numbered, step, run, finish, read_file}
use Rattle.merge_files.specs.Program.{padding, lent_of, left_of, right_of, merged_of, of_files, result_of}
use Rattle.sheets.specs.Ascii.{ascii, lines}
use Rattle.sheets.specs.Lines.{abcdef, none, nothing}

abbrev pub letters : List ℕ
letters = 97 ∷ 98 ∷ 99 ∷ 100 ∷ 101 ∷ 102 ∷ []

abbrev pub lefts : List Item
lefts = Keep 2 ∷ Drop 2 ∷ Add (88 ∷ []) ∷ Keep 2 ∷ []

abbrev pub rights : List Item
rights = Keep 3 ∷ Drop 2 ∷ Add (89 ∷ []) ∷ Keep 1 ∷ []

reads : (read_file abcdef.left ≡ Accepted lefts) × ((read_file abcdef.right ≡ Accepted rights) × (read_file none ≡ Accepted []))
unfolding ascii lines read_file run step numbered keyed begun next opened item_of kind_of finish fits fits_item base several hexes key_of kind_key line_no is_digit digit_of digit kept dropped added ends_keep is_keep is_point
reads = (refl, (refl, refl))

passes : (result_of abcdef.original abcdef.left abcdef.right ≡ of_files padding letters (read_file abcdef.left) (read_file abcdef.right))
    × (result_of nothing.original nothing.left nothing.right ≡ of_files padding [] (read_file none) (read_file none))
unfolding result_of good_from points_from_lem utf8_char utf8_1 decode ascii lines
passes = (refl, refl)

pub opens_abcdef : result_of abcdef.original abcdef.left abcdef.right ≡ merged_of (lent_of padding letters lefts rights) (left_of lefts) (right_of lefts rights)
unfolding of_files
opens_abcdef = passes.0 ∙ (λ i. of_files padding letters (reads.0 i) (reads.1.0 i))

pub opens_nothing : result_of nothing.original nothing.left nothing.right ≡ merged_of (lent_of padding [] [] []) (left_of []) (right_of [] [])
unfolding of_files
opens_nothing = passes.1 ∙ (λ i. of_files padding [] (reads.1.1 i) (reads.1.1 i))
