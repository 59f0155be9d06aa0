-- The text that a state of the reader stands after.
-- An item more at the end is its line more at the end. Assumes nothing.
use mathlib.Core.Path.{◌≡◌, refl}
use mathlib.Core.Bool.{false}
use mathlib.Core.List.{List, [], ◌∷◌, ◌++◌, append_assoc, append-nil}
use Prim.Native.Nat.{ℕ}
use lib.ListN.{length, take}
use Rattle.edit_format.specs.Digits.{digits}
use Rattle.edit_format.specs.Items.{Item}
use Rattle.edit_format.specs.Written.{form_key, original_key, result_key, end_key, number_line, points, item_line, item_lines, head_lines}
use Rattle.edit_format.specs.Reading.{Line, form, original, result, items, item, ending, State, bad, key, gap, num, open', after, key_of, base, several}

-- the lines before a line
abbrev pub before : Line → List ℕ
before form = []
before original = number_line form_key 1
before (result o) = number_line form_key 1 ++ number_line original_key o
before (items o r) = number_line form_key 1 ++ number_line original_key o ++ number_line result_key r
before (item h is k) = head_lines h ++ item_lines is
before (ending h is) = head_lines h ++ item_lines is

-- code points with a space after each
unfoldable pub spaced : List ℕ → List ℕ
spaced [] = []
spaced (c ∷ cs) = digits 16 c ++ 32 ∷ spaced cs

-- all items stand before the end line
abbrev pub Sound : Line → Type 0
Sound form = Unit {0}
Sound original = Unit {0}
Sound (result o) = Unit {0}
Sound (items o r) = Unit {0}
Sound (item h is k) = Unit {0}
Sound (ending h is) = length is ≡ h.count

-- the bytes p lead to the state
abbrev pub Reads : State → List ℕ → Type 0
Reads (bad l) p = Unit {0}
Reads (key l i) p = (p ≡ before l ++ take i (key_of l)) × Sound l
Reads (gap l cs) p = (p ≡ before l ++ key_of l ++ spaced cs) × Sound l × (several l ≡ false → cs ≡ [])
Reads (num l cs n) p = (p ≡ before l ++ key_of l ++ spaced cs ++ digits (base l) n) × Sound l × (several l ≡ false → cs ≡ [])
Reads (open' h is) p = p ≡ head_lines h ++ item_lines is
Reads (after h is) p = (p ≡ head_lines h ++ item_lines is ++ number_line end_key (length is)) × (length is ≡ h.count)

pub spaced_snoc : (cs : List ℕ) (n : ℕ) → spaced (cs ++ n ∷ []) ≡ spaced cs ++ digits 16 n ++ 32 ∷ []
unfolding spaced
spaced_snoc [] n = refl
spaced_snoc (c ∷ cs) n = rw (spaced_snoc cs n) (simp append_assoc)

pub points_snoc : (cs : List ℕ) (n : ℕ) → points (cs ++ n ∷ []) ≡ spaced cs ++ digits 16 n
unfolding spaced points
points_snoc [] n = refl
points_snoc (c ∷ []) n = simp append_assoc
points_snoc (c ∷ d ∷ cs) n = rw (points_snoc (d ∷ cs) n) (simp append_assoc)

pub items_snoc : (is : List Item) (i : Item) → item_lines (is ++ i ∷ []) ≡ item_lines is ++ item_line i
unfolding item_lines
items_snoc [] i = append-nil (item_line i)
items_snoc (j ∷ is) i = rw (items_snoc is i) (simp append_assoc)

-- LF ends a line with one number
pub line_ends : (B K : List ℕ) (n : ℕ) → (B ++ K ++ [] ++ digits 10 n) ++ 10 ∷ [] ≡ B ++ number_line K n
unfolding number_line
line_ends B K n = simp (append_assoc, append-nil)
