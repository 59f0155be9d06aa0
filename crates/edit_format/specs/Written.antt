-- The file of some items, line by line. Assumes nothing.
use Rattle.std.specs.Prelude.{ℕ, ◌+◌, List, [], ◌∷◌, ◌++◌, length}
use Rattle.edit_format.specs.Digits.{digits}
use Rattle.edit_format.specs.Items.{Item, Keep, Drop, Add, kept, dropped, added}

-- "`form=1`, `original=`, `result=`, `items=`, that many of `keep=`, `drop=` or `add=`, then `end=`": the keys, in ASCII
abbrev pub form_key : List ℕ
form_key = 102 ∷ 111 ∷ 114 ∷ 109 ∷ 61 ∷ []

-- "`original=`"
abbrev pub original_key : List ℕ
original_key = 111 ∷ 114 ∷ 105 ∷ 103 ∷ 105 ∷ 110 ∷ 97 ∷ 108 ∷ 61 ∷ []

-- "`result=`"
abbrev pub result_key : List ℕ
result_key = 114 ∷ 101 ∷ 115 ∷ 117 ∷ 108 ∷ 116 ∷ 61 ∷ []

-- "`items=`"
abbrev pub items_key : List ℕ
items_key = 105 ∷ 116 ∷ 101 ∷ 109 ∷ 115 ∷ 61 ∷ []

-- "`keep=`"
abbrev pub keep_key : List ℕ
keep_key = 107 ∷ 101 ∷ 101 ∷ 112 ∷ 61 ∷ []

-- "`drop=`"
abbrev pub drop_key : List ℕ
drop_key = 100 ∷ 114 ∷ 111 ∷ 112 ∷ 61 ∷ []

-- "`add=`"
abbrev pub add_key : List ℕ
add_key = 97 ∷ 100 ∷ 100 ∷ 61 ∷ []

-- "`end=`"
abbrev pub end_key : List ℕ
end_key = 101 ∷ 110 ∷ 100 ∷ 61 ∷ []

-- "Numbers are decimal", "Lines end in LF"
unfoldable pub number_line : List ℕ → ℕ → List ℕ
number_line k n = k ++ digits 10 n ++ 10 ∷ []

-- "one or more code points in lower-case hex, one space between"
unfoldable pub points : List ℕ → List ℕ
points [] = []
points (c ∷ []) = digits 16 c
points (c ∷ d ∷ cs) = digits 16 c ++ 32 ∷ points (d ∷ cs)

-- "`keep=`, `drop=` or `add=`": an item's line
unfoldable pub item_line : Item → List ℕ
item_line (Keep n) = number_line keep_key n
item_line (Drop n) = number_line drop_key n
item_line (Add cs) = add_key ++ points cs ++ 10 ∷ []

-- "that many of `keep=`, `drop=` or `add=`": the items' lines, in order
unfoldable pub item_lines : List Item → List ℕ
item_lines [] = []
item_lines (i ∷ is) = item_line i ++ item_lines is

-- "`original=`, `result=`, `items=`": what the header says
pub record Head : Type 0 where
  pub original : ℕ
  pub result : ℕ
  pub count : ℕ

-- "in this order: `form=1`, `original=`, `result=`, `items=`"
unfoldable pub head_lines : Head → List ℕ
head_lines h = number_line form_key 1 ++ number_line original_key h.original ++ number_line result_key h.result ++ number_line items_key h.count

-- "Keep plus drop is original, keep plus added is result"
unfoldable pub head_of : List Item → Head
head_of is = record { original = kept is + dropped is; result = kept is + added is; count = length is }

-- "then `end=` with the item count, and nothing after"
unfoldable pub written : List Item → List ℕ
written is = head_lines (head_of is) ++ item_lines is ++ number_line end_key (length is)
