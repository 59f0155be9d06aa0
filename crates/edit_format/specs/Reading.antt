-- What a reader finds in any bytes: the line that is being read, the rules of each line, and one step a byte. Its state holds the items
-- read, so what is found so far is in plain sight, and a file read in parts takes the same steps. Assumes nothing.
use Rattle.std.specs.Prelude.{ℕ, suc, ◌+◌, ◌*◌, Bool, true, false, not, ◌&&◌, List, [], ◌∷◌, ◌++◌, length, get_or, ltb, leb, eqb}
use Rattle.room.specs.Choice.{pick}
use Rattle.edit_format.specs.Digits.{digit_of, is_digit}
use Rattle.numbers.specs.Points.{is_point}
use Rattle.edit_format.specs.Items.{Item, Keep, Drop, Add, kept, dropped, added, ends_keep}
use Rattle.edit_format.specs.Written.{Head, form_key, original_key, result_key, items_key, keep_key, drop_key, add_key, end_key}

-- "`keep=`, `drop=` or `add=`": the kinds of an item's line
pub data Kind : Type 0 where
  keeping dropping adding : Kind

-- "Lines end in LF, in this order": the line that is being read, with what was read before it
pub data Line : Type 0 where
  form original : Line
  result : ℕ → Line
  items : ℕ → ℕ → Line
  item : Head → List Item → Kind → Line
  ending : Head → List Item → Line

-- "first bad line, from 1"
unfoldable pub line_no : Line → ℕ
line_no form = 1
line_no original = 2
line_no (result o) = 3
line_no (items o r) = 4
line_no (item h is k) = length is + 5
line_no (ending h is) = length is + 5

-- "`keep=`, `drop=` or `add=`": the key of each kind
unfoldable pub kind_key : Kind → List ℕ
kind_key keeping = keep_key
kind_key dropping = drop_key
kind_key adding = add_key

-- "`form=1`, `original=`, `result=`, `items=`, that many of `keep=`, `drop=` or `add=`, then `end=`"
unfoldable pub key_of : Line → List ℕ
unfolding kind_key
key_of form = form_key
key_of original = original_key
key_of (result o) = result_key
key_of (items o r) = items_key
key_of (item h is k) = kind_key k
key_of (ending h is) = end_key

-- "`add=` one or more code points in lower-case hex": this kind alone
unfoldable pub hexes : Kind → Bool
hexes keeping = false
hexes dropping = false
hexes adding = true

-- "`add=` one or more code points in lower-case hex": this line alone has more numbers than one, and in hex
unfoldable pub several : Line → Bool
unfolding hexes
several form = false
several original = false
several (result o) = false
several (items o r) = false
several (item h is k) = hexes k
several (ending h is) = false

-- "Numbers are decimal, `add=` .. in lower-case hex"
unfoldable pub base : Line → ℕ
unfolding several
base l = pick (several l) 16 10

-- "keep and drop are at least 1; two keeps never follow each other", "a total over its size to the line that passes it"
unfoldable pub fits_item : List Item → Kind → List ℕ → ℕ → Bool
fits_item is keeping cs n = not (ends_keep is) && (leb 1 n && leb (kept is + dropped is + n) 65535)
fits_item is dropping cs n = leb 1 n && leb (kept is + dropped is + n) 65535
fits_item is adding cs n = is_point n && leb (added is + length cs + 1) 131070

-- the number n, with the numbers cs before it in its line, breaks no rule there: "`form=1`", "Sizes as above", "`result=` has no size",
-- "`end=` with the item count"
unfoldable pub fits : Line → List ℕ → ℕ → Bool
unfolding fits_item
fits form cs n = eqb n 1
fits original cs n = leb n 65535
fits (result o) cs n = true
fits (items o r) cs n = leb n 8192
fits (item h is k) cs n = ltb (length is) 8192 && fits_item is k cs n
fits (ending h is) cs n = eqb n h.count

-- "Lines end in LF, in this order": where the reader stands between two bytes
pub data State : Type 0 where
  -- this line is bad
  bad : ℕ → State
  -- so many bytes of the line's key were read
  key : Line → ℕ → State
  -- a number must begin, after these in its line
  gap : Line → List ℕ → State
  -- in a number, after these in its line
  num : Line → List ℕ → ℕ → State
  -- an item line must begin
  open' : Head → List Item → State
  -- the end line was read
  after : Head → List Item → State

-- "`keep=`, `drop=` or `add=`": an item's kind, by the first byte of its line; a byte that begins no key is found to be bad by the key
unfoldable pub kind_of : ℕ → Kind
kind_of b = pick (eqb b 107) keeping (pick (eqb b 100) dropping adding)

-- "`keep=`, `drop=` or `add=`": the item of a line of this kind that holds the numbers cs and then n
unfoldable pub item_of : Kind → List ℕ → ℕ → Item
item_of keeping cs n = Keep n
item_of dropping cs n = Drop n
item_of adding cs n = Add (cs ++ n ∷ [])

-- "that many of `keep=`, `drop=` or `add=`, then `end=`"
unfoldable pub opened : Head → List Item → State
opened h is = pick (eqb (length is) h.count) (key (ending h is) 0) (open' h is)

-- "Lines end in LF, in this order": past the LF of a good line
unfoldable pub next : Line → List ℕ → ℕ → State
unfolding opened item_of
next form cs n = key original 0
next original cs n = key (result n) 0
next (result o) cs n = key (items o n) 0
next (items o r) cs n = opened (record { original = o; result = r; count = n }) []
next (item h is k) cs n = opened h (is ++ item_of k cs n ∷ [])
next (ending h is) cs n = after h is

-- "Numbers are decimal", "in lower-case hex": a number's first digit
unfoldable pub begun : Line → List ℕ → ℕ → State
begun l cs b = pick (is_digit (base l) b) (num l cs (digit_of b)) (bad (line_no l))

-- "`form=1`, `original=`, `result=`, `items=`, that many of `keep=`, `drop=` or `add=`": a byte of the key, or past it
unfoldable pub keyed : Line → ℕ → ℕ → State
keyed l i b =
    pick (ltb i (length (key_of l)))
    (pick (eqb b (get_or (key_of l) i 0)) (key l (suc i)) (bad (line_no l)))
    (begun l [] b)

-- "no leading zeros", "one space between", "Lines end in LF": a number's next digit, or LF, or a space
unfoldable pub numbered : Line → List ℕ → ℕ → ℕ → State
numbered l cs n b =
    pick (is_digit (base l) b)
    (pick (eqb n 0) (bad (line_no l)) (num l cs (n * base l + digit_of b)))
    (pick (fits l cs n)
    (pick (eqb b 10) (next l cs n) (pick (several l && eqb b 32) (gap l (cs ++ n ∷ [])) (bad (line_no l))))
    (bad (line_no l)))

-- one byte more; "bytes after the end to the line after"
unfoldable pub step : State → ℕ → State
unfolding keyed begun numbered
step (bad l) b = bad l
step (key l i) b = keyed l i b
step (gap l cs) b = begun l cs b
step (num l cs n) b = numbered l cs n b
step (open' h is) b = keyed (item h is (kind_of b)) 0 b
step (after h is) b = bad (length is + 6)

-- "Lines end in LF, in this order": one step for each byte
unfoldable pub run : State → List ℕ → State
run s [] = s
run s (b ∷ bs) = run (step s b) bs

-- "Edit files: 8 then 7": what is found in a file, before any room is looked at
pub data Found : Type 0 where
  Accepted : List Item → Found
  -- refusal 8, with the line
  Refused : ℕ → Found

-- "An early end is charged to the line cut or missing"; "with all lines good a false sum is charged to line 2, then 3"
unfoldable pub finish : State → Found
finish (bad l) = Refused l
finish (key l i) = Refused (line_no l)
finish (gap l cs) = Refused (line_no l)
finish (num l cs n) = Refused (line_no l)
finish (open' h is) = Refused (length is + 5)
finish (after h is) =
    pick (eqb (kept is + dropped is) h.original)
    (pick (eqb (kept is + added is) h.result) (Accepted is) (Refused 3))
    (Refused 2)

-- what is found in the bytes that are left
abbrev pub found : State → List ℕ → Found
found s bs = finish (run s bs)

-- "Lines end in LF, in this order: `form=1`, ..": what is found in the bytes of a file
unfoldable pub read_file : List ℕ → Found
read_file bs = finish (run (key form 0) bs)

-- "A file is believed for an original when it is accepted and its counts fit, `original=` being its length"
unfoldable pub believes : Found → ℕ → Bool
believes (Accepted is) n = eqb (kept is + dropped is) n
believes (Refused l) n = false
