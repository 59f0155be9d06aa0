-- What the second pass knows and writes, line by line: the file is accepted, with the items js, by what is left of its bytes.
-- Assumes nothing.
use Rattle.std.specs.Prelude.{◌≡◌, true, ℕ, ◌+◌, ◌*◌, ◌≤◌, ◌<◌, List, [], ◌∷◌, ◌++◌, length, drop, ℤ}
use Rattle.room.specs.Placed.{placed}
use Rattle.edit_format.specs.Tests.{begins}
use Rattle.edit_format.specs.Items.{Item, Add, added, texts}
use Rattle.edit_format.specs.Written.{Head}
use Rattle.edit_format.specs.Reading.{Kind, State, kind_key, key, gap, item, adding, opened, Found, Accepted, Refused, found, read_file}
use Rattle.edit_format.specs.Records.{record_of, records_of, size}
use Rattle.edit_lines.specs.Scan.{Closes}
use Rattle.edit_read.specs.declared.Spot.{Spot}

-- from a place on, what is left of the bytes is accepted in the state that stands there, with text that fits a room of m
pub record Accepting (st : Head → List Item → State) (p : List ℕ) (at start m : ℕ) : Type 0 where
  pub head : Head
  pub done : List Item
  pub items : List Item
  pub few : length done < 8192
  pub place : added done ≡ start
  pub text : added items ≤ m
  pub left : found (st head done) (drop at p) ≡ Accepted items

-- the code points of an add line, and where the file goes on
abbrev pub PointsIn : Head → List Item → List Item → List ℕ → ℕ → List ℕ → List ℕ → Spot → Type 0
PointsIn h is js p start d d' r =
    (cs : List ℕ) × (r.start ≡ start + length cs) × (d' ≡ placed d start cs) × (found (opened h (is ++ Add cs ∷ [])) (drop r.next p) ≡ Accepted js)

-- the text goes on within its room, no earlier than it began
abbrev pub SpotIn : ℕ → ℕ → Spot → Type 0
SpotIn start n r = (start ≤ r.start) × (r.start ≤ n)

-- the statement of `put_points`: of whatever header and items stand before
pub record PointsPut (p : List ℕ) (at start : ℕ) (d d' : List ℕ) (r : Spot) : Type 0 where
  pub inside : SpotIn start (length d) r
  pub says :
      (h : Head) (is js : List Item) → length is < 8192 → added is ≡ start → added js ≤ length d
      → found (gap (item h is adding) []) (drop at p) ≡ Accepted js → PointsIn h is js p start d d' r

-- the line of a keep or a drop stands at a place: its key, and a number no larger than any original
pub record Numbered (k : Kind) (p : List ℕ) (at : ℕ) : Type 0 where
  pub keyed : begins (kind_key k) (drop at p) ≡ true
  pub number : Closes p (at + 5)

-- a keep or a drop uses no text
abbrev pub NumberIn : Head → List Item → List Item → List ℕ → ℕ → ℕ → List ℤ → List ℤ → Spot → Type 0
NumberIn h is js p start place d d' r =
    (x : Item) × (r.start ≡ start) × (size x ≡ 0) × (texts (x ∷ []) ≡ []) × (d' ≡ placed d place (record_of start x))
    × (found (opened h (is ++ x ∷ [])) (drop r.next p) ≡ Accepted js)

-- the statement of a keep or a drop
pub record NumberPut (p : List ℕ) (k : Kind) (at start place : ℕ) (d d' : List ℤ) (r : Spot) : Type 0 where
  pub says :
      (h : Head) (is js : List Item) → length is < 8192 → found (key (item h is k) 0) (drop at p) ≡ Accepted js
      → NumberIn h is js p start place d d' r

-- one item in both rooms
abbrev pub ItemIn : Head → List Item → List Item → List ℕ → ℕ → ℕ → List ℤ → List ℤ → List ℕ → List ℕ → Spot → Type 0
ItemIn h is js p start place d d' e e' r =
    (x : Item) × (r.start ≡ start + size x) × (d' ≡ placed d place (record_of start x)) × (e' ≡ placed e start (texts (x ∷ [])))
    × (found (opened h (is ++ x ∷ [])) (drop r.next p) ≡ Accepted js)

-- the statement of an item
pub record ItemPut (st : Head → List Item → State) (p : List ℕ) (at start place : ℕ) (d d' : List ℤ) (e e' : List ℕ) (r : Spot) : Type 0 where
  pub says :
      (h : Head) (is js : List Item) → length is < 8192 → added is ≡ start → added js ≤ length e → found (st h is) (drop at p) ≡ Accepted js
      → ItemIn h is js p start place d d' e e' r

-- what an accepted file puts into the rooms
unfoldable pub records_found : Found → List ℤ
records_found (Accepted is) = records_of is
records_found (Refused l) = []

-- the same of the text's room
unfoldable pub text_found : Found → List ℕ
text_found (Accepted is) = texts is
text_found (Refused l) = []

-- a file that was judged, and rooms that its answer fits into
pub record Fillable (p : List ℕ) (first count n m : ℕ) : Type 0 where
  pub items : List Item
  pub head : Head
  pub accepted : read_file p ≡ Accepted items
  pub many : count ≡ length items
  pub counted : head.count ≡ length items
  pub records : 3 * length items ≤ n
  pub text : added items ≤ m
  pub left : found (opened head []) (drop first p) ≡ Accepted items
