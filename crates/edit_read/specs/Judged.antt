-- What the reader knows between two lines: the code's numbers, and the items that they stand for. Each record says that what is left of the
-- bytes still decides what the whole file is found to be. Assumes nothing.
use Rattle.std.specs.Prelude.{◌≡◌, ℕ, ◌+◌, ◌≤◌, ◌<◌, Bool, true, false, ⊤, List, [], ◌∷◌, ◌++◌, length, drop, Option, Some, None, Result, Ok, Err}
use Rattle.refusal.specs.declared.Refusal.{Refusal}
use Rattle.refusal.specs.declared.Refusal.TheVariants.{Line}
use Rattle.edit_format.specs.Items.{Item, Add, kept, dropped, added, ends_keep}
use Rattle.edit_format.specs.Written.{Head}
use Rattle.edit_format.specs.Reading.{Kind, State, gap, item, keeping, dropping, adding, opened, Accepted, Refused, found, read_file}
use Rattle.edit_lines.specs.declared.Number.{Number}
use Rattle.edit_lines.specs.Scan.{cap, line_at}
use Rattle.edit_read.specs.declared.Header.{Header}
use Rattle.edit_read.specs.declared.Points.{Points}
use Rattle.edit_read.specs.declared.Sums.{Sums}
use Rattle.edit_read.specs.declared.Accepted.{Accepted as Counted}

-- the number of a line, or the line is refused
abbrev pub NumberRead : List ℕ → List ℕ → ℕ → ℕ → Result Number Refusal → Type 0
NumberRead k p at l (Ok n) = line_at k p at ≡ Some n
NumberRead k p at l (Err e) = (line_at k p at ≡ None) × (e ≡ Line l)

-- a rule of a line holds, or the line is refused
abbrev pub Ruled : Bool → ℕ → Result ⊤ Refusal → Type 0
Ruled b l (Ok u) = b ≡ true
Ruled b l (Err e) = (b ≡ false) × (e ≡ Line l)

-- the refusal of the file's first bad line
abbrev pub Refuses : List ℕ → Refusal → Type 0
Refuses p e = (l : ℕ) × (e ≡ Line l) × (read_file p ≡ Refused l)

-- a good header, or its first bad line
abbrev pub HeadFound : List ℕ → Result Header Refusal → Type 0
HeadFound p (Ok t) =
    (h : Head) × (t.original ≡ h.original) × (t.result ≡ cap h.result) × (t.count ≡ h.count) × (h.count ≤ 8192) × (t.next ≤ length p)
    × (read_file p ≡ found (opened h []) (drop t.next p))
HeadFound p (Err e) = Refuses p e

-- the statement of the header's reader
pub record HeadRead (p : List ℕ) (r : Result Header Refusal) : Type 0 where
  pub says : HeadFound p r

-- the code points of an add line from place at on, after items whose text is a code points long
abbrev pub PointsFound : Head → List Item → List ℕ → ℕ → ℕ → Option Points → Type 0
PointsFound h is p at a (Some t) =
    (cs : List ℕ) × (length cs ≡ t.count) × (found (gap (item h is adding) []) (drop at p) ≡ found (opened h (is ++ Add cs ∷ [])) (drop t.next p))
PointsFound h is p at a None = found (gap (item h is adding) []) (drop at p) ≡ Refused (length is + 5)

-- their number fits, and the place behind them lies in the bytes
abbrev pub PointsFit : List ℕ → ℕ → Option Points → Type 0
PointsFit p a (Some t) = (a + t.count ≤ 131070) × (t.next ≤ length p)
PointsFit p a None = Unit {0}

-- the statement of the reader of code points: of whatever header and items stand before
pub record PointsRead (p : List ℕ) (at a : ℕ) (r : Option Points) : Type 0 where
  pub fit : PointsFit p a r
  pub says : (h : Head) (is : List Item) → added is ≡ a → length is < 8192 → PointsFound h is p at a r

-- the sums of the items
pub record Holds (s : Sums) (is : List Item) : Type 0 where
  pub used : s.used ≡ kept is + dropped is
  pub keeps : s.kept ≡ kept is
  pub text : s.added ≡ added is
  pub joined : s.joined ≡ ends_keep is

-- the sums are within their sizes, and the place lies in the bytes
pub record Within (p : List ℕ) (s : Sums) : Type 0 where
  pub next : s.next ≤ length p
  pub used : s.used ≤ 65535
  pub keeps : s.kept ≤ s.used
  pub text : s.added ≤ 131070

-- a keep's line, or a drop's
abbrev pub part_kind : Bool → Kind
part_kind true = keeping
part_kind false = dropping

-- one item more, or a bad line
abbrev pub ItemFound : State → Head → List Item → List ℕ → Sums → Option Sums → Type 0
ItemFound st h is p s (Some t) =
    (x : Item) × Holds t (is ++ x ∷ []) × Within p t × (found st (drop s.next p) ≡ found (opened h (is ++ x ∷ [])) (drop t.next p))
ItemFound st h is p s None = found st (drop s.next p) ≡ Refused (length is + 5)

-- the statement of the reader of an item
pub record ItemRead (st : Head → List Item → State) (p : List ℕ) (s : Sums) (r : Option Sums) : Type 0 where
  pub says : (h : Head) (is : List Item) → Holds s is → length is < 8192 → ItemFound (st h is) h is p s r

-- after i of the items that the header t counts
pub record Judging (p : List ℕ) (t : Header) (s : Sums) (i : ℕ) : Type 0 where
  pub head : Head
  pub items : List Item
  pub original : t.original ≡ head.original
  pub result : t.result ≡ cap head.result
  pub count : t.count ≡ head.count
  pub few : head.count ≤ 8192
  pub many : length items ≡ i
  pub most : i ≤ t.count
  pub holds : Holds s items
  pub within : Within p s
  pub first : read_file p ≡ found (opened head []) (drop t.next p)
  pub left : read_file p ≡ found (opened head items) (drop s.next p)

-- what is found in all of the bytes, and where the first item's line begins
abbrev pub Verdicts : List ℕ → Result Counted Refusal → Type 0
Verdicts p (Ok a) =
    (is : List Item) × (h : Head) × (read_file p ≡ Accepted is) × (a.items ≡ length is) × (a.text ≡ added is) × (a.original ≡ kept is + dropped is)
    × (h.count ≡ length is) × (found (opened h []) (drop a.first p) ≡ Accepted is)
Verdicts p (Err e) = Refuses p e

-- the statement of the judge
pub record Judged (p : List ℕ) (r : Result Counted Refusal) : Type 0 where
  pub says : Verdicts p r
