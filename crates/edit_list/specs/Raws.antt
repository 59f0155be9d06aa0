-- The raw list that the program makes of an edit file's items. Assumes nothing.
use Rattle.std.specs.Prelude.{ℕ, ◌+◌, List, [], ◌∷◌}
use Rattle.raw_lists.specs.Raws.{Piece, Run}
use Rattle.elongate.specs.Elongated.{elongated}
use Rattle.edit_format.specs.Items.{Item, Keep, Drop, Add}
use Rattle.edit_format.specs.Records.{size}
use Rattle.edit_format.specs.Reading.{Found, Accepted, Refused}

-- "makes each added code point a joinable token keyed by itself": the code points that stand from place `at` of the lent text on
unfoldable pub point_tokens : ℕ → List ℕ → List Piece
point_tokens at [] = []
point_tokens at (c ∷ cs) = record { start = at; length = 1; key = c; joins = 3 } ∷ point_tokens (at + 1) cs

-- "each keep or drop one joinable token": n code points of the lent text, which is long enough
abbrev pub part_token : ℕ → Piece
part_token n = record { start = 0; length = n; key = 0; joins = 3 }

-- "A raw operation is a kind and its tokens": of an item whose text stands at `at`
unfoldable pub run_of : ℕ → Item → Run
run_of at (Keep n) = record { kind = 2; tokens = part_token n ∷ [] }
run_of at (Drop n) = record { kind = 0; tokens = part_token n ∷ [] }
run_of at (Add cs) = record { kind = 1; tokens = point_tokens at cs }

-- "makes each added code point a joinable token keyed by itself, each keep or drop one joinable token": the raw list of a file's items, their texts one after the other from place `at` on
unfoldable pub runs_of : ℕ → List Item → List Run
runs_of at [] = []
runs_of at (i ∷ is) = run_of at i ∷ runs_of (at + size i) is

-- "elongates"
unfoldable pub list_of : ℕ → List Item → List Run
list_of at is = elongated (runs_of at is)

-- the items of an edit file that is accepted
unfoldable pub items_in : Found → List Item
items_in (Accepted is) = is
items_in (Refused l) = []
