-- The paper's table of refusals: the number of each case and the values that it carries. A later number is a clause more.
-- Assumes nothing.
use Rattle.std.specs.Prelude.{ℕ, List, [], ◌∷◌, get_or}
use Rattle.refusal.specs.declared.Values.{Values}
use Rattle.refusal.specs.declared.Refusal.{Refusal}
use Rattle.refusal.specs.declared.Refusal.TheVariants.{Record, Tiling, Size, CodePoint, Cursor, Short, Room, Line, Unmentioned, Utf8}

-- "Refusal numbers": the column "No."
abbrev pub number : Refusal → ℕ
number (Record i) = 1
number (Tiling i) = 2
number Size = 3
number (CodePoint i) = 4
number (Cursor p) = 5
number (Short p r a) = 6
number Room = 7
number (Line l) = 8
number (Unmentioned n) = 9
number (Utf8 o) = 10

-- "Refusal numbers": the column "Carries", in its order
abbrev pub values : Refusal → List ℕ
values (Record i) = i ∷ []
values (Tiling i) = i ∷ []
values Size = []
values (CodePoint i) = i ∷ []
values (Cursor p) = p ∷ []
values (Short p r a) = p ∷ r ∷ a ∷ []
values Room = []
values (Line l) = l ∷ []
values (Unmentioned n) = n ∷ []
values (Utf8 o) = o ∷ []

-- the carried values as three numbers, 0 after the last
abbrev pub padded : List ℕ → Values
padded vs = record { first = get_or vs 0 0; second = get_or vs 1 0; third = get_or vs 2 0 }
