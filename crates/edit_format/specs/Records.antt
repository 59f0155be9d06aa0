-- The items of a file as flat records, and back. Assumes nothing.
use Rattle.std.specs.Prelude.{ℕ, ◌+◌, List, [], ◌∷◌, ◌++◌, length, ℤ, pos, neg_ℤ}
use Rattle.edit_format.specs.Items.{Item, Keep, Drop, Add}

-- "diff items": kind 0 and a number, positive to keep and negative to drop; or kind 1, start and length of the text
unfoldable pub record_of : ℕ → Item → List ℤ
record_of at (Keep n) = pos 0 ∷ pos n ∷ pos 0 ∷ []
record_of at (Drop n) = pos 0 ∷ neg_ℤ (pos n) ∷ pos 0 ∷ []
record_of at (Add cs) = pos 1 ∷ pos at ∷ pos (length cs) ∷ []

-- "code points of text": how many an item uses
unfoldable pub size : Item → ℕ
size (Keep n) = 0
size (Drop n) = 0
size (Add cs) = length cs

-- "diff items": the records of a file's items, their texts one after the other from a place on
unfoldable pub records_from : ℕ → List Item → List ℤ
records_from at [] = []
records_from at (i ∷ is) = record_of at i ++ records_from (at + size i) is

-- "diff items": the records of a whole file
unfoldable pub records_of : List Item → List ℤ
records_of is = records_from 0 is
