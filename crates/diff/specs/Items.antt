-- The items of a diff, as they stand in the flat slice of numbers that is lent, and the edits that they ask for.
-- Assumes nothing.
use Rattle.std.specs.Prelude.{ℕ, zero, suc, ◌+◌, ◌*◌, ◌/◌, List, [], ◌∷◌, length, get_or, ℤ, pos, negsuc, leb}
use Rattle.room.specs.Choice.{pick}
use Rattle.diff.specs.declared.diff.Item.{Item}
use Rattle.diff.specs.declared.diff.Item.TheVariants.{Retain, Delete, Insert, Neither}

-- "retains positive with neighbours joined, deletes negative and never joined"; "0 retains nothing; the size of the most negative 64-bit number is
-- 9223372036854775808"
unfoldable pub numbered : ℤ → Item
numbered (pos n) = Retain n
numbered (negsuc n) = Delete (suc n)

-- "token or range outside what was lent": a text's start and length, of the number of code points lent
unfoldable pub ranged : ℤ → ℤ → ℕ → Item
ranged (pos s) (pos n) lent = pick (leb (s + n) lent) (Insert s n) Neither
ranged (pos s) (negsuc n) lent = Neither
ranged (negsuc s) n lent = Neither

-- "unknown kind": a number is 0, a text 1
unfoldable pub item_of : ℤ → ℤ → ℤ → ℕ → Item
item_of (pos zero) a b lent = numbered a
item_of (pos (suc zero)) a b lent = ranged a b lent
item_of (pos (suc (suc k))) a b lent = Neither
item_of (negsuc k) a b lent = Neither

-- "diff items": the one at a place: three numbers, its kind, its number or start, and its length
unfoldable pub item_at : List ℤ → ℕ → ℕ → Item
item_at xs lent i = item_of (get_or xs (i * 3) (pos 0)) (get_or xs (i * 3 + 1) (pos 0)) (get_or xs (i * 3 + 2) (pos 0)) lent

-- "diff items": so many from a place on
unfoldable pub items_from : List ℤ → ℕ → ℕ → ℕ → List Item
items_from xs lent i zero = []
items_from xs lent i (suc k) = item_at xs lent i ∷ items_from xs lent (i + 1) k

-- "diff items": all whole ones of the slice
unfoldable pub items_of : List ℤ → ℕ → List Item
items_of xs lent = items_from xs lent 0 (length xs / 3)
