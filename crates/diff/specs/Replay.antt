-- A diff as edits of a text, what its replay gives, and what it leaves unmentioned.
-- Assumes nothing.
use Rattle.std.specs.Prelude.{ℕ, ◌+◌, ◌-◌, List, [], ◌∷◌, ◌++◌, length, take, drop}
use Rattle.diff.specs.declared.diff.Item.{Item}
use Rattle.diff.specs.declared.diff.Item.TheVariants.{Retain, Delete, Insert, Neither}

-- "retains positive with neighbours joined, deletes negative and never joined, inserts as text"
pub data Edit : Type 0 where
  retain : ℕ → Edit
  delete : ℕ → Edit
  insert : List ℕ → Edit

-- "inserts as text": an item's edit; a text is its range of the lent code points; what is neither is refused before any replay
unfoldable pub edit_of : List ℕ → Item → Edit
edit_of lent (Retain n) = retain n
edit_of lent (Delete n) = delete n
edit_of lent (Insert s n) = insert (take n (drop s lent))
edit_of lent Neither = insert []

-- "diff items": the edits of all, in order
unfoldable pub edits_of : List ℕ → List Item → List Edit
edits_of lent [] = []
edits_of lent (i ∷ is) = edit_of lent i ∷ edits_of lent is

-- "Plain replay drops unmentioned text": the text of the edits over what is left of the original
unfoldable pub replayed : List ℕ → List Edit → List ℕ
replayed o [] = []
replayed o (retain n ∷ es) = take n o ++ replayed (drop n o) es
replayed o (delete n ∷ es) = replayed (drop n o) es
replayed o (insert s ∷ es) = s ++ replayed o es

-- "original text unmentioned": how much of it the edits mention
unfoldable pub mentioned : List Edit → ℕ
mentioned [] = 0
mentioned (retain n ∷ es) = n + mentioned es
mentioned (delete n ∷ es) = n + mentioned es
mentioned (insert s ∷ es) = mentioned es

-- "a covering replay ends with original text unmentioned": the code points left
unfoldable pub left : ℕ → List Edit → ℕ
left len es = len - mentioned es

-- how much of the original the edits retain
unfoldable pub kept : List Edit → ℕ
kept [] = 0
kept (retain n ∷ es) = n + kept es
kept (delete n ∷ es) = kept es
kept (insert s ∷ es) = kept es

-- how much text the edits insert
unfoldable pub added : List Edit → ℕ
added [] = 0
added (retain n ∷ es) = added es
added (delete n ∷ es) = added es
added (insert s ∷ es) = length s + added es
