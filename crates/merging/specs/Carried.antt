-- What is true of the cursors that come out of a merge. Assumes nothing.
use Rattle.std.specs.Prelude.{ℕ, ◌≡◌, List, [], ◌∷◌}
use Rattle.records.specs.declared.Cursor.{Cursor}
use Rattle.records.specs.Cursors.{Within}
use Rattle.cursors.specs.Sorted.{Ordered}

-- "keeps its identity number": the numbers, in order
unfoldable pub identities : List Cursor → List ℕ
identities [] = []
identities (c ∷ cs) = c.identity ∷ identities cs

-- "sorted stably": zs are the cursors xs and ys, each in its own order
pub data Woven : List Cursor → List Cursor → List Cursor → Type 0 where
  woven_none : Woven [] [] []
  woven_left : {xs ys zs : List Cursor} (c : Cursor) → Woven xs ys zs → Woven (c ∷ xs) ys (c ∷ zs)
  woven_right : {xs ys zs : List Cursor} (c : Cursor) → Woven xs ys zs → Woven xs (c ∷ ys) (c ∷ zs)

-- "A cursor moved to a new index keeps its identity number." `out` are the left's cursors cs and the right's ds at new indexes: each once, with its identity number, those of one side in their
-- order, and none past e
pub record Carried (cs ds out : List Cursor) (e : ℕ) : Type 0 where
  pub left : List Cursor
  pub right : List Cursor
  pub woven : Woven left right out
  pub same_left : identities left ≡ identities cs
  pub same_right : identities right ≡ identities ds
  pub ordered_left : Ordered left
  pub ordered_right : Ordered right
  pub within : Within e out
