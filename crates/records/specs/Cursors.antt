-- The cursors that a flat list of numbers holds, two numbers each. Assumes nothing.
use Rattle.std.specs.Prelude.{ℕ, zero, suc, ◌+◌, ◌*◌, ◌/◌, ◌≤◌, List, [], ◌∷◌, length, get_or, set}
use Rattle.records.specs.declared.Cursor.{Cursor}
use Rattle.records.specs.Rooms.{filled}

-- "A cursor moved to a new index keeps its identity number."
abbrev pub at_index : Cursor → ℕ → Cursor
at_index c i = record { identity = c.identity; index = i }

-- "its place among the cursors lent": the one at place i
abbrev pub cursor_at : List ℕ → ℕ → Cursor
cursor_at xs i = record { identity = get_or xs (i * 2) 0; index = get_or xs (i * 2 + 1) 0 }

-- "the cursors lent": the k from place i on
unfoldable pub cursors_from : List ℕ → ℕ → ℕ → List Cursor
cursors_from xs i zero = []
cursors_from xs i (suc k) = cursor_at xs i ∷ cursors_from xs (i + 1) k

-- "the cursors lent": all whole ones
unfoldable pub cursors_of : List ℕ → List Cursor
cursors_of xs = cursors_from xs 0 (length xs / 2)

-- "a cursor lies past the end": none does, no index is above e
unfoldable pub Within : ℕ → List Cursor → Type 0
Within e [] = Unit
Within e (c ∷ cs) = (c.index ≤ e) × Within e cs

-- "keeps its identity number", "a new index": the numbers of cursors
unfoldable pub flat_cursors : List Cursor → List ℕ
flat_cursors [] = []
flat_cursors (c ∷ cs) = c.identity ∷ c.index ∷ flat_cursors cs

-- "the cursors": one put at place i of the room d
abbrev pub put_cursor : List ℕ → ℕ → Cursor → List ℕ
put_cursor d i c = set (set d (i * 2) c.identity) (i * 2 + 1) c.index

-- "the cursors": those at the places i to n of the room d
abbrev pub cursor_room : List ℕ → ℕ → List Cursor → ℕ → List ℕ
cursor_room d i cs n = filled d (i * 2) (flat_cursors cs) (n * 2)
