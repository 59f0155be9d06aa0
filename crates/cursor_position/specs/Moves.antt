-- What moving cursors asks and leaves: the cursors of a side that are still to come, and the room that holds the others. Assumes
-- nothing.
use Rattle.std.specs.Prelude.{ℕ, ◌+◌, ◌-◌, ◌*◌, ◌/◌, ◌≤◌, ◌≡◌, Bool, false, Option, Some, None, List, [], ◌∷◌, ◌++◌, leb, length}
use Rattle.room.specs.Placed.{answered}
use Rattle.records.specs.declared.Cursor.{Cursor}
use Rattle.records.specs.Cursors.{at_index, cursors_from, flat_cursors}
use Rattle.merging.specs.declared.Shift.{Shift}
use Rattle.numbers.specs.Sizes.{most}
use Rattle.cursor_position.specs.declared.Progress.{Progress}

-- "Sums are exact": those of a shift do not wrap
pub record Fits (t : Shift) : Type 0 where
  pub own : t.seen + t.length ≤ most
  pub rest : t.merged + t.length ≤ most
  pub front : t.start ≤ t.merged

-- "the cursors lent": those of a side that have not moved
abbrev pub left_of : List ℕ → Progress → List Cursor
left_of xs p = cursors_from xs p.next (length xs / 2 - p.next)

-- "those up to the operation's end in their own text move": whether any does, of cursors sorted by index
unfoldable pub waits : ℕ → List Cursor → Bool
waits end [] = false
waits end (c ∷ cs) = leb c.index end

-- an index that is given, or none, is what f says
abbrev pub Places : {F : Type 0} → (F → ℕ → Option ℕ → Type 0) → F → (ℕ → Option ℕ) → Type 0
Places post place f = (i : ℕ) (r : Option ℕ) → post place i r → r ≡ f i

-- of a side's cursors those that go, each to the index that f gives it, up to the first that is given none
unfoldable pub gone : (ℕ → Option ℕ) → List Cursor → List Cursor
gone f [] = []
gone f (c ∷ cs) = elim (f c.index) [ Some i ↦ at_index c i ∷ gone f cs | None ↦ [] ]

-- and those that do not
unfoldable pub stayed : (ℕ → Option ℕ) → List Cursor → List Cursor
stayed f [] = []
stayed f (c ∷ cs) = elim (f c.index) [ Some i ↦ stayed f cs | None ↦ c ∷ cs ]

-- "cursors, both counts together": the room has place for all that have not moved
abbrev pub Spacious : List ℕ → Progress → List ℕ → Type 0
Spacious xs p d = (p.count + (length xs / 2 - p.next)) * 2 ≤ length d

-- Of the cursors that had not moved the first went into the room, as ms, behind those that it held; bs are left. A room that was
-- an answer and what was there behind it is so again, the answer being longer by ms.
pub record Went (xs : List ℕ) (ms bs : List Cursor) (d d' : List ℕ) (p r : Progress) : Type 0 where
  pub next : r.next ≡ p.next + length ms
  pub count : r.count ≡ p.count + length ms
  pub left : left_of xs r ≡ bs
  pub space : r.count + (length xs / 2 - r.next) ≡ p.count + (length xs / 2 - p.next)
  pub grows : (cs : List Cursor) (d₀ : List ℕ) → p.count ≡ length cs → d ≡ answered (flat_cursors cs) d₀ → d' ≡ answered (flat_cursors (cs ++ ms)) d₀
