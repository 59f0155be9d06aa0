-- Shown: where a cursor that moves with an operation goes: not before the shared text, not past what the operation adds, and no later than a cursor behind it; and which cursors move.
-- How: each is a case of the definition's test.
use Prim.Native.Nat.{ℕ, ◌+◌, ◌-◌, min, ◌≤◌, ◌<◌}
use mathlib.Core.Path.{◌≡◌}
use mathlib.Core.List.{List, [], ◌∷◌}
use native.Mathlib.Omega.{arith}
use native.Mathlib.Decide.{dec_lt}
use borrow.Author.Tests.{le-leb, lt-leb}
use Rattle.records.specs.declared.Cursor.{Cursor}
use Rattle.records.specs.Cursors.{at_index}
use Rattle.merging.specs.declared.Shift.{Shift}
use Rattle.merging.specs.Cursors.{Fine, moved_index, moved, behind}

module _ (t : Shift) where
  pub in_front : (i : ℕ) → i - t.seen ≤ t.removed → moved_index t i ≡ t.start + min (i - t.seen) t.shared
  unfolding moved_index
  in_front i h = rw (le-leb _ _ h, moved_index)

  pub in_rest : (i : ℕ) → t.removed < i - t.seen → moved_index t i ≡ t.merged + (i - t.seen) - t.removed
  unfolding moved_index
  in_rest i h = rw (lt-leb _ _ h, moved_index)

  pub moved_on : (c : Cursor) (cs : List Cursor) → c.index ≤ t.seen + t.length → moved t (c ∷ cs) ≡ at_index c (moved_index t c.index) ∷ moved t cs
  unfolding moved
  moved_on c cs h = rw (le-leb _ _ h, moved)

  pub moved_out : (c : Cursor) (cs : List Cursor) → t.seen + t.length < c.index → moved t (c ∷ cs) ≡ []
  unfolding moved
  moved_out c cs h = rw (lt-leb _ _ h, moved)

  pub behind_on : (c : Cursor) (cs : List Cursor) → c.index ≤ t.seen + t.length → behind t (c ∷ cs) ≡ behind t cs
  unfolding behind
  behind_on c cs h = rw (le-leb _ _ h, behind)

  pub behind_out : (c : Cursor) (cs : List Cursor) → t.seen + t.length < c.index → behind t (c ∷ cs) ≡ c ∷ cs
  unfolding behind
  behind_out c cs h = rw (lt-leb _ _ h, behind)

  module _ (f : Fine t) where
    pub index_within : (i : ℕ) → i ≤ t.seen + t.length → moved_index t i ≤ t.merged + (t.length - t.removed)
    index_within i h =
        elim (dec_lt t.removed (i - t.seen)) [
          | yes g ↦ omega (arith, in_rest i g, f.lost)
          | no g ↦ omega (arith, in_front i (omega arith), f.within)
        ]

    pub index_from : (i : ℕ) → t.start ≤ moved_index t i
    index_from i =
        elim (dec_lt t.removed (i - t.seen)) [
          | yes g ↦ omega (arith, in_rest i g, f.within)
          | no g ↦ omega (arith, in_front i (omega arith))
        ]

    -- of an operation that is lost wholly
    pub index_shared : (i : ℕ) → i ≤ t.seen + t.length → t.removed ≡ t.length → moved_index t i ≤ t.start + t.shared
    index_shared i h e = omega (arith, in_front i (omega arith))

    pub index_order : (i j : ℕ) → i ≤ j → moved_index t i ≤ moved_index t j
    index_order i j h =
        elim (dec_lt t.removed (i - t.seen)) [
          | yes g ↦ omega (arith, in_rest i g, in_rest j (omega arith))
          | no g ↦
              elim (dec_lt t.removed (j - t.seen)) [
                | yes d ↦ omega (arith, in_front i (omega arith), in_rest j d, f.within)
                | no d ↦ omega (arith, in_front i (omega arith), in_front j (omega arith))
              ]
        ]
