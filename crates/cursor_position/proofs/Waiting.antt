-- Where no cursor waits for an operation, none moves with it, whatever its place.
-- The definitions stop at the first cursor beyond the operation's end. Assumes nothing.
use Prim.Native.Nat.{ℕ, ◌+◌, ◌/◌, ◌≤◌, ◌<◌}
use mathlib.Core.Path.{◌≡◌, refl, sym, ap, ◌∙◌}
use mathlib.Core.Bool.{Bool, true, false}
use mathlib.Core.List.{List, [], ◌∷◌}
use lib.Dec.{leb}
use lib.ListN.{length}
use Rattle.records.specs.declared.Cursor.{Cursor}
use Rattle.records.specs.Cursors.{at_index, cursor_at}
use Rattle.records.proofs.CursorLaws.{from_more, from_none}
use Rattle.merging.specs.declared.Op.{Op}
use Rattle.merging.specs.declared.Op.TheVariants.{Delete, Insert, Retain}
use Rattle.merging.specs.declared.Shift.{Shift}
use Rattle.merging.specs.Cursors.{moved_index, moved, behind, moved_by, behind_of}
use Rattle.cursor_position.specs.declared.Progress.{Progress}
use Rattle.cursor_position.specs.Moves.{left_of, waits, Went}
use Rattle.cursor_position.proofs.Going.{went_none}

-- the first that has not moved tells of all
pub waits_first : (e : ℕ) (xs : List ℕ) (p : Progress) (c : Cursor) → p.next < length xs / 2 → c ≡ cursor_at xs p.next → leb c.index e ≡ waits e (left_of xs p)
unfolding waits
waits_first e xs p c h ec = ap (λ (x : Cursor). leb x.index e) ec ∙ sym (ap (waits e) (from_more xs p.next (length xs / 2) h))

pub waits_none : (e : ℕ) (xs : List ℕ) (p : Progress) → length xs / 2 ≤ p.next → false ≡ waits e (left_of xs p)
unfolding waits
waits_none e xs p h = rw (from_none xs p.next (length xs / 2) h)

moved_idle : (t : Shift) (cs : List Cursor) → waits (t.seen + t.length) cs ≡ false → moved t cs ≡ []
unfolding moved waits
moved_idle t [] h = refl
moved_idle t (c ∷ cs) h =
    ap (λ (b : Bool). elim b as (λ (x : Bool). List Cursor) [ true ↦ at_index c (moved_index t c.index) ∷ moved t cs | false ↦ [] ]) h

behind_idle : (t : Shift) (cs : List Cursor) → waits (t.seen + t.length) cs ≡ false → behind t cs ≡ cs
unfolding behind waits
behind_idle t [] h = refl
behind_idle t (c ∷ cs) h = ap (λ (b : Bool). elim b as (λ (x : Bool). List Cursor) [ true ↦ behind t cs | false ↦ c ∷ cs ]) h

pub none_moves : (a : Op) (t : Shift) (cs : List Cursor) → waits (t.seen + t.length) cs ≡ false → moved_by a t cs ≡ []
none_moves (Delete o l) t cs h = refl
none_moves (Insert o f n) t cs h = moved_idle t cs h
none_moves (Retain o l) t cs h = moved_idle t cs h

pub all_stay : (a : Op) (t : Shift) (cs : List Cursor) → waits (t.seen + t.length) cs ≡ false → behind_of a t cs ≡ cs
all_stay (Delete o l) t cs h = refl
all_stay (Insert o f n) t cs h = behind_idle t cs h
all_stay (Retain o l) t cs h = behind_idle t cs h

-- the room is then as it was
pub went_idle : (a : Op) (t : Shift) (xs d : List ℕ) (p : Progress) → waits (t.seen + t.length) (left_of xs p) ≡ false
    → Went xs (moved_by a t (left_of xs p)) (behind_of a t (left_of xs p)) d d p p
went_idle a t xs d p h = rw (none_moves a t (left_of xs p) h, all_stay a t (left_of xs p) h) (went_none xs d p)
