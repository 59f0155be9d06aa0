-- Cursors read from a flat list and put into a room: one more, none, stored in front of others, read back.
-- By the places of a record's two numbers; the rest is Rooms. Assumes nothing.
use Prim.Native.Nat.{ℕ, zero, suc, ◌+◌, ◌-◌, ◌*◌, ◌/◌, ◌≤◌, ◌<◌}
use mathlib.Core.Path.{◌≡◌, refl, sym, ◌∙◌, ap}
use mathlib.Core.List.{List, [], ◌∷◌, ◌++◌, append_assoc, append-nil}
use native.Mathlib.Omega.{arith}
use native.Mathlib.Numerals.{add-one}
use lib.ListN.{length, get_or, take, drop, set, length-append, length-take, length-drop, length-set}
use lib.Seq.{sets-eq, take_at, drop-cons, drop-set-lt, get_or-set_other, get_or-append_seam, get_or-append-add, length-take-le}
use Rattle.room.specs.Placed.{answered}
use Rattle.records.specs.declared.Cursor.{Cursor}
use Rattle.records.specs.Cursors.{cursor_at, cursors_from, cursors_of, flat_cursors, put_cursor, cursor_room}
use Rattle.records.specs.Rooms.{filled}
use Rattle.records.proofs.Rooms.{filled_same, length_filled, get_d_filled, filled_parts, filled_again, filled_start, filled_none, answered_more}

pub length_flat : (cs : List Cursor) → length (flat_cursors cs) ≡ length cs * 2
unfolding flat_cursors
length_flat [] = refl
length_flat (c ∷ cs) = omega (arith, length_flat cs)

pub flat_append : (cs ds : List Cursor) → flat_cursors (cs ++ ds) ≡ flat_cursors cs ++ flat_cursors ds
unfolding flat_cursors
flat_append [] ds = refl
flat_append (c ∷ cs) ds = ap (λ (r : List ℕ). c.identity ∷ c.index ∷ r) (flat_append cs ds)

pub length_from : (d : List ℕ) (i k : ℕ) → length (cursors_from d i k) ≡ k
unfolding cursors_from
length_from d i zero = refl
length_from d i (suc k) = ap suc (length_from d (i + 1) k)

pub length_of_lem : (d : List ℕ) → length (cursors_of d) ≡ length d / 2
unfolding cursors_of
length_of_lem d = length_from d 0 (length d / 2)

-- the cursors from i to n: one, and those from i + 1; or none
pub from_more : (d : List ℕ) (i n : ℕ) → i < n → cursors_from d i (n - i) ≡ cursor_at d i ∷ cursors_from d (i + 1) (n - (i + 1))
unfolding cursors_from
from_more d i n h = let e : n - i ≡ suc (n - (i + 1)) = omega arith in rw e

pub from_none : (d : List ℕ) (i n : ℕ) → n ≤ i → cursors_from d i (n - i) ≡ []
unfolding cursors_from
from_none d i n h = let e : n - i ≡ 0 = omega arith in rw e

-- a cursor stored where its two numbers go
put_eq : (d : List ℕ) (i : ℕ) (c : Cursor) → i * 2 + 2 ≤ length d → put_cursor d i c ≡ filled d (i * 2) (flat_cursors (c ∷ [])) (i * 2 + 2)
unfolding filled flat_cursors
put_eq d i c h = rw (add-one (i * 2)) (sets-eq (c.identity ∷ c.index ∷ []) d (i * 2) h)

pub length_put : (d : List ℕ) (i : ℕ) (c : Cursor) → length (put_cursor d i c) ≡ length d
length_put d i c = simp length-set

at_put : (d : List ℕ) (i : ℕ) (c : Cursor) (j : ℕ) → i < j → cursor_at (put_cursor d i c) j ≡ cursor_at d j
at_put d i c j h =
    rw (
      get_or-set_other (set d (i * 2) c.identity) (i * 2 + 1) (j * 2) c.index 0 (λ e. omega arith),
      get_or-set_other d (i * 2) (j * 2) c.identity 0 (λ e. omega arith),
      get_or-set_other (set d (i * 2) c.identity) (i * 2 + 1) (j * 2 + 1) c.index 0 (λ e. omega arith),
      get_or-set_other d (i * 2) (j * 2 + 1) c.identity 0 (λ e. omega arith),
    )

pub from_put : (d : List ℕ) (i : ℕ) (c : Cursor) (j k : ℕ) → i < j → cursors_from (put_cursor d i c) j k ≡ cursors_from d j k
unfolding cursors_from
from_put d i c j zero h = refl
from_put d i c j (suc k) h = cc (at_put d i c j h, from_put d i c (j + 1) k (omega arith))

-- one cursor stored, and the rest put behind it
pub room_put : (d : List ℕ) (j : ℕ) (y : Cursor) (cs : List Cursor) (n : ℕ) → j < n → n * 2 ≤ length d
    → cursor_room (put_cursor d j y) (j + 1) cs n ≡ cursor_room d j (y ∷ cs) n
unfolding filled flat_cursors
room_put d j y cs n h l =
    let p : List ℕ = take (j * 2) d ++ flat_cursors (y ∷ []) in
    let lp : length p ≡ (j + 1) * 2 = simp (length-append, length-take) (omega arith) in
    let e : take ((j + 1) * 2) (put_cursor d j y) ≡ p = rw (put_eq d j y (omega arith)) (take_at p (drop (j * 2 + 2) d) ((j + 1) * 2) lp) in
    let q : drop (n * 2) (put_cursor d j y) ≡ drop (n * 2) d =
    drop-set-lt (n * 2) (set d (j * 2) y.identity) (j * 2 + 1) y.index (omega arith)
    ∙ drop-set-lt (n * 2) d (j * 2) y.identity (omega arith)
    in
    rw (e, q) (ap (λ (r : List ℕ). r ++ drop (n * 2) d) (append_assoc (take (j * 2) d) (flat_cursors (y ∷ [])) (flat_cursors cs)))

-- a room with its own cursors is the room
flat_from : (d : List ℕ) (j k : ℕ) → (j + k) * 2 ≤ length d → flat_cursors (cursors_from d j k) ≡ take (k * 2) (drop (j * 2) d)
unfolding flat_cursors cursors_from
flat_from d j zero h = refl
flat_from d j (suc k) h =
    let e : suc k * 2 ≡ suc (suc (k * 2)) = omega arith in
    let f : (j + 1) * 2 ≡ suc (suc (j * 2)) = omega arith in
    rw (e, drop-cons d (j * 2) 0 (omega arith), drop-cons d (suc (j * 2)) 0 (omega arith), add-one (j * 2))
    (ap (λ (r : List ℕ). get_or d (j * 2) 0 ∷ get_or d (suc (j * 2)) 0 ∷ r) (flat_from d (j + 1) k (omega arith) ∙ rw f))

pub room_same : (d : List ℕ) (j k n : ℕ) → j + k ≡ n → n * 2 ≤ length d → cursor_room d j (cursors_from d j k) n ≡ d
room_same d j k n e h = rw (flat_from d j k (omega arith)) (filled_same d (j * 2) (k * 2) (n * 2) (omega arith))

-- a cursor stored in front of those that stand there
pub put_room : (d : List ℕ) (j : ℕ) (c : Cursor) (n : ℕ) → j < n → n * 2 ≤ length d
    → put_cursor d j c ≡ cursor_room d j (c ∷ cursors_from d (j + 1) (n - (j + 1))) n
put_room d j c n h l =
    sym (room_same (put_cursor d j c) (j + 1) (n - (j + 1)) n (omega arith) (omega (arith, length_put d j c)))
    ∙ (ap (λ (cs : List Cursor). cursor_room (put_cursor d j c) (j + 1) cs n) (from_put d j c (j + 1) (n - (j + 1)) (omega arith))
    ∙ room_put d j c (cursors_from d (j + 1) (n - (j + 1))) n h l)

-- what a room holds that cursors were put into
from_append : (p : List ℕ) (cs : List Cursor) (q : List ℕ) (j : ℕ) → length p ≡ j * 2 → cursors_from (p ++ (flat_cursors cs ++ q)) j (length cs) ≡ cs
unfolding cursors_from flat_cursors
from_append p [] q j h = refl
from_append p (c ∷ cs) q j h =
    let t : List ℕ = p ++ (c.identity ∷ c.index ∷ []) in
    let r : List ℕ = flat_cursors cs ++ q in
    let lt : length t ≡ (j + 1) * 2 = rw (length-append) (omega arith) in
    let a : cursor_at (p ++ (c.identity ∷ c.index ∷ r)) j ≡ c =
    rw (← h, get_or-append_seam p c.identity (c.index ∷ r) 0, get_or-append-add p (c.identity ∷ c.index ∷ r) 1 0)
    in
    let n : cursors_from (p ++ (c.identity ∷ c.index ∷ r)) (j + 1) (length cs) ≡ cs =
    rw (← append_assoc p (c.identity ∷ c.index ∷ []) r) (from_append t cs q (j + 1) lt)
    in
    rw (a, n)

module _ (d : List ℕ) (j : ℕ) (cs : List Cursor) (n : ℕ) (w : j + length cs ≡ n) (l : n * 2 ≤ length d) where
  fills : j * 2 + length (flat_cursors cs) ≡ n * 2
  fills = omega (arith, length_flat cs)

  pub length_room : length (cursor_room d j cs n) ≡ length d
  length_room = length_filled d (j * 2) (flat_cursors cs) (n * 2) fills l

  pub from_room : cursors_from (cursor_room d j cs n) j (length cs) ≡ cs
  from_room =
      rw (filled_parts d (j * 2) (flat_cursors cs) (n * 2) fills l)
      (from_append (take (j * 2) d) cs (drop (n * 2) d) j (length-take-le (j * 2) d (omega arith)))

  -- a cursor in front of them is as it was
  pub at_room : (i : ℕ) → i < j → cursor_at (cursor_room d j cs n) i ≡ cursor_at d i
  at_room i h =
      rw (
        get_d_filled d (j * 2) (flat_cursors cs) (n * 2) fills l (i * 2) (omega arith),
        get_d_filled d (j * 2) (flat_cursors cs) (n * 2) fills l (i * 2 + 1) (omega arith),
      )

  -- cursors put over them
  pub room_room : (i : ℕ) (es : List Cursor) → i ≤ j → cursor_room (cursor_room d j cs n) i es n ≡ cursor_room d i es n
  room_room i es h = filled_again d (j * 2) (flat_cursors cs) (n * 2) fills l (i * 2) (flat_cursors es) (omega arith)

-- no cursors, and cursors at the front
pub room_none : (d : List ℕ) (n : ℕ) → cursor_room d n [] n ≡ d
unfolding flat_cursors
room_none d n = filled_none d (n * 2)

pub room_front : (d : List ℕ) (cs : List Cursor) (n : ℕ) → length cs ≡ n → cursor_room d 0 cs n ≡ answered (flat_cursors cs) d
room_front d cs n e = filled_start d (flat_cursors cs) (n * 2) (omega (arith, length_flat cs))

-- an answer grows by the cursor that is put where it ends, and is read back
pub put_answered : (cs : List Cursor) (c : Cursor) (d out : List ℕ) (n : ℕ) → n ≡ length cs → out ≡ answered (flat_cursors cs) d → n * 2 + 2 ≤ length out
    → put_cursor out n c ≡ answered (flat_cursors (cs ++ (c ∷ []))) d
put_answered cs c d out n en eo h =
    put_eq out n c h
    ∙ rw (eo, flat_append cs (c ∷ []))
    (answered_more (flat_cursors cs) (flat_cursors (c ∷ [])) d (n * 2) (n * 2 + 2) (omega (arith, length_flat cs))
    (omega (arith, length_flat cs, length_flat (c ∷ []))))

pub length_answered : (cs : List Cursor) (d : List ℕ) → length cs * 2 ≤ length d → length (answered (flat_cursors cs) d) ≡ length d
length_answered cs d h = rw (length-append, length-drop) (omega (arith, length_flat cs))

pub from_answered : (cs : List Cursor) (d : List ℕ) → cursors_from (answered (flat_cursors cs) d) 0 (length cs) ≡ cs
from_answered cs d = from_append [] cs (drop (length (flat_cursors cs)) d) 0 refl

pub of_answered : (cs : List Cursor) (d : List ℕ) (k : ℕ) → k ≡ length cs * 2 → cursors_of (take k (answered (flat_cursors cs) d)) ≡ cs
unfolding cursors_of
of_answered cs d k h =
    let e : length cs * 2 / 2 ≡ length cs = omega arith in
    rw (h, take_at (flat_cursors cs) (drop (length (flat_cursors cs)) d) (length cs * 2) (length_flat cs), length_flat cs, e)
    (rw (← append-nil (flat_cursors cs)) (from_append [] cs [] 0 refl))
