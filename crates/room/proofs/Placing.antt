-- A run put at a place of a room: none, its length, and one behind another.
-- List arithmetic over `take` and `drop`, for values of any type. Assumes nothing.
use mathlib.Core.Path.{◌≡◌, sym, ap}
use mathlib.Core.List.{List, [], ◌++◌, append_assoc, append-nil}
use Prim.Native.Nat.{ℕ, ◌+◌, ◌-◌, ◌≤◌}
use native.Mathlib.Nat.{add-zero}
use native.Mathlib.Omega.{arith}
use lib.ListN.{length, take, drop, length-append, length-take, length-drop, take-append-drop}
use lib.Seq.{take_at, drop-append-add, drop-drop, length-take-le}
use Rattle.room.specs.Placed.{placed, Put}

-- a run of nothing changes no room
pub placed_none : {A : Type 0} (d : List A) (at : ℕ) → placed d at [] ≡ d
unfolding placed
placed_none d at = rw (append-nil (take at d), add-zero at) (take-append-drop at d)

pub put_none : {A : Type 0} (d : List A) (at : ℕ) → Put [] d at d at
put_none d at = record { next = sym (add-zero at); stands = sym (placed_none d at) }

pub placed_length : {A : Type 0} (d : List A) (at : ℕ) (s : List A) → at + length s ≤ length d → length (placed d at s) ≡ length d
unfolding placed
placed_length d at s h = simp (length-append, length-take, length-drop) (omega arith)

-- a run put where another ends makes it longer
pub placed_more : {A : Type 0} (d : List A) (at : ℕ) (s t : List A) → at ≤ length d → placed (placed d at s) (at + length s) t ≡ placed d at (s ++ t)
unfolding placed
placed_more {A} d at s t h =
    let e : length (take at d ++ s) ≡ at + length s = rw (length-append, length-take-le at d h) in
    let g : at + length s + length t ≡ at + length (s ++ t) = rw (length-append) (omega arith) in
    let f : drop (at + length s + length t) ((take at d ++ s) ++ drop (at + length s) d) ≡ drop (at + length (s ++ t)) d
    = rw (← e, drop-append-add, e, drop-drop, g) in
    rw (take_at (take at d ++ s) (drop (at + length s) d) (at + length s) e, f)
    (ap (λ (l : List A). l ++ drop (at + length (s ++ t)) d) (append_assoc (take at d) s t))

-- what is written over the part from one place to another stands at the first, where it is as long as the part
pub over_part : {A : Type 0} (d s : List A) (at end : ℕ) → end ≡ at + length s → take at d ++ (s ++ drop (end - at) (drop at d)) ≡ placed d at s
unfolding placed
over_part d s at end e =
    let n : end - at ≡ length s = omega arith in
    rw (n, append_assoc, drop-drop)
