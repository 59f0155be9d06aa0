-- A room filled with numbers: read, filled again, stored into. Shared by records of every width.
-- List arithmetic over `take` and `drop`. Assumes nothing.
use Prim.Native.Nat.{ℕ, ◌+◌, ◌≤◌, ◌<◌}
use mathlib.Core.Path.{◌≡◌, refl, ◌∙◌}
use mathlib.Core.List.{List, [], ◌++◌, append_assoc, append-nil}
use native.Mathlib.Omega.{arith}
use lib.ListN.{length, get_or, take, drop, length-append, length-drop, take-append-drop, get_or-append}
use lib.Seq.{take_at, drop_at, take-add, get_or-take, take-append-le, take-take, length-take-le, drop-drop, drop-append-add}
use Rattle.room.specs.Placed.{answered}
use Rattle.records.specs.Rooms.{filled}

-- filled with what stands there
pub filled_same : (d : List ℕ) (a k b : ℕ) → a + k ≡ b → filled d a (take k (drop a d)) b ≡ d
unfolding filled
filled_same d a k b e = rw (← e, ← take-add a k d) (take-append-drop (a + k) d)

module _ (d : List ℕ) (a : ℕ) (s : List ℕ) (b : ℕ) (w : a + length s ≡ b) (l : b ≤ length d) where
  front : length (take a d) ≡ a
  front = length-take-le a d (omega arith)

  head : length (take a d ++ s) ≡ b
  head = rw (length-append, front) (omega arith)

  pub length_filled : length (filled d a s b) ≡ length d
  unfolding filled
  length_filled = rw (length-append, head, length-drop) (omega arith)

  pub get_d_filled : (i : ℕ) → i < a → get_or (filled d a s b) i 0 ≡ get_or d i 0
  unfolding filled
  get_d_filled i h =
      get_or-append (take a d ++ s) (drop b d) 0 i (omega (arith, head))
      ∙ (get_or-append (take a d) s 0 i (omega (arith, front)) ∙ get_or-take a d i 0 h)

  -- the rest of the room, from a on
  pub filled_parts : filled d a s b ≡ take a d ++ (s ++ drop b d)
  unfolding filled
  filled_parts = append_assoc (take a d) s (drop b d)

  -- filled anew from an earlier place on
  pub filled_again : (i : ℕ) (t : List ℕ) → i ≤ a → filled (filled d a s b) i t b ≡ filled d i t b
  unfolding filled
  filled_again i t h =
      let e : take i (take a d ++ s ++ drop b d) ≡ take i d =
      take-append-le i (take a d ++ s) (drop b d) (omega (arith, head))
      ∙ (take-append-le i (take a d) s (omega (arith, front)) ∙ take-take i a d (omega arith))
      in
      rw (e, drop_at (take a d ++ s) (drop b d) b head)

-- filled from the start: an answer
pub filled_start : (d s : List ℕ) (b : ℕ) → length s ≡ b → filled d 0 s b ≡ answered s d
unfolding filled
filled_start d s b e = rw (← e)

-- filled with nothing
pub filled_none : (d : List ℕ) (a : ℕ) → filled d a [] a ≡ d
unfolding filled
filled_none d a = rw (append-nil) (take-append-drop a d)

-- an answer grows where it ends
pub answered_more : (s t d : List ℕ) (a b : ℕ) → a ≡ length s → b ≡ length s + length t → filled (answered s d) a t b ≡ answered (s ++ t) d
unfolding filled
answered_more s t d a b ea eb =
    rw (ea, eb, take_at s (drop (length s) d) (length s) refl, drop-append-add s (drop (length s) d) (length t), drop-drop, length-append)

-- one answer over another of its length
pub answered_again : (s t d : List ℕ) → length s ≡ length t → answered s (answered t d) ≡ answered s d
answered_again s t d e = rw (e, drop_at t (drop (length t) d) (length t) refl)
