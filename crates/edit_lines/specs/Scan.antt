-- What the reader's leaves find at a place of the bytes: a number, a line of one number, a code point. Assumes nothing.
use Rattle.std.specs.Prelude.{◌≡◌, ℕ, ◌+◌, ◌*◌, ◌≤◌, min, List, [], ◌∷◌, length, get_or, drop, eqb, Option, Some, None}
use Rattle.room.specs.Choice.{pick}
use Rattle.edit_format.specs.Tests.{begins}
use Rattle.edit_format.specs.Digits.{digit_of, is_digit}
use Rattle.numbers.specs.Points.{is_point}
use Rattle.edit_lines.specs.declared.Number.{Number}
use Rattle.edit_lines.specs.declared.Point.{Point}
use Rattle.edit_lines.specs.declared.Point.TheVariants.{More, Last}

-- a number as it is held: exact below the cap, which is above every size and every sum that fits
abbrev pub cap : ℕ → ℕ
cap n = min n 2000000

-- the rest of a number in base m, n having been read, at place i of the bytes
unfoldable pub more : ℕ → ℕ → ℕ → List ℕ → Option Number
more m n i [] = Some (record { value = n; next = i })
more m n i (b ∷ bs) =
    pick (is_digit m b) (pick (eqb n 0) None (more m (cap (n * m + digit_of b)) (i + 1) bs)) (Some (record { value = n; next = i }))

-- a number in base m at place i
unfoldable pub scan : ℕ → ℕ → List ℕ → Option Number
unfolding more
scan m i [] = None
scan m i (b ∷ bs) = pick (is_digit m b) (more m (digit_of b) (i + 1) bs) None

-- LF after a number
unfoldable pub closed_at : List ℕ → Option Number → Option Number
closed_at p (Some n) = pick (eqb (get_or p n.next 0) 10) (Some (record { value = n.value; next = n.next + 1 })) None
closed_at p None = None

-- a line of one decimal number at a place of p
unfoldable pub line_at : List ℕ → List ℕ → ℕ → Option Number
unfolding scan closed_at
line_at k p at = pick (begins k (drop at p)) (closed_at p (scan 10 (at + length k) (drop (at + length k) p))) None

-- a line's number stands at a place of p, no larger than any original, and LF after it
pub record Closes (p : List ℕ) (at : ℕ) : Type 0 where
  pub number : Number
  pub small : number.value ≤ 65535
  pub closed : closed_at p (scan 10 at (drop at p)) ≡ Some number

-- after a number: LF ends the line, a space says that one more follows
unfoldable pub ended_at : List ℕ → Option Number → Option Point
ended_at p (Some n) =
    pick (is_point n.value)
    (pick (eqb (get_or p n.next 0) 10) (Some (Last n.value (n.next + 1))) (pick (eqb (get_or p n.next 0) 32) (Some (More n.value (n.next + 1))) None))
    None
ended_at p None = None

-- a code point in hex at a place of p
unfoldable pub point_at : List ℕ → ℕ → Option Point
unfolding scan ended_at
point_at p i = ended_at p (scan 16 i (drop i p))

-- a code point stands at a place of p
abbrev pub Stands : List ℕ → ℕ → Type 0
Stands p i = point_at p i ≡ None → ⊥
