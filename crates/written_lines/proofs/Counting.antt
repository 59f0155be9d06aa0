-- The lengths of a line of a number and of a line of code points; the code points of a line, one after the other.
-- A line is its key, what it says and LF. Assumes nothing.
use mathlib.Core.Path.{◌≡◌, sym, ap, ◌∙◌}
use mathlib.Core.List.{List, [], ◌∷◌, ◌++◌, append-nil}
use Prim.Native.Nat.{ℕ, ◌+◌, ◌≤◌, ◌<◌}
use native.Mathlib.Numerals.{add-one}
use native.Mathlib.Omega.{arith}
use lib.ListN.{length, get_or, drop, length-append, drop_of_length-le}
use lib.Seq.{drop-cons}
use Rattle.edit_format.specs.Digits.{digits}
use Rattle.edit_format.specs.Items.{Add}
use Rattle.edit_format.specs.Written.{points, number_line, add_key, item_line}
use Rattle.written_lines.specs.Lengths.{further}

pub line_length : (k : List ℕ) (n : ℕ) → length (number_line k n) ≡ length k + length (digits 10 n) + 1
unfolding number_line
line_length k n = length-append (k ++ digits 10 n) (10 ∷ []) ∙ ap (λ (x : ℕ). x + 1) (length-append k (digits 10 n))

pub add_length : (cs : List ℕ) → length (item_line (Add cs)) ≡ 5 + length (points cs)
unfolding item_line
add_length cs = length-append (add_key ++ points cs) (10 ∷ []) ∙ omega (arith, length-append add_key (points cs))

-- the points of a line: the first, and those further on
pub points_further : (c : ℕ) (cs : List ℕ) → points (c ∷ cs) ≡ digits 16 c ++ further cs
unfolding points further
points_further c [] = sym (append-nil (digits 16 c))
points_further c (d ∷ cs) = ap (λ (l : List ℕ). digits 16 c ++ 32 ∷ l) (points_further d cs)

pub next_point : (t : List ℕ) (i : ℕ) → i < length t → further (drop i t) ≡ 32 ∷ digits 16 (get_or t i 0) ++ further (drop (i + 1) t)
unfolding further
next_point t i h = rw (add-one i, drop-cons t i 0 h)

pub no_point : (t : List ℕ) (i : ℕ) → length t ≤ i → further (drop i t) ≡ []
unfolding further
no_point t i h = rw (drop_of_length-le t h)
