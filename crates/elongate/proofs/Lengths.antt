-- The lengths and flags of a raw operation's tokens.
-- By the number of tokens. Assumes nothing.
use Prim.Native.Nat.{ℕ, zero, suc, ◌+◌, ◌/◌, ◌%◌, ◌≤◌, ◌<◌, min}
use mathlib.Core.Path.{◌≡◌, refl, sym, ◌∙◌}
use mathlib.Core.List.{List, [], ◌∷◌, ◌++◌}
use native.Mathlib.Omega.{arith}
use native.Mathlib.Nat.{zero-add}
use lib.ListN.{get_or}
use lib.Dec.{eqb}
use Rattle.records.specs.Tokens.{tokens_from, tokens_length}
use Rattle.sizes.specs.Texts.{run_text}
use Rattle.shapes.proofs.Accepted.{run_length}
use Rattle.raw_lists.specs.declared.Raw.{Raw}
use Rattle.raw_lists.specs.Raws.{Piece, pieces_from}
use Rattle.raw_lists.specs.Good.{GoodRaw}
use Rattle.elongate.specs.Elongated.{last_right, first_left, pieces_length}

pub pieces_length_lem : (spans keys joins : List ℕ) (i k : ℕ) → pieces_length (pieces_from spans keys joins i k) ≡ tokens_length (tokens_from spans keys i k)
unfolding pieces_length pieces_from tokens_length tokens_from
pieces_length_lem spans keys joins i zero = refl
pieces_length_lem spans keys joins i (suc k) = rw (pieces_length_lem spans keys joins (i + 1) k)

pub pieces_append : (ps qs : List Piece) → pieces_length (ps ++ qs) ≡ pieces_length ps + pieces_length qs
unfolding pieces_length
pieces_append [] qs = sym (zero-add (pieces_length qs))
pieces_append (p ∷ ps) qs = omega (arith, pieces_append ps qs)

-- the sum of the lengths of a good run, as the code has it
pub run_sum : (n : ℕ) (spans keys joins : List ℕ) (r : Raw) (len : ℕ) → GoodRaw n spans keys joins r
    → pieces_length (pieces_from spans keys joins r.first r.count) ≤ 1000000
    → len ≡ min 1000000 (run_text n (tokens_from spans keys r.first r.count)) → len ≡ pieces_length (pieces_from spans keys joins r.first r.count)
run_sum n spans keys joins r len g h e =
    let a = run_length n (tokens_from spans keys r.first r.count) g.tokens in
    let b = pieces_length_lem spans keys joins r.first r.count in
    omega (arith, a, b)

-- flags of the first and the last token

pub first_left_lem : (spans keys joins : List ℕ) (i k : ℕ) → 0 < k → first_left (pieces_from spans keys joins i k) ≡ eqb (get_or joins i 0 % 2) 1
unfolding first_left pieces_from
first_left_lem spans keys joins i zero h = absurd (omega arith)
first_left_lem spans keys joins i (suc k) h = refl

pub last_right_lem : (spans keys joins : List ℕ) (i k : ℕ) → last_right (pieces_from spans keys joins i (suc k)) ≡ eqb (get_or joins (i + k) 0 / 2 % 2) 1
unfolding last_right pieces_from
last_right_lem spans keys joins i zero = let e : i + 0 ≡ i = omega arith in rw e
last_right_lem spans keys joins i (suc k) = let e : i + 1 + k ≡ i + suc k = omega arith in last_right_lem spans keys joins (i + 1) k ∙ rw e
