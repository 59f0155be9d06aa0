-- The tokens of a raw operation: their numbers are parts of the lent lists.
-- By the number of tokens. Assumes nothing.
use Prim.Native.Nat.{ℕ, zero, suc, ◌+◌, ◌-◌, ◌*◌, ◌≤◌}
use mathlib.Core.Path.{◌≡◌, refl, ap}
use mathlib.Core.List.{List, [], ◌∷◌, ◌++◌}
use native.Mathlib.Omega.{arith}
use native.Mathlib.Numerals.{add-one}
use lib.ListN.{length, get_or, take, drop}
use lib.Seq.{drop-cons}
use Rattle.raw_lists.specs.Raws.{Piece, pieces_from, pieces_lent, flat_spans, flat_keys, flat_joins}

pub length_pieces : (spans keys joins : List ℕ) (i k : ℕ) → length (pieces_from spans keys joins i k) ≡ k
unfolding pieces_from
length_pieces spans keys joins i zero = refl
length_pieces spans keys joins i (suc k) = ap suc (length_pieces spans keys joins (i + 1) k)

pub length_spans : (ps : List Piece) → length (flat_spans ps) ≡ length ps * 2
unfolding flat_spans
length_spans [] = refl
length_spans (p ∷ ps) = omega (arith, length_spans ps)

pub length_keys : (ps : List Piece) → length (flat_keys ps) ≡ length ps
unfolding flat_keys
length_keys [] = refl
length_keys (p ∷ ps) = ap suc (length_keys ps)

pub length_joins : (ps : List Piece) → length (flat_joins ps) ≡ length ps
unfolding flat_joins
length_joins [] = refl
length_joins (p ∷ ps) = ap suc (length_joins ps)

pub spans_append : (ps qs : List Piece) → flat_spans (ps ++ qs) ≡ flat_spans ps ++ flat_spans qs
unfolding flat_spans
spans_append [] qs = refl
spans_append (p ∷ ps) qs = ap (λ (r : List ℕ). p.start ∷ p.length ∷ r) (spans_append ps qs)

pub keys_append : (ps qs : List Piece) → flat_keys (ps ++ qs) ≡ flat_keys ps ++ flat_keys qs
unfolding flat_keys
keys_append [] qs = refl
keys_append (p ∷ ps) qs = ap (λ (r : List ℕ). p.key ∷ r) (keys_append ps qs)

pub joins_append : (ps qs : List Piece) → flat_joins (ps ++ qs) ≡ flat_joins ps ++ flat_joins qs
unfolding flat_joins
joins_append [] qs = refl
joins_append (p ∷ ps) qs = ap (λ (r : List ℕ). p.joins ∷ r) (joins_append ps qs)

-- what the code reads, from place i to place i + k, is what the k tokens from i on hold

spans_run : (spans keys joins : List ℕ) (i k : ℕ) → (i + k) * 2 ≤ length spans → take (k * 2) (drop (i * 2) spans) ≡ flat_spans (pieces_from spans keys joins i k)
unfolding flat_spans pieces_from
spans_run spans keys joins i zero h = refl
spans_run spans keys joins i (suc k) h =
    let e : suc k * 2 ≡ suc (suc (k * 2)) = omega arith in
    let f : (i + 1) * 2 ≡ suc (suc (i * 2)) = omega arith in
    let g = spans_run spans keys joins (i + 1) k (omega arith) in
    rw (e, drop-cons spans (i * 2) 0 (omega arith), drop-cons spans (suc (i * 2)) 0 (omega arith), add-one (i * 2))
    (ap (λ (r : List ℕ). get_or spans (i * 2) 0 ∷ get_or spans (suc (i * 2)) 0 ∷ r) (rw f at g))

keys_run : (spans keys joins : List ℕ) (i k : ℕ) → i + k ≤ length keys → take k (drop i keys) ≡ flat_keys (pieces_from spans keys joins i k)
unfolding flat_keys pieces_from
keys_run spans keys joins i zero h = refl
keys_run spans keys joins i (suc k) h =
    let g = keys_run spans keys joins (i + 1) k (omega arith) in
    rw (drop-cons keys i 0 (omega arith), ← add-one i) (ap (λ (r : List ℕ). get_or keys i 0 ∷ r) g)

joins_run : (spans keys joins : List ℕ) (i k : ℕ) → i + k ≤ length joins → take k (drop i joins) ≡ flat_joins (pieces_from spans keys joins i k)
unfolding flat_joins pieces_from
joins_run spans keys joins i zero h = refl
joins_run spans keys joins i (suc k) h =
    let g = joins_run spans keys joins (i + 1) k (omega arith) in
    rw (drop-cons joins i 0 (omega arith), ← add-one i) (ap (λ (r : List ℕ). get_or joins i 0 ∷ r) g)

module _ (spans keys joins : List ℕ) (i k : ℕ) (h : i + k ≤ pieces_lent spans keys joins) where
  pub spans_part : take ((i + k) * 2 - i * 2) (drop (i * 2) spans) ≡ flat_spans (pieces_from spans keys joins i k)
  spans_part = let e : (i + k) * 2 - i * 2 ≡ k * 2 = omega arith in rw e (spans_run spans keys joins i k (omega arith))

  pub keys_part : take (i + k - i) (drop i keys) ≡ flat_keys (pieces_from spans keys joins i k)
  keys_part = let e : i + k - i ≡ k = omega arith in rw e (keys_run spans keys joins i k (omega arith))

  pub joins_part : take (i + k - i) (drop i joins) ≡ flat_joins (pieces_from spans keys joins i k)
  joins_part = let e : i + k - i ≡ k = omega arith in rw e (joins_run spans keys joins i k (omega arith))
