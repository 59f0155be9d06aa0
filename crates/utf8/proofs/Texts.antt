-- Laws of whole texts: read back, written back, joined, and cut at the first bad sequence.
-- The code points read, encoded again, are the bytes up to the first bad sequence; the rest follows. Assumes nothing.
use mathlib.Core.Path.{◌≡◌, refl, sym, ap, ◌∙◌}
use mathlib.Core.Bool.{true}
use mathlib.Core.List.{List, [], ◌∷◌, ◌++◌}
use Prim.Native.Nat.{ℕ, zero, suc, ◌+◌, ◌≤◌}
use native.Mathlib.Omega.{arith}
use native.Mathlib.Nat.{zero-add}
use lib.ListN.{length, take, drop, length-append, drop_of_length-le}
use lib.Seq.{take-add, take-length, drop-drop, drop-append_seam, take-append_seam, length-take-le}
use Rattle.utf8_read.specs.Grammar.{utf8_char}
use Rattle.numbers.specs.Points.{is_point}
use Rattle.utf8_read.specs.Table.{encode, decode}
use Rattle.utf8_read.specs.Reading.{good_from, good_end, points_from_lem, points}
use Rattle.utf8_read.proofs.Sequences.{At, found, fits}
use Rattle.utf8_read.proofs.Steps.{next_good, next_points, stop_good, stop_points, good_most}
use Rattle.numbers.specs.Points.{scalars}
use Rattle.utf8_write.specs.Writing.{encode_all}
use Rattle.utf8_write.proofs.Encodes.{parts}
use Rattle.numbers.proofs.Scalar.{first_good, first_of_lem, no_scalars}
use Rattle.utf8.proofs.Sequence.{encoded_at, scalar_at, stands_first, decodes}

no_bytes : encode_all [] ≡ []
unfolding encode_all
no_bytes = refl

first_bytes : (x : ℕ) (xs : List ℕ) → encode_all (x ∷ xs) ≡ encode x ++ encode_all xs
unfolding encode_all
first_bytes x xs = refl

-- what reading from a place on finds
record Found (s : List ℕ) (at : ℕ) : Type 0 where
  bytes : encode_all (points_from_lem 0 (drop at s)) ≡ take (good_from 0 (drop at s)) (drop at s)
  whole : scalars (points_from_lem 0 (drop at s)) ≡ length (points_from_lem 0 (drop at s))
  bad : utf8_char (drop (at + good_from 0 (drop at s)) s) ≡ 0

nothing : (s : List ℕ) (at : ℕ) → utf8_char (drop at s) ≡ 0 → Found s at
nothing s at e =
    let g = stop_good (drop at s) e in
    let p = stop_points (drop at s) e in
    record {
      bytes = rw (p, g) no_bytes;
      whole = rw p no_scalars;
      bad = ap (λ (n : ℕ). utf8_char (drop n s)) (let z : at + good_from 0 (drop at s) ≡ at = omega arith in z) ∙ e;
    }

something : {s : List ℕ} {at l : ℕ} → At s at l → Found s (at + l) → Found s at
something {s} {at} {l} a f =
    let q : List ℕ = take l (drop at s) in
    let g : good_from 0 (drop at s) ≡ l + good_from 0 (drop (at + l) s) = omega (arith, next_good a) in
    record {
      bytes =
          ap encode_all (next_points a)
          ∙ first_bytes (decode q) (points_from_lem 0 (drop (at + l) s))
          ∙ ap (λ (r : List ℕ). r ++ encode_all (points_from_lem 0 (drop (at + l) s))) (sym (encoded_at a))
          ∙ ap (λ (r : List ℕ). q ++ r) f.bytes
          ∙ ap (λ (r : List ℕ). q ++ take (good_from 0 (drop (at + l) s)) r) (sym (drop-drop l at s))
          ∙ sym (take-add l (good_from 0 (drop (at + l) s)) (drop at s))
          ∙ ap (λ (n : ℕ). take n (drop at s)) (sym g);
      whole =
          ap scalars (next_points a)
          ∙ first_good (decode q) (points_from_lem 0 (drop (at + l) s)) (scalar_at a)
          ∙ ap suc f.whole
          ∙ sym (ap length (next_points a));
      bad = ap (λ (n : ℕ). utf8_char (drop n s)) (next_good a) ∙ f.bad;
    }

none_left : utf8_char [] ≡ 0
unfolding utf8_char
none_left = refl

finds : (f : ℕ) (s : List ℕ) (at : ℕ) → at ≤ length s → length s ≤ at + f → Found s at
finds zero s at h m = nothing s at (rw (drop_of_length-le s (let z : length s ≤ at = omega arith in z)) none_left)
finds (suc f) s at h m = go (utf8_char (drop at s)) refl (λ k a. finds f s (at + suc k) (fits a).ends (omega arith))
  where
    go : (n : ℕ) → utf8_char (drop at s) ≡ n → ((k : ℕ) → At s at (suc k) → Found s (at + suc k)) → Found s at
    go zero e r = nothing s at e
    go (suc k) e r = (let a = found s at k h e in something a (r k a))

found_all : (s : List ℕ) → Found s 0
found_all s = finds (length s) s 0 (omega arith) (omega arith)

-- the code points read, written again, are the bytes up to the first bad sequence
pub written_again : (s : List ℕ) → encode_all (points s) ≡ take (good_end s) s
written_again s = (found_all s).bytes

-- every number read is a code point
pub read_scalars : (s : List ℕ) → scalars (points s) ≡ length (points s)
read_scalars s = (found_all s).whole

-- where the good sequences end none stands: it is the first bad one, or the text has ended
pub first_bad : (s : List ℕ) → utf8_char (drop (good_end s) s) ≡ 0
first_bad s = rw (zero-add (good_end s)) at (found_all s).bad

-- writing what was read gives the same bytes
pub write_back : (s : List ℕ) → good_end s ≡ length s → encode_all (points s) ≡ s
write_back s e = written_again s ∙ ap (λ (n : ℕ). take n s) e ∙ take-length s

-- a code point in front is read first
first_read : (x : ℕ) (t : List ℕ) → is_point x ≡ true
    → (good_end (encode x ++ t) ≡ length (encode x) + good_end t) × (points (encode x ++ t) ≡ x ∷ points t)
first_read x t e =
    let a = stands_first x t e in
    let l : ℕ = length (encode x) in
    let d : drop (0 + l) (encode x ++ t) ≡ t = rw (zero-add l) (drop-append_seam (encode x) t) in (
      omega (arith, next_good a, ap good_end d),
      next_points a
          ∙ ap (λ (r : List ℕ). decode r ∷ points (drop (0 + l) (encode x ++ t))) (take-append_seam (encode x) t)
          ∙ ap (λ (n : ℕ). n ∷ points (drop (0 + l) (encode x ++ t))) (decodes x e)
          ∙ ap (λ (r : List ℕ). x ∷ points r) d,
    )

-- reading what was written gives the same code points
pub read_back : (xs : List ℕ) → scalars xs ≡ length xs → (good_end (encode_all xs) ≡ length (encode_all xs)) × (points (encode_all xs) ≡ xs)
unfolding good_from points_from_lem
read_back [] e = (rw no_bytes, rw no_bytes)
read_back (x ∷ xs) e =
    let o = first_of_lem x xs (is_point x) refl e in
    let r = read_back xs o.1 in
    let f = first_read x (encode_all xs) o.0 in (
      ap good_end (first_bytes x xs)
          ∙ f.0
          ∙ ap (λ (n : ℕ). length (encode x) + n) r.0
          ∙ sym (length-append (encode x) (encode_all xs))
          ∙ sym (ap length (first_bytes x xs)),
      ap points (first_bytes x xs) ∙ f.1 ∙ ap (λ (t : List ℕ). x ∷ t) r.1,
    )

scalars_join : (xs ys : List ℕ) → scalars xs ≡ length xs → scalars ys ≡ length ys → scalars (xs ++ ys) ≡ length (xs ++ ys)
scalars_join [] ys e f = f
scalars_join (x ∷ xs) ys e f =
    let o = first_of_lem x xs (is_point x) refl e in
    first_good x (xs ++ ys) o.0 ∙ ap suc (scalars_join xs ys o.1 f)

-- a good text followed by a good text is good, and its code points are theirs
pub good_join :
    (s t : List ℕ) → good_end s ≡ length s → good_end t ≡ length t
    → (good_end (s ++ t) ≡ length (s ++ t)) × (points (s ++ t) ≡ points s ++ points t)
good_join s t e f =
    let w : encode_all (points s ++ points t) ≡ s ++ t
    = parts (points s) (points t) ∙ ap (λ (r : List ℕ). r ++ encode_all (points t)) (write_back s e) ∙ ap (λ (r : List ℕ). s ++ r) (write_back t f) in
    let r = read_back (points s ++ points t) (scalars_join (points s) (points t) (read_scalars s) (read_scalars t)) in
    (rw w at r.0, rw w at r.1)

-- what stands before the first bad sequence is a good text
pub good_front : (s : List ℕ) → good_end (take (good_end s) s) ≡ good_end s
good_front s =
    let r = read_back (points s) (read_scalars s) in
    ap good_end (sym (written_again s)) ∙ r.0 ∙ ap length (written_again s) ∙ length-take-le (good_end s) s (good_most 0 s)
