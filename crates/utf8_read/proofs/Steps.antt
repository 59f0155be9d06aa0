-- Reading goes on by a sequence: what is good, which code points and how many first bytes are left after it.
-- One step over a list, then the same from a place to the next place. Assumes nothing.
use mathlib.Core.Path.{◌≡◌, refl, sym, ap, ◌∙◌}
use mathlib.Core.Bool.{true, false}
use mathlib.Core.List.{List, [], ◌∷◌}
use Prim.Native.Nat.{ℕ, zero, suc, ◌+◌, ◌≤◌, ◌<◌}
use native.Mathlib.Omega.{arith}
use native.Mathlib.Decide.{dec_lt}
use lib.ListN.{length, take, drop, length-drop, drop_of_length-le}
use lib.Seq.{drop-drop}
use Rattle.utf8_read.specs.Grammar.{tail, utf8_char}
use Rattle.utf8_read.specs.Table.{decode}
use Rattle.utf8_read.specs.Reading.{good_from, good_end, points_from_lem, points}
use Rattle.utf8_read.specs.Window.{starts}
use Rattle.utf8_read.proofs.Rules.{tail_in, tail_below, tail_above}
use Rattle.utf8_read.proofs.Sequences.{At, found, stands, fits, front_1, front_2, front_3, front_4}

skip_good : (k : ℕ) (s : List ℕ) → k ≤ length s → good_from k s ≡ k + good_from 0 (drop k s)
unfolding good_from
skip_good zero s h = omega arith
skip_good (suc k) [] h = absurd (omega arith)
skip_good (suc k) (b ∷ s) h = omega (arith, skip_good k s (omega arith))

skip_points : (k : ℕ) (s : List ℕ) → k ≤ length s → points_from_lem k s ≡ points_from_lem 0 (drop k s)
unfolding points_from_lem
skip_points zero s h = refl
skip_points (suc k) [] h = absurd (omega arith)
skip_points (suc k) (b ∷ s) h = skip_points k s (omega arith)

good_step : (q : List ℕ) (k : ℕ) → suc k ≤ length q → utf8_char q ≡ suc k → good_from 0 q ≡ suc k + good_from 0 (drop (suc k) q)
unfolding good_from
good_step [] k h e = absurd (omega arith)
good_step (b ∷ s) k h e = rw (e, good_from) (omega (arith, skip_good k s (omega arith)))

points-step :
    (q : List ℕ) (k : ℕ) → suc k ≤ length q → utf8_char q ≡ suc k → points_from_lem 0 q ≡ decode (take (suc k) q) ∷ points_from_lem 0 (drop (suc k) q)
unfolding points_from_lem
points-step [] k h e = absurd (omega arith)
points-step (b ∷ s) k h e = rw (e, points_from_lem) (ap (λ (t : List ℕ). decode (take (suc k) (b ∷ s)) ∷ t) (skip_points k s (omega arith)))

-- a sequence has a first byte, so its length is a successor
by_suc : (s : List ℕ) (at l : ℕ) (P : ℕ → Type 0) → ((k : ℕ) → At s at (suc k) → P (suc k)) → At s at l → P l
by_suc s at l P f a = go l a (fits a).least
  where
    go : (n : ℕ) → At s at n → 1 ≤ n → P n
    go zero b h = absurd (omega arith)
    go (suc k) b h = f k b

pub next_good : {s : List ℕ} {at l : ℕ} → At s at l → at + good_from 0 (drop at s) ≡ at + l + good_from 0 (drop (at + l) s)
next_good {s} {at} {l} a =
    by_suc s at l (λ (n : ℕ). at + good_from 0 (drop at s) ≡ at + n + good_from 0 (drop (at + n) s))
    (λ k b.
    let w = fits b in
    rw (good_step (drop at s) k (rw length-drop (omega arith)) (stands b), drop-drop) (omega arith))
    a

pub next_points : {s : List ℕ} {at l : ℕ} → At s at l → points_from_lem 0 (drop at s) ≡ decode (take l (drop at s)) ∷ points_from_lem 0 (drop (at + l) s)
next_points {s} {at} {l} a =
    by_suc s at l (λ (n : ℕ). points_from_lem 0 (drop at s) ≡ decode (take n (drop at s)) ∷ points_from_lem 0 (drop (at + n) s))
    (λ k b.
    let w = fits b in
    points-step (drop at s) k (rw length-drop (omega arith)) (stands b)
    ∙ ap (λ (t : List ℕ). decode (take (suc k) (drop at s)) ∷ points_from_lem 0 t) (drop-drop (suc k) at s))
    a

pub stop_good : (q : List ℕ) → utf8_char q ≡ 0 → good_from 0 q ≡ 0
unfolding good_from
stop_good [] e = refl
stop_good (b ∷ s) e = rw (e, good_from)

pub stop_points : (q : List ℕ) → utf8_char q ≡ 0 → points_from_lem 0 q ≡ []
unfolding points_from_lem
stop_points [] e = refl
stop_points (b ∷ s) e = rw (e, points_from_lem)

pub end_good : (s : List ℕ) (at : ℕ) → length s ≤ at → good_from 0 (drop at s) ≡ 0
unfolding good_from
end_good s at h = rw (drop_of_length-le s h)

pub end_points : (s : List ℕ) (at : ℕ) → length s ≤ at → points_from_lem 0 (drop at s) ≡ []
unfolding points_from_lem
end_points s at h = rw (drop_of_length-le s h)

-- where good sequences go on to the end, one stands at each place that they reach
pub on : (s : List ℕ) (at : ℕ) → at < length s → at + good_from 0 (drop at s) ≡ length s → (k : ℕ) × At s at (suc k)
on s at h e = go (utf8_char (drop at s)) refl
  where
    go : (n : ℕ) → utf8_char (drop at s) ≡ n → (k : ℕ) × At s at (suc k)
    go zero z = absurd (omega (arith, stop_good (drop at s) z))
    go (suc k) z = (k, found s at k (omega arith) z)

start_on : (b : ℕ) (s : List ℕ) → tail b ≡ false → starts (b ∷ s) ≡ suc (starts s)
unfolding starts
start_on b s e = rw e

tail_on : (b : ℕ) (s : List ℕ) → tail b ≡ true → starts (b ∷ s) ≡ starts s
unfolding starts
tail_on b s e = rw e

-- of the bytes of a sequence the first alone is no tail
next_starts : {s : List ℕ} {at l : ℕ} → At s at l → starts (drop at s) ≡ suc (starts (drop (at + l) s))
next_starts {s} {at} (At.one a m) = rw (front_1 s at m) (start_on _ _ (tail_below _ a))
next_starts {s} {at} (At.two a m) =
    rw (front_2 s at m) (start_on _ _ (tail_above _ (omega arith)) ∙ ap suc (tail_on _ _ (tail_in _ a.second.low a.second.high)))
next_starts {s} {at} (At.three a m) =
    rw (front_3 s at m)
    (start_on _ _ (tail_above _ (omega arith))
    ∙ ap suc (tail_on _ _ (tail_in _ a.second.low a.second.high) ∙ tail_on _ _ (tail_in _ a.third.low a.third.high)))
next_starts {s} {at} (At.four a m) =
    rw (front_4 s at m)
    (start_on _ _ (tail_above _ (omega arith))
    ∙ ap suc
    (tail_on _ _ (tail_in _ a.second.low a.second.high)
    ∙ tail_on _ _ (tail_in _ a.third.low a.third.high)
    ∙ tail_on _ _ (tail_in _ a.fourth.low a.fourth.high)))

no_starts : starts [] ≡ 0
unfolding starts
no_starts = refl

counted_none : (s : List ℕ) (at : ℕ) → length s ≤ at → length (points_from_lem 0 (drop at s)) ≡ starts (drop at s)
counted_none s at h = rw (end_points s at h, drop_of_length-le s h) (sym no_starts)

counted :
    (f : ℕ) (s : List ℕ) (at : ℕ) → length s ≤ at + f → at ≤ length s → at + good_from 0 (drop at s) ≡ length s
    → length (points_from_lem 0 (drop at s)) ≡ starts (drop at s)
counted zero s at h m e = counted_none s at (omega arith)
counted (suc f) s at h m e = elim (dec_lt at (length s)) [
  | yes l ↦
      let o = on s at l e in
      let w = fits o.1 in
      ap length (next_points o.1)
      ∙ ap suc (counted f s (at + suc o.0) (omega arith) w.ends (sym (next_good o.1) ∙ e))
      ∙ sym (next_starts o.1)
  | no l ↦ counted_none s at (omega arith)
]

-- a good text has as many code points as bytes that are no tails
pub counts : (s : List ℕ) → good_end s ≡ length s → length (points s) ≡ starts s
counts s e = counted (length s) s 0 (omega arith) (omega arith) (omega (arith, e))

pub good_most : (k : ℕ) (s : List ℕ) → good_from k s ≤ length s
unfolding good_from
good_most k [] = omega arith
good_most (suc k) (b ∷ s) = omega (arith, good_most k s)
good_most zero (b ∷ s) = go (utf8_char (b ∷ s)) refl (λ k. good_most k s)
  where
    go : (n : ℕ) → utf8_char (b ∷ s) ≡ n → ((k : ℕ) → good_from k s ≤ length s) → good_from 0 (b ∷ s) ≤ suc (length s)
    go zero e h = rw (e, good_from) (omega arith)
    go (suc k) e h = rw (e, good_from) (omega (arith, h k))
