-- A part of the work room is lent to be written and comes back: what stands off the numbers used is as it was.
-- By the kit's laws of a part put back, and list arithmetic. Assumes nothing.
use Prim.Native.Nat.{ℕ, ◌+◌, ◌-◌, ◌≤◌}
use mathlib.Core.Path.{◌≡◌, refl, sym, ap, ◌∙◌}
use mathlib.Core.List.{List, [], ◌++◌, append-nil}
use mathlib.Core.Logic.{⊎_elim}
use native.Mathlib.Omega.{arith}
use lib.ListN.{length, take, drop, length-drop, length-append, take-append-drop}
use lib.Seq.{slice, take-take, drop-drop, take-add, drop_at, take_all, length-take-le, drop-append-le, drop-append-add}
use lib.ListN.{drop_of_length-le}
use borrow.Rule.Slice.PartMut.{mid_of, post_of, put_mid, same_len_mid, take_put, mid_len}
use Rattle.operation.specs.Views.{Scratched, Apart}

-- a part by its start and its length is the part by its start and its end
pub part_is : (f t : ℕ) (l : List ℕ) → f ≤ t → f ≤ length l → mid_of f (t - f) l ≡ slice f t l
part_is f t l h k =
    let e : f + (t - f) ≡ t = omega arith in
    sym (ap (λ (n : ℕ). drop f (take n l)) (sym e) ∙ ap (drop f) (take-add f (t - f) l) ∙ drop_at (take f l) (take (t - f) (drop f l)) f (length-take-le f l k))

nothing_behind : (at : ℕ) (w : List ℕ) → post_of at (length w - at) w ≡ []
nothing_behind at w = drop_of_length-le (drop at w) {i = length w - at} (omega (arith, length-drop at w))

pub scratched :
    (w t : List ℕ) (at n : ℕ) → at + n ≤ length w → length t ≡ length (mid_of at (length w - at) w)
    → drop n t ≡ drop n (mid_of at (length w - at) w) → Scratched w (put_mid at (length w - at) w t) at n
scratched w t at n h l d =
    let m = mid_of at (length w - at) w in
    let p = post_of at (length w - at) w in
    let lm : length m ≡ length w - at = mid_len at (length w) w (omega arith) in
    let la : length (take at w) ≡ at = length-take-le at w (omega arith) in
    record {
      same = same_len_mid at (length w - at) w t l;
      front = take_put at (length w - at) w t (omega arith);
      back =
          drop_behind (take at w) (t ++ p) at n la
          ∙ drop-append-le n t p (omega (arith, l, lm))
          ∙ ap (λ (x : List ℕ). x ++ p) d
          ∙ sym (drop-append-le n m p (omega (arith, lm)))
          ∙ ap (drop n) (take-append-drop (length w - at) (drop at w))
          ∙ drop-drop n at w;
    }
  where
    drop_behind : (a b : List ℕ) (k n : ℕ) → length a ≡ k → drop (k + n) (a ++ b) ≡ drop n b
    drop_behind a b k n e = ap (λ (j : ℕ). drop (j + n) (a ++ b)) (sym e) ∙ drop-append-add a b n

-- what a reader of the rest of the room finds there
pub rest-is :
    (w t : List ℕ) (at : ℕ) → at ≤ length w → length t ≡ length (mid_of at (length w - at) w)
    → take (length (put_mid at (length w - at) w t) - at) (drop at (put_mid at (length w - at) w t)) ≡ t
rest-is w t at h l =
    let p = post_of at (length w - at) w in
    let lm : length (mid_of at (length w - at) w) ≡ length w - at = mid_len at (length w) w (omega arith) in
    let e : drop at (put_mid at (length w - at) w t) ≡ t ++ p = drop_at (take at w) (t ++ p) at (length-take-le at w h) in
    ap (take (length (put_mid at (length w - at) w t) - at)) e
    ∙ ap (λ (x : List ℕ). take (length (put_mid at (length w - at) w t) - at) (t ++ x)) (nothing_behind at w)
    ∙ take_all (length (put_mid at (length w - at) w t) - at) (t ++ []) (omega (arith, same_len_mid at (length w - at) w t l, length-append t [], l, lm))
    ∙ append-nil t

-- a range that the numbers used do not touch is as it was
pub untouched :
    {w w' : List ℕ} {at n : ℕ} → Scratched w w' at n → (f t : ℕ) → f ≤ t → t ≤ length w → Apart f t at n → slice f t w' ≡ slice f t w
untouched {w} {w'} {at} {n} s f t h k =
    ⊎_elim
    (λ (l : t ≤ at). ap (drop f) (sym (take-take t at w' l) ∙ ap (take t) s.front ∙ take-take t at w l))
    (λ (l : at + n ≤ f).
    let e : at + n + (f - (at + n)) ≡ f = omega arith in
    let g : drop f w' ≡ drop f w =
    ap (λ (j : ℕ). drop j w') (sym e) ∙ sym (drop-drop (f - (at + n)) (at + n) w')
    ∙ ap (drop (f - (at + n))) s.back
    ∙ drop-drop (f - (at + n)) (at + n) w
    ∙ ap (λ (j : ℕ). drop j w) e in
    sym (part_is f t w' h (omega (arith, s.same))) ∙ ap (take (t - f)) g ∙ part_is f t w h (omega arith))

-- nothing was used
pub unscratched : (w : List ℕ) (at n : ℕ) → Scratched w w at n
unscratched w at n = record { same = refl; front = refl; back = refl }
