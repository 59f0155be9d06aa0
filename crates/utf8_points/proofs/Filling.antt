-- A room filled with code points: how far it is filled, by a run of ASCII and by one code point, and the answer at the end.
-- What is placed is the next part of the points that are left. Assumes nothing.
use mathlib.Core.Path.{◌≡◌, refl, sym, ap, ◌∙◌}
use mathlib.Core.List.{List, [], ◌∷◌, ◌++◌}
use Prim.Native.Nat.{ℕ, zero, suc, ◌+◌, ◌-◌, ◌≤◌, ◌<◌}
use native.Mathlib.Omega.{arith}
use native.Mathlib.Nat.{add-zero}
use lib.ListN.{length, get_or, set, take, drop, length-append, length-drop}
use lib.Seq.{take-add, drop-drop, take-append_seam, drop-append_seam, length-take-le, sets-eq, take_all}
use Rattle.room.specs.Placed.{placed, answered, Put}
use Rattle.room.proofs.Answers.{one_more, same_room}
use Rattle.utf8_read.specs.Grammar.{utf8_char}
use Rattle.utf8_read.specs.Table.{decode}
use Rattle.utf8_read.specs.Reading.{good_from, good_end, points_from_lem, points}
use Rattle.utf8_read.specs.Window.{Ascii}
use Rattle.utf8_points.specs.Found.{Pointed}
use Rattle.utf8_points.specs.declared.Point.{Point}
use Rattle.utf8_read.proofs.Sequences.{At, fits, stands, front_1, value_1}
use Rattle.utf8_read.proofs.Steps.{next_good, next_points, end_points, on}

-- ASCII bytes are their own code points
ascii_points : (m : ℕ) (s : List ℕ) (at : ℕ) → at + m ≤ length s → Ascii s at (at + m) → points_from_lem 0 (drop at s) ≡ take m (drop at s) ++ points_from_lem 0 (drop (at + m) s)
ascii_points zero s at h f = rw (add-zero at)
ascii_points (suc m) s at h f =
    let a : At s at 1 = At.one (f at (omega arith) (omega arith)) (omega arith) in
    let r = ascii_points m s (at + 1) (omega arith) (λ k l g. f k (omega arith) (omega arith)) in
    let e : at + 1 + m ≡ at + suc m = omega arith in
    next_points a
    ∙ ap (λ (x : ℕ). x ∷ points_from_lem 0 (drop (at + 1) s)) (value_1 s at (omega arith))
    ∙ ap (λ (t : List ℕ). get_or s at 0 ∷ t) (r ∙ ap (λ (n : ℕ). take m (drop (at + 1) s) ++ points_from_lem 0 (drop n s)) e)
    ∙ ap (λ (t : List ℕ). take (suc m) t ++ points_from_lem 0 (drop (at + suc m) s)) (sym (front_1 s at (omega arith)))

ascii_good : (m : ℕ) (s : List ℕ) (at : ℕ) → at + m ≤ length s → Ascii s at (at + m) → at + good_from 0 (drop at s) ≡ at + m + good_from 0 (drop (at + m) s)
ascii_good zero s at h f = rw (add-zero at)
ascii_good (suc m) s at h f =
    let a : At s at 1 = At.one (f at (omega arith) (omega arith)) (omega arith) in
    let r = ascii_good m s (at + 1) (omega arith) (λ k l g. f k (omega arith) (omega arith)) in
    let e : at + 1 + m ≡ at + suc m = omega arith in
    next_good a ∙ r ∙ ap (λ (n : ℕ). n + good_from 0 (drop n s)) e

-- the next part a of an answer, placed where what is there of it ends
module _ (all d o : List ℕ) (n : ℕ) (a r : List ℕ) (h : n ≤ length all) (left : drop n all ≡ a ++ r) (there : o ≡ answered (take n all) d) where
  part : take (n + length a) all ≡ take n all ++ a
  part = take-add n (length a) all ∙ ap (λ (t : List ℕ). take n all ++ t) (ap (λ (t : List ℕ). take (length a) t) left ∙ take-append_seam a r)

  left_after : drop (n + length a) all ≡ r
  left_after = sym (drop-drop (length a) n all) ∙ ap (λ (t : List ℕ). drop (length a) t) left ∙ drop-append_seam a r

  more_there : placed o n a ≡ answered (take (n + length a) all) d
  more_there =
      ap (λ (t : List ℕ). placed t n a) there
      ∙ ap (λ (m : ℕ). placed (answered (take n all) d) m a) (sym (length-take-le n all h))
      ∙ one_more (take n all) a d
      ∙ ap (λ (t : List ℕ). answered t d) (sym part)

  most_after : n + length a ≤ length all
  most_after = omega (arith, length-drop n all, ap length left, length-append a r)

pub record Filling (s d o : List ℕ) (at n : ℕ) : Type 0 where
  pub most : at ≤ length s
  pub good : at + good_from 0 (drop at s) ≡ length s
  pub rest : drop n (points s) ≡ points_from_lem 0 (drop at s)
  pub count : n ≤ length (points s)
  pub room : o ≡ answered (take n (points s)) d

-- a place of the bytes with its sequence, and a place of the room for its code point
pub record Next (s o : List ℕ) (at n l : ℕ) : Type 0 where
  pub past : (1 ≤ l) × (at + l ≤ length s)
  pub left : n < length o

pub begins : (s d : List ℕ) → good_end s ≡ length s → Filling s d d 0 0
begins s d g = record { most = omega arith; good = omega (arith, g); rest = refl; count = omega arith; room = refl }

module _ {s d o : List ℕ} {at n : ℕ} (f : Filling s d o at n) where
  pub by_run : (e r : ℕ) (o' : List ℕ) → at ≤ e → e ≤ length s → Ascii s at e → Put (take (e - at) (drop at s)) o n o' r → Filling s d o' e r
  by_run e r o' l h p w =
      let m : ℕ = e - at in
      let q : at + m ≡ e = omega arith in
      let a : List ℕ = take m (drop at s) in
      let z = points_from_lem 0 (drop (at + m) s) in
      let t : drop n (points s) ≡ a ++ z = f.rest ∙ ascii_points m s at (omega arith) (λ k i j. p k i (omega arith)) in
      record {
        most = h;
        good = ap (λ (k : ℕ). k + good_from 0 (drop k s)) (sym q) ∙ sym (ascii_good m s at (omega arith) (λ k i j. p k i (omega arith))) ∙ f.good;
        rest = rw w.next (left_after (points s) d o n a z f.count t f.room) ∙ ap (λ (k : ℕ). points_from_lem 0 (drop k s)) q;
        count = rw w.next (most_after (points s) d o n a z f.count t f.room);
        room = rw w.next (w.stands ∙ more_there (points s) d o n a z f.count t f.room);
      }

  pub as_long : length (points s) ≤ length d → length o ≡ length d
  as_long h = rw f.room (same_room (take n (points s)) d (omega (arith, length-take-le n (points s) f.count, f.count)))

  module _ {l : ℕ} (a : At s at l) (h : length (points s) ≤ length d) where
    left_here : drop n (points s) ≡ (decode (take l (drop at s)) ∷ []) ++ points_from_lem 0 (drop (at + l) s)
    left_here = f.rest ∙ next_points a

    pub below : n < length (points s)
    below = omega (arith, most_after (points s) d o n (decode (take l (drop at s)) ∷ []) (points_from_lem 0 (drop (at + l) s)) f.count left_here f.room)

    pub by_point : (x : ℕ) → x ≡ decode (take l (drop at s)) → Filling s d (set o n x) (at + l) (n + 1)
    unfolding placed
    by_point x e =
        let y : List ℕ = decode (take l (drop at s)) ∷ [] in
        let z = points_from_lem 0 (drop (at + l) s) in
        record {
          most = (fits a).ends;
          good = sym (next_good a) ∙ f.good;
          rest = left_after (points s) d o n y z f.count left_here f.room;
          count = most_after (points s) d o n y z f.count left_here f.room;
          room = rw e (sets-eq y o n (omega (arith, as_long h, below)) ∙ more_there (points s) d o n y z f.count left_here f.room);
        }

  pub ends : length s ≤ at → o ≡ answered (points s) d
  ends h = f.room ∙ ap (λ (t : List ℕ). answered t d) (take_all n (points s) (omega (arith, length-drop n (points s), ap length (f.rest ∙ end_points s at h))))

  pub run_fits : (e : ℕ) → at ≤ e → e ≤ length s → Ascii s at e → length (points s) ≤ length d → n + length (take (e - at) (drop at s)) ≤ length o
  run_fits e l h p w =
      let m : ℕ = e - at in
      let t : drop n (points s) ≡ take m (drop at s) ++ points_from_lem 0 (drop (at + m) s)
      = f.rest ∙ ascii_points m s at (omega arith) (λ k i j. p k i (omega arith)) in
      omega (arith, as_long w, most_after (points s) d o n (take m (drop at s)) (points_from_lem 0 (drop (at + m) s)) f.count t f.room)

  -- the good sequence at the place, and the room with its code point
  module _ (l : at < length s) where
    pub there : 0 < utf8_char (drop at s)
    there = omega (arith, stands (on s at l f.good).1)

    module _ (p : Point) (w : Pointed s at p) where
      is_long : p.len ≡ suc (on s at l f.good).0
      is_long = w.long ∙ stands (on s at l f.good).1

      pub past : (1 ≤ p.len) × (at + p.len ≤ length s)
      past =
          let a = fits (on s at l f.good).1 in
          omega (arith, is_long)

      pub room_left : length (points s) ≤ length d → n < length o
      room_left h = omega (arith, as_long h, below (on s at l f.good).1 h)

      pub by_pointed : length (points s) ≤ length d → Filling s d (set o n p.code) (at + p.len) (n + 1)
      by_pointed h =
          rw is_long
          (by_point (on s at l f.good).1 h p.code
          (w.number ∙ ap (λ (m : ℕ). decode (take m (drop at s))) (stands (on s at l f.good).1)))
