-- Shown: the program over three files: the first refusal, or the merge of two accepted edit files over the original's code points.
-- How: by the tests that the definition makes.
use Prim.Native.Nat.{ℕ, zero, suc, ◌+◌, ◌≤◌}
use mathlib.Core.Path.{◌≡◌, refl, sym, ◌∙◌, ap, subst}
use mathlib.Core.Bool.{Bool, true, false, ◌&&◌}
use mathlib.Core.List.{List, [], ◌∷◌}
use native.Mathlib.Omega.{arith}
use lib.ListN.{length, take, replicate, length-append, length-take, length-replicate}
use borrow.Author.Tests.{leb-true, le-ltb}
use Rattle.numbers.specs.Points.{is_point}
use Rattle.refusal.specs.declared.Refusal.{Refusal}
use Rattle.room.specs.Choice.{pick}
use Rattle.room.specs.Placed.{answered}
use Rattle.room.proofs.Answers.{same_room}
use Rattle.verdict.specs.Points.{points_from}
use Rattle.room.proofs.Bools.{and_left, and_right}
use Rattle.utf8_read.specs.Grammar.{utf8_char}
use Rattle.utf8_read.specs.Table.{decode}
use Rattle.utf8_read.specs.Reading.{good_end, points, points_from_lem}
use Rattle.numbers.specs.Points.{scalars}
use Rattle.numbers.proofs.Scalar.{first_of_lem}
use Rattle.utf8.specs.Answers.{read_of, Answered, leaves}
use Rattle.utf8.proofs.Texts.{read_scalars}
use Rattle.edit_format.specs.Items.{Item, kept, dropped, texts}
use Rattle.edit_format.specs.Reading.{Found, Accepted, Refused, read_file}
use Rattle.edit_format.proofs.Accepts.{accepted_good}
use Rattle.outputs.proofs.Replaying.{front}
use Rattle.edit_list.specs.Raws.{items_in}
use Rattle.edit_list.specs.Lists.{used_by}
use Rattle.edit_list.proofs.Bounds.{file_long}
use Rattle.merge_files.specs.declared.Outcome.{Outcome}
use Rattle.merge_files.specs.declared.Uses.{Uses}
use Rattle.merge_files.specs.Program.{Output, refused, padding, of_files, sized, utf8, result_of, Written}
use Rattle.merge_files.specs.Steps.{uses_of, first_of, Files, Fitting, Texted, good_result}
use Rattle.merge_files.proofs.Padding.{padded}
use Rattle.std.specs.Prelude.{Result, Ok, Err}
use Rattle.verdict.specs.Verdicts.{accepted}

-- no more code points than bytes
few_points : (s : List ℕ) (k : ℕ) → length (points_from_lem k s) ≤ length s
unfolding points_from_lem
few_points [] k = omega arith
few_points (b ∷ s) (suc k) = omega (arith, few_points s k)
few_points (b ∷ s) zero = go (utf8_char (b ∷ s)) (λ j. few_points s j)
  where
    go : (n : ℕ) → ((j : ℕ) → length (points_from_lem j s) ≤ length s)
        → length {A = ℕ} (elim n as (λ (x : ℕ). List ℕ) [ zero ↦ [] | suc j ↦ decode (take (suc j) (b ∷ s)) ∷ points_from_lem j s ]) ≤ suc (length s)
    go zero h = omega arith
    go (suc j) h = omega (arith, h j)

-- what was read from UTF-8 is code points
points_fine : (s : List ℕ) (i : ℕ) → scalars s ≡ length s → points_from s i ≡ accepted
unfolding points_from
points_fine [] i e = refl
points_fine (x ∷ s) i e = let f = first_of_lem x s (is_point x) refl e in rw (f.0, points_from) (points_fine s (i + 1) f.1)

-- a refusal and what the files use
mixed : {A : Type 0} {n x y : ℕ} → ◌≡◌ {A = Result Uses ℕ} (Err n) (Ok (record { left = x; right = y })) → A
mixed e = let z : ◌≡◌ {A = ℕ} 0 1 = cc in absurd (omega arith)

number_is : {n m : ℕ} → ◌≡◌ {A = Result Uses ℕ} (Err n) (Err m) → n ≡ m
number_is e = cc

uses_are : {u v : Uses} → ◌≡◌ {A = Result Uses ℕ} (Ok u) (Ok v) → u ≡ v
uses_are e = cc

-- zeros are code points
pub zeros_fine : (n i : ℕ) → points_from (replicate n 0) i ≡ accepted
unfolding points_from is_point
zeros_fine zero i = refl
zeros_fine (suc n) i = zeros_fine n (i + 1)

-- two tests and both files, and what they leave
first_most : (a b : Bool) (f g : Found) (n : ℕ) → Err n ≡ pick a (pick b (uses_of f g) (Err 10)) (Err 3) → n ≤ 10
unfolding uses_of
first_most true true (Accepted is) (Accepted js) n e = mixed e
first_most true true (Accepted is) (Refused l) n e = omega (arith, number_is e)
first_most true true (Refused k) g n e = omega (arith, number_is e)
first_most true false f g n e = omega (arith, number_is e)
first_most false b f g n e = omega (arith, number_is e)

refused_first : (a b : Bool) (f g : Found) (d o : List ℕ) (n : ℕ) → Err n ≡ pick a (pick b (uses_of f g) (Err 10)) (Err 3)
    → refused n ≡ pick a (pick b (of_files d o f g) (refused 10)) (refused 3)
unfolding uses_of of_files
refused_first true true (Accepted is) (Accepted js) d o n e = mixed e
refused_first true true (Accepted is) (Refused l) d o n e = ap refused (number_is e)
refused_first true true (Refused k) g d o n e = ap refused (number_is e)
refused_first true false f g d o n e = ap refused (number_is e)
refused_first false b f g d o n e = ap refused (number_is e)

-- no test failed
pub record Fine (a b : Bool) (f g : Found) (x y : ℕ) : Type 0 where
  pub first : a ≡ true
  pub second : b ≡ true
  pub left : f ≡ Accepted (items_in f)
  pub right : g ≡ Accepted (items_in g)
  pub of_left : x ≡ kept (items_in f) + dropped (items_in f)
  pub of_right : y ≡ kept (items_in g) + dropped (items_in g)

fine : (a b : Bool) (f g : Found) (x y : ℕ) → Ok (record { left = x; right = y }) ≡ pick a (pick b (uses_of f g) (Err 10)) (Err 3) → Fine a b f g x y
unfolding uses_of items_in
fine true true (Accepted is) (Accepted js) x y e = record { first = refl; second = refl; left = refl; right = refl; of_left = ap (λ (u : Uses). u.left) (uses_are e); of_right = ap (λ (u : Uses). u.right) (uses_are e) }
fine true true (Accepted is) (Refused l) x y e = mixed (sym e)
fine true true (Refused k) g x y e = mixed (sym e)
fine true false f g x y e = mixed (sym e)
fine false b f g x y e = mixed (sym e)

module _ (o l r : List ℕ) where
  abbrev a : Bool
  a = sized o && (sized l && sized r)

  abbrev b : Bool
  b = utf8 o && (utf8 l && utf8 r)

  module _ {c : Result Uses ℕ} (e : c ≡ first_of o l r) where
    module _ {n : ℕ} (h : c ≡ Err n) where
      pub number_small : n ≤ 10
      unfolding first_of
      number_small = first_most a b (read_file l) (read_file r) n (sym h ∙ e)

      pub refuses : (out out' : List ℕ) (z : Outcome) → Written (refused n) out out' z → Written (result_of o l r) out out' z
      unfolding first_of result_of
      refuses out out' z w =
          subst (λ (x : Output). Written x out out' z) (refused_first a b (read_file l) (read_file r) padding (points o) n (sym h ∙ e)) w

    module _ {ul ur : ℕ} (h : c ≡ Ok (record { left = ul; right = ur })) where
      passed : Fine a b (read_file l) (read_file r) ul ur
      unfolding first_of
      passed = fine a b (read_file l) (read_file r) ul ur (sym h ∙ e)

      o_short : length o ≤ 2048
      o_short = leb-true (length o) 2048 (and_left (sized o) (sized l && sized r) passed.first)

      o_good : length o ≤ good_end o
      o_good = leb-true (length o) (good_end o) (and_left (utf8 o) (utf8 l && utf8 r) passed.second)

      files : Files l r
      files =
          let s : sized l && sized r ≡ true = and_right (sized o) (sized l && sized r) passed.first in
          record {
            left_short = leb-true (length l) 2048 (and_left (sized l) (sized r) s);
            right_short = leb-true (length r) 2048 (and_right (sized l) (sized r) s);
            left_accepted = passed.left;
            right_accepted = passed.right;
          }

      module _ (d d' : List ℕ) (nd : length d ≡ 2048) where
        due : read_of o (length d) ≡ Ok (length (points o))
        unfolding read_of
        due = rw (le-ltb (good_end o) (length o) o_good, le-ltb (length d) (length (points o)) (omega (arith, few_points o 0, o_short)))

        pub not_refused : {A : Type 0} {x : (Result ℕ Refusal)} {q : Refusal} → Answered (read_of o (length d)) x (points o) d d' → x ≡ Err q → A
        not_refused {A} {x} {q} w t =
            let p : Err q ≡ Ok (length (points o)) = sym t ∙ (w.answer ∙ due) in
            let z : ◌≡◌ {A = ℕ} 0 1 = cc in
            absurd (omega arith)

        module _ {x : (Result ℕ Refusal)} {k : ℕ} (w : Answered (read_of o (length d)) x (points o) d d') (t : x ≡ Ok k) where
          count : k ≡ length (points o)
          count =
              let p : Ok k ≡ Ok (length (points o)) = sym t ∙ (w.answer ∙ due) in
              cc

          room_is : d' ≡ answered (points o) d
          unfolding leaves
          room_is = rw due at w.room

          pub points_in : k ≤ length d'
          points_in =
              let s : length d' ≡ length d = rw room_is (same_room (points o) d (omega (arith, few_points o 0, o_short))) in
              omega (arith, count, few_points o 0, o_short)

          points_are : take k d' ≡ points o
          points_are = front (points o) d d' k count room_is

          pub fitting : Fitting (take k d') l r ul ur
          fitting = record {
            files = files;
            good = rw points_are (points_fine (points o) 0 (read_scalars o));
            short = omega (arith, length-take k d', count, few_points o 0, o_short);
            uses_left = passed.of_left;
            uses_right = passed.of_right;
          }

          pub result : (out out' : List ℕ) (z : Outcome) → Written (good_result (take k d') (read_file l) (read_file r)) out out' z → Written (result_of o l r) out out' z
          unfolding result_of of_files padding
          result out out' z v =
              let ls : List Item = items_in (read_file l) in
              let rs : List Item = items_in (read_file r) in
              let gl = accepted_good l passed.left in
              let gr = accepted_good r passed.right in
              let e = padded (points o) ls rs gl.each gr.each (replicate 67583 0) (zeros_fine 67583 0) (omega (arith, length-replicate {A = ℕ} 67583 0))
              (omega (arith, length-append (texts ls) (texts rs), file_long l passed.left, file_long r passed.right, files.left_short, files.right_short)) in
              rw (passed.first, passed.second, passed.left, passed.right) (rw e (rw points_are at v))

-- a room of zeros for what the files add
pub texted : (l r : List ℕ) → used_by l ≤ 2048 → used_by r ≤ 2048 → Texted l r (replicate 2048 0)
texted l r ul ur =
    let e : length {A = ℕ} (replicate 2048 0) ≡ 2048 = length-replicate {A = ℕ} 2048 0 in
    record { good = zeros_fine 2048 0; text_long = omega arith; text_most = omega arith; left_long = omega arith; right_long = omega arith }
