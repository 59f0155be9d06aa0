-- How far the numbers of a text are code points: one by one, at the first that is none, and what a check that stops there answers.
-- By the first number of what is left. Assumes nothing.
use Rattle.std.proofs.Common.{◌≡◌, ℕ, zero, suc, ◌+◌, ◌≤◌, ◌<◌, Bool, true, false, not, cond, List, [], ◌∷◌, ◌++◌, Some, None, length, get_or, take, refl, sym, ap, ◌∙◌, arith, add-one, length-take-le}
use Rattle.std.proofs.Math.Seq.{take-suc, take_all}
use Rattle.std.proofs.lemmas.Bool.Decides.{nat_tests}
use Rattle.std.proofs.lemmas.List.Recursion.{is_position_or_len}
use Rattle.std.specs.List.{position, position_or_len}
use lib.Bits.{bit_or, or_add_and, and_le_l, and_le_r}
use Rattle.room.proofs.Choices.{pick_elim}
use Rattle.numbers.specs.Points.{is_point, no_point, scalars}

pub first_good : (x : ℕ) (s : List ℕ) → is_point x ≡ true → scalars (x ∷ s) ≡ suc (scalars s)
unfolding scalars
first_good x s e = rw e

first_bad : (x : ℕ) (s : List ℕ) → is_point x ≡ false → scalars (x ∷ s) ≡ 0
unfolding scalars
first_bad x s e = rw e

pub no_scalars : scalars [] ≡ 0
unfolding scalars
no_scalars = refl

pub none_left : (s : List ℕ) → length s ≡ 0 → scalars s ≡ 0
none_left [] h = no_scalars
none_left (x ∷ s) h = absurd (omega arith)

pub scalars_most : (s : List ℕ) → scalars s ≤ length s
unfolding scalars
scalars_most [] = omega arith
scalars_most (x ∷ s) =
    let h = scalars_most s in
    pick_elim (λ (n : ℕ). n ≤ suc (length s)) (is_point x) (λ _. omega arith) (λ _. omega arith)

-- where all are code points, so are the first and those behind it
pub first_of_lem : (x : ℕ) (s : List ℕ) (t : Bool) → is_point x ≡ t → scalars (x ∷ s) ≡ suc (length s) → (is_point x ≡ true) × (scalars s ≡ length s)
first_of_lem x s true q e = (q, omega (arith, first_good x s q))
first_of_lem x s false q e = absurd (omega (arith, first_bad x s q))

-- code points are passed, and what is behind them goes on
pub joined : (s t : List ℕ) → scalars s ≡ length s → scalars (s ++ t) ≡ length s + scalars t
unfolding scalars
joined [] t e = omega arith
joined (x ∷ s) t e =
    let o = first_of_lem x s (is_point x) refl e in
    rw o.0 (omega (arith, joined s t o.1))

-- a number that is none stops, whatever is behind it
pub stopped : (s t : List ℕ) → scalars s < length s → scalars (s ++ t) ≡ scalars s
unfolding scalars
stopped [] t h = absurd (omega arith)
stopped (x ∷ s) t h = go (is_point x) refl (stopped s t)
  where
    go : (y : Bool) → is_point x ≡ y → (scalars s < length s → scalars (s ++ t) ≡ scalars s) → scalars (x ∷ (s ++ t)) ≡ scalars (x ∷ s)
    go true e f = first_good x (s ++ t) e ∙ ap suc (f (omega (arith, first_good x s e))) ∙ sym (first_good x s e)
    go false e f = first_bad x (s ++ t) e ∙ sym (first_bad x s e)

-- one code point more
pub one_more : (s : List ℕ) (i : ℕ) → i < length s → is_point (get_or s i 0) ≡ true → scalars (take i s) ≡ i → scalars (take (i + 1) s) ≡ i + 1
one_more s i h p e =
    let n = length-take-le i s (omega arith) in
    rw (add-one i, take-suc s i 0 h, joined (take i s) (get_or s i 0 ∷ []) (omega arith)) (omega (arith, first_good (get_or s i 0) [] p, no_scalars))

pub all_passed : (s : List ℕ) (i : ℕ) → i ≡ length s → scalars (take i s) ≡ i → scalars s ≡ length s
all_passed s i h e = rw (take_all i s (omega arith)) at e ∙ h

-- bits of two numbers together that are below a number: so are both
pub below_both : (bits c n : ℕ) → bit_or bits c < n → (bits < n) × (c < n)
below_both bits c n h = omega (arith, or_add_and bits c, and_le_l bits c, and_le_r bits c)

-- where all are code points, each is
pub each : (s : List ℕ) (i : ℕ) → scalars s ≡ length s → i < length s → is_point (get_or s i 0) ≡ true
each [] i e h = absurd (omega arith)
each (x ∷ s) zero e h = (first_of_lem x s (is_point x) refl e).0
each (x ∷ s) (suc i) e h = each s i (first_of_lem x s (is_point x) refl e).1 (omega arith)

-- the place of the first number that is none
bad_or_len : (s : List ℕ) → scalars s ≡ position_or_len no_point s
bad_or_len = is_position_or_len scalars no_point no_scalars (λ x s. go x s (is_point x) refl)
  where
    go : (x : ℕ) (s : List ℕ) (y : Bool) → is_point x ≡ y → scalars (x ∷ s) ≡ cond (not (is_point x)) 0 (1 + scalars s)
    go x s true e = rw e (omega (arith, first_good x s e))
    go x s false e = rw e (first_bad x s e)

module _ (s : List ℕ) where
  pub none_bad : scalars s ≡ length s → None ≡ position no_point s
  none_bad e = grind (arith, nat_tests, bad_or_len s)

  pub all_fine : position no_point s ≡ None → scalars s ≡ length s
  all_fine e = grind (arith, nat_tests, bad_or_len s, scalars_most s)

  pub bad_at : (k : ℕ) → position no_point s ≡ Some k → (scalars s ≡ k) × (k < length s)
  bad_at k e = grind (arith, nat_tests, bad_or_len s)

-- a check that goes on at code points and stops at the first number that is none
module _
    {A : Type 0} (check : ℕ → List ℕ → A) (fine : A) (bad : ℕ → A) (ends : (i : ℕ) → check i [] ≡ fine)
    (on : (i x : ℕ) (s : List ℕ) → is_point x ≡ true → check i (x ∷ s) ≡ check (i + 1) s) (stops : (i x : ℕ) (s : List ℕ) → is_point x ≡ false → check i (x ∷ s) ≡ bad i)
  where
    good_from : (i : ℕ) (s : List ℕ) → length s ≤ scalars s → check i s ≡ fine
    good_from i [] h = ends i
    good_from i (x ∷ s) h =
        let o = first_of_lem x s (is_point x) refl (omega (arith, scalars_most (x ∷ s))) in
        on i x s o.0 ∙ good_from (i + 1) s (omega (arith, o.1))

    bad-next :
        (i x : ℕ) (s : List ℕ) (t : Bool) → is_point x ≡ t → scalars (x ∷ s) < suc (length s)
        → (scalars s < length s → check (i + 1) s ≡ bad (i + 1 + scalars s)) → check i (x ∷ s) ≡ bad (i + scalars (x ∷ s))
    bad-next i x s true q h f =
        let n = first_good x s q in
        let e : i + 1 + scalars s ≡ i + scalars (x ∷ s) = omega (arith, n) in
        on i x s q ∙ f (omega (arith, n)) ∙ ap bad e
    bad-next i x s false q h f = let e : i ≡ i + scalars (x ∷ s) = omega (arith, first_bad x s q) in stops i x s q ∙ ap bad e

    bad_from : (i : ℕ) (s : List ℕ) → scalars s < length s → check i s ≡ bad (i + scalars s)
    bad_from i [] h = absurd (omega arith)
    bad_from i (x ∷ s) h = bad-next i x s (is_point x) refl h (λ g. bad_from (i + 1) s g)

    module _ (s : List ℕ) (n : ℕ) (e : n ≡ scalars s) where
      pub all_good : length s ≤ n → fine ≡ check 0 s
      all_good h = sym (good_from 0 s (omega arith))

      pub one_bad : n < length s → bad n ≡ check 0 s
      one_bad h = let z : n ≡ 0 + scalars s = omega arith in ap bad z ∙ sym (bad_from 0 s (omega arith))
