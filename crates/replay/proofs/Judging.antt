-- What the passes over a diff found, put together: the first refusal in the paper's order, or what is left and the length.
-- Each law is one way through `judge`, by the definitions' own choices. Assumes nothing.
use mathlib.Core.Path.{◌≡◌, refl, ◌∙◌}
use mathlib.Core.Bool.{Bool, true, false}
use mathlib.Core.List.{List}
use mathlib.Core.Logic.{◌⊎◌, inl, inr}
use Prim.Native.Nat.{ℕ, ◌+◌, ◌-◌, ◌/◌, ◌≤◌, ◌<◌}
use native.Mathlib.Omega.{arith}
use lib.ListN.{length}
use lib.Dec.{ltb}
use borrow.Author.Tests.{lt-ltb, le-ltb, ltb-false}
use Rattle.refusal.specs.declared.Refusal.{Refusal}
use Rattle.refusal.specs.declared.Refusal.TheVariants.{Size}
use Rattle.verdict.specs.Verdicts.{and_then, accepted}
use Rattle.verdict.specs.Points.{points_verdict}
use Rattle.diff.specs.declared.diff.Item.{Item}
use Rattle.diff.specs.declared.diff.Reached.{Reached}
use Rattle.diff.specs.Items.{items_of}
use Rattle.diff.specs.Replay.{Edit, replayed, kept, added, left}
use Rattle.diff.specs.Checks.{refuse_if, original_most, items_most, text_most, used, sizes, records, numbers}
use Rattle.diff.specs.Passes.{surveyed, walked}
use Rattle.replay.specs.Answers.{Diff, edits, text_of, plain, judged}
use Rattle.diff.proofs.Decoding.{items_length}
use Rattle.diff.proofs.Laws.{picked_accepted, refused_by, answered_by, numbers_enough, kept_mentioned, replayed_length, added_used}
use Rattle.std.specs.Prelude.{Result, Ok, Err}

-- tests of sizes, of which one of the first three is passed
passes :
    (a b c e : Bool) → (a ≡ true) ⊎ ((b ≡ true) ⊎ (c ≡ true))
    → and_then (refuse_if a Size) (and_then (refuse_if b Size) (and_then (refuse_if c Size) (refuse_if e Size))) ≡ Err Size
passes true b c e h = refl
passes false true c e h = refl
passes false false true e h = refl
passes false false false e (inl h) = cc
passes false false false e (inr (inl h)) = cc
passes false false false e (inr (inr h)) = cc

-- a walk that ends, ends within the original, and retains no more than it passes
pub reached_within : (len : ℕ) (es : List Edit) {w : Reached} → walked len es ≡ Ok w → (w.position ≤ len) × (w.kept ≤ w.position)
unfolding walked
reached_within len es {w} e =
    let v = answered_by (numbers 0 len es) _ w e in
    rw (← v.1) (numbers_enough 0 len es v.0, kept_mentioned es)

-- what is used passes no limit
pub used_within : (is : List Item) {n : ℕ} → surveyed is ≡ Ok (Ok n) → n ≤ text_most
unfolding surveyed
used_within is {n} e =
    let v = answered_by (refuse_if (ltb text_most (used is)) Size) _ (Ok n) e in
    let t = picked_accepted (ltb text_most (used is)) Size accepted v.0 in
    let u = answered_by (records 0 is) (used is) n v.1 in
    omega (arith, ltb-false text_most (used is) t.0)

module _ (d : Diff) where
  abbrev is : List Item
  is = items_of d.items (length d.text)

  tests : (original_most < length d.original) ⊎ ((items_most < length d.items / 3) ⊎ (text_most < length d.text))
      → (ltb original_most (length d.original) ≡ true) ⊎ ((ltb items_most (length is) ≡ true) ⊎ (ltb text_most (length d.text) ≡ true))
  tests (inl h) = inl (lt-ltb _ _ h)
  tests (inr (inl h)) = inr (inl (rw (items_length d.items (length d.text)) (lt-ltb _ _ h)))
  tests (inr (inr h)) = inr (inr (lt-ltb _ _ h))

  pub too_long : (original_most < length d.original) ⊎ ((items_most < length d.items / 3) ⊎ (text_most < length d.text)) → Err Size ≡ judged d
  unfolding judged plain sizes
  too_long h = rw (passes (ltb original_most (length d.original)) (ltb items_most (length is)) (ltb text_most (length d.text)) (ltb text_most (used is)) (tests h))

  module _ (a : length d.original ≤ original_most) (b : length d.items / 3 ≤ items_most) (c : length d.text ≤ text_most) where
    sized : sizes d.original is d.text ≡ refuse_if (ltb text_most (used is)) Size
    unfolding sizes
    sized = rw (le-ltb _ _ a, items_length d.items (length d.text), le-ltb _ _ b, le-ltb _ _ c)

    pub long_use : {r : Refusal} → surveyed is ≡ Err r → Err r ≡ judged d
    unfolding judged plain surveyed
    long_use e = rw (sized, refused_by _ _ _ e)

    module _ {v : Result ℕ Refusal} (e : surveyed is ≡ Ok v) where
      says : (sizes d.original is d.text ≡ accepted) × (and_then (records 0 is) (Ok (used is)) ≡ v)
      unfolding surveyed
      says = let w = answered_by (refuse_if (ltb text_most (used is)) Size) _ v e in (sized ∙ w.0, w.1)

      pub point_first : {r : Refusal} → points_verdict d.original d.text ≡ Err r → Err r ≡ judged d
      unfolding judged plain
      point_first p = rw (says.0, p)

      module _ (p : points_verdict d.original d.text ≡ accepted) where
        pub record_broken : {r : Refusal} → v ≡ Err r → Err r ≡ judged d
        unfolding judged plain
        record_broken {r} f = rw (says.0, p, refused_by (records 0 is) (used is) r (says.1 ∙ f))

        module _ {n : ℕ} (f : v ≡ Ok n) where
          tells : (records 0 is ≡ accepted) × (used is ≡ n)
          tells = answered_by (records 0 is) (used is) n (says.1 ∙ f)

          then_numbers : plain d ≡ numbers 0 (length d.original) (edits d)
          unfolding plain
          then_numbers = rw (says.0, p, tells.0)

          pub number_short : {r : Refusal} → walked (length d.original) (edits d) ≡ Err r → Err r ≡ judged d
          unfolding judged walked
          number_short {r} w = rw (then_numbers, refused_by _ _ r w)

          insertions : added (edits d) ≡ n
          unfolding edits items_of
          insertions = added_used d.items d.text 0 (length d.items / 3) ∙ tells.1

          pub all_fine :
              {w : Reached} → walked (length d.original) (edits d) ≡ Ok w
              → Ok (record { left = length d.original - w.position; length = w.kept + n }) ≡ judged d
          unfolding judged walked left text_of
          all_fine {w} g =
              let v = answered_by (numbers 0 (length d.original) (edits d)) _ w g in
              let m : length (replayed d.original (edits d)) ≡ kept (edits d) + n =
              replayed_length d.original (edits d) (numbers_enough 0 (length d.original) (edits d) v.0) ∙ rw (insertions) in
              rw (← v.1, then_numbers, v.0, m)
