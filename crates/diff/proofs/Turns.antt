-- The loops over a diff's items: for each the invariant, and what one more item does to it.
-- What is left of the items gives the whole answer, from where the loop stands. Assumes nothing.
use mathlib.Core.Path.{◌≡◌, refl, sym, ap, ◌∙◌}
use mathlib.Core.Logic.{◌⊎◌, inl, inr}
use mathlib.Core.List.{List, [], ◌∷◌}
use Prim.Native.Nat.{ℕ, ◌+◌, ◌-◌, ◌/◌, ◌≤◌, ◌<◌, min, zero-le}
use native.Mathlib.Nat.{sub-zero}
use native.Mathlib.Omega.{arith}
use lib.ListN.{length}
use lib.IntN.{ℤ}
use lib.Dec.{ltb}
use borrow.Author.Tests.{lt-ltb, le-ltb}
use Rattle.refusal.specs.declared.Refusal.TheVariants.{Record, Short, Size}
use Rattle.diff.specs.declared.diff.Item.{Item}
use Rattle.diff.specs.declared.diff.Item.TheVariants.{Retain, Delete, Insert, Neither}
use Rattle.diff.specs.Items.{item_at, items_from, items_of}
use Rattle.diff.specs.Replay.{Edit, retain, delete, insert, edit_of, edits_of, mentioned, kept}
use Rattle.diff.specs.Checks.{text_most, used, records, numbers, refuse_if}
use Rattle.diff.specs.Passes.{surveyed, walked}
use Rattle.diff.proofs.Decoding.{items_more, items_none}
use Rattle.std.specs.Prelude.{Ok, Err}
use Rattle.verdict.specs.Verdicts.{Verdict, accepted, and_then}
use Rattle.std.specs.Result.{result_and}

-- the items from a place on
abbrev pub rest : List ℤ → ℕ → ℕ → List Item
rest xs lent i = items_from xs lent i (length xs / 3 - i)

pub rest_at : (xs : List ℤ) (lent i : ℕ) {x : Item} → i < length xs / 3 → item_at xs lent i ≡ x → rest xs lent i ≡ x ∷ rest xs lent (i + 1)
rest_at xs lent i h e = rw (items_more xs lent i (length xs / 3) h, e)

pub rest_none : (xs : List ℤ) (lent i : ℕ) → length xs / 3 ≤ i → rest xs lent i ≡ []
rest_none xs lent i h = items_none xs lent i (length xs / 3) h

pub rest_all : (xs : List ℤ) (lent : ℕ) → rest xs lent 0 ≡ items_of xs lent
unfolding items_of
rest_all xs lent = rw (sub-zero (length xs / 3))

-- the look at all items: the sum of the texts, and the first item that is neither
pub record Surveying (xs : List ℤ) (lent i sum : ℕ) (checked : Verdict) : Type 0 where
  pub below : sum ≤ text_most
  pub same : sum + used (rest xs lent i) ≡ used (items_of xs lent)
  pub good : and_then checked (records i (rest xs lent i)) ≡ records 0 (items_of xs lent)

pub survey_begins : (xs : List ℤ) (lent : ℕ) → Surveying xs lent 0 0 accepted
survey_begins xs lent = record {
  below = zero-le;
  same = omega (arith, ap used (rest_all xs lent));
  good = ap (records 0) (rest_all xs lent);
}

-- a refusal hides those after it, and an answer stands behind both or neither
twice : (v : Verdict) (i : ℕ) (w : Verdict) → and_then (result_and v (Err (Record i))) w ≡ and_then v (Err (Record i))
twice (Ok u) i w = refl
twice (Err r) i w = refl

answer : (v : Verdict) (n : ℕ) → result_and v (Ok n) ≡ and_then (and_then v accepted) (Ok n)
answer (Ok u) n = refl
answer (Err r) n = refl

module _ {xs : List ℤ} {lent i sum : ℕ} {checked : Verdict} (h : Surveying xs lent i sum checked) where
  used_all : length xs / 3 ≤ i → sum ≡ used (items_of xs lent)
  unfolding used
  used_all l = omega (arith, h.same, ap used (rest_none xs lent i l))

  pub survey_ends : length xs / 3 ≤ i → Ok (result_and checked (Ok sum)) ≡ surveyed (items_of xs lent)
  unfolding surveyed records
  survey_ends l =
      let r : and_then checked accepted ≡ records 0 (items_of xs lent) =
      ap (λ (is : List Item). and_then checked (records i is)) (sym (rest_none xs lent i l)) ∙ h.good
      in
      rw (← used_all l, le-ltb _ _ h.below, ← r, answer checked sum)

  module _ (l : i < length xs / 3) where
    pub survey_number : ((n : ℕ) × (item_at xs lent i ≡ Retain n)) ⊎ ((n : ℕ) × (item_at xs lent i ≡ Delete n)) → Surveying xs lent (i + 1) sum checked
    unfolding records used
    survey_number (inl (n, e)) = let m = rest_at xs lent i l e in
        record { below = h.below; same = omega (arith, h.same, ap used m); good = rw m at h.good }
    survey_number (inr (n, e)) = let m = rest_at xs lent i l e in
        record { below = h.below; same = omega (arith, h.same, ap used m); good = rw m at h.good }

    pub survey_insert : {s n : ℕ} → item_at xs lent i ≡ Insert s n → n ≤ text_most - sum → Surveying xs lent (i + 1) (sum + n) checked
    unfolding records used
    survey_insert e f = let m = rest_at xs lent i l e in
        record { below = omega (arith, h.below); same = omega (arith, h.same, ap used m); good = rw m at h.good }

    -- the texts past an item that is neither are summed all the same
    pub survey_neither : item_at xs lent i ≡ Neither → Surveying xs lent (i + 1) sum (result_and checked (Err (Record i)))
    unfolding records used
    survey_neither e = let m = rest_at xs lent i l e in
        record { below = h.below; same = omega (arith, h.same, ap used m); good = twice checked i _ ∙ (rw m at h.good) }

    pub survey_long : {s n : ℕ} → item_at xs lent i ≡ Insert s n → text_most - sum < n → Err Size ≡ surveyed (items_of xs lent)
    unfolding surveyed used
    survey_long e f =
        let w : text_most < used (items_of xs lent) = omega (arith, h.same, ap used (rest_at xs lent i l e)) in
        rw (lt-ltb _ _ w)

-- what the look has found, told by a place: that of the first item that is neither, or how many items there are
abbrev pub found : ℕ → ℕ → Verdict
found bad count = refuse_if (ltb bad count) (Record bad)

-- the look as the code does it, which keeps such a place
pub record Placing (xs : List ℤ) (lent i sum bad : ℕ) : Type 0 where
  pub surveying : Surveying xs lent i sum (found bad (length xs / 3))
  pub place : (bad ≡ length xs / 3) ⊎ ((bad < i) × (bad < length xs / 3))

found_none : (bad count : ℕ) → count ≤ bad → found bad count ≡ accepted
found_none bad count l = rw (le-ltb bad count l)

found_one : (bad count : ℕ) → bad < count → found bad count ≡ Err (Record bad)
found_one bad count l = rw (lt-ltb bad count l)

-- one more item that is neither: the first stands
found_more : {bad i count b : ℕ} → (bad ≡ count) ⊎ ((bad < i) × (bad < count)) → i < count → b ≡ min bad i
    → result_and (found bad count) (Err (Record i)) ≡ found b count
found_more {bad} {i} {count} {b} p l z = elim p [
  | inl g ↦ let w : b ≡ i = omega (arith, z, g) in rw (found_none bad count (omega (arith, g)), w, found_one i count l)
  | inr g ↦ let w : b ≡ bad = omega (arith, z, g.0) in rw (w, found_one bad count g.1)
]

pub place_begins : (xs : List ℤ) (lent : ℕ) → Placing xs lent 0 0 (length xs / 3)
place_begins xs lent = record {
  surveying = rw (found_none (length xs / 3) (length xs / 3) (omega arith)) (survey_begins xs lent);
  place = inl refl;
}

module _ {xs : List ℤ} {lent i sum bad : ℕ} (h : Placing xs lent i sum bad) where
  ends : length xs / 3 ≤ i → Ok (result_and (found bad (length xs / 3)) (Ok sum)) ≡ surveyed (items_of xs lent)
  ends l = survey_ends h.surveying l

  pub place_ends : length xs / 3 ≤ i → length xs / 3 ≤ bad → Ok (Ok sum) ≡ surveyed (items_of xs lent)
  place_ends l f = rw (found_none bad (length xs / 3) f) at ends l

  pub place_broken : length xs / 3 ≤ i → bad < length xs / 3 → Ok (Err (Record bad)) ≡ surveyed (items_of xs lent)
  place_broken l f = rw (found_one bad (length xs / 3) f) at ends l

  module _ (l : i < length xs / 3) where
    -- an item that is number or text leaves the place
    stays : {s : ℕ} → Surveying xs lent (i + 1) s (found bad (length xs / 3)) → Placing xs lent (i + 1) s bad
    stays t = record { surveying = t; place = elim h.place [ inl e ↦ inl e | inr e ↦ inr (omega (arith, e.0), e.1) ] }

    pub place_number : ((n : ℕ) × (item_at xs lent i ≡ Retain n)) ⊎ ((n : ℕ) × (item_at xs lent i ≡ Delete n)) → Placing xs lent (i + 1) sum bad
    place_number e = stays (survey_number h.surveying l e)

    pub place_insert : {s n : ℕ} → item_at xs lent i ≡ Insert s n → n ≤ text_most - sum → Placing xs lent (i + 1) (sum + n) bad
    place_insert e f = stays (survey_insert h.surveying l e f)

    pub place_neither : (b : ℕ) → b ≡ min bad i → item_at xs lent i ≡ Neither → Placing xs lent (i + 1) sum b
    place_neither b z e = record {
      surveying = rw (← found_more h.place l z) (survey_neither h.surveying l e);
      place = inr (omega (arith, z), omega (arith, z, l));
    }

    pub place_long : {s n : ℕ} → item_at xs lent i ≡ Insert s n → text_most - sum < n → Err Size ≡ surveyed (items_of xs lent)
    place_long e f = survey_long h.surveying l e f

-- the edits from a place on
abbrev pub rest_edits : List ℤ → List ℕ → ℕ → List Edit
rest_edits xs text i = edits_of text (rest xs (length text) i)

-- the walk over the original: what is asked of it up to here was there
pub record Walking (xs : List ℤ) (text : List ℕ) (len i at keeps : ℕ) : Type 0 where
  pub within : at ≤ len
  pub fewer : keeps ≤ at
  pub asked : numbers at (len - at) (rest_edits xs text i) ≡ numbers 0 len (edits_of text (items_of xs (length text)))
  pub spoken : at + mentioned (rest_edits xs text i) ≡ mentioned (edits_of text (items_of xs (length text)))
  pub keeping : keeps + kept (rest_edits xs text i) ≡ kept (edits_of text (items_of xs (length text)))

pub walk_begins : (xs : List ℤ) (text : List ℕ) (len : ℕ) → Walking xs text len 0 0 0
walk_begins xs text len = record {
  within = zero-le;
  fewer = zero-le;
  asked = rw (sub-zero len) (ap (λ (is : List Item). numbers 0 len (edits_of text is)) (rest_all xs (length text)));
  spoken = omega (arith, ap (λ (is : List Item). mentioned (edits_of text is)) (rest_all xs (length text)));
  keeping = omega (arith, ap (λ (is : List Item). kept (edits_of text is)) (rest_all xs (length text)));
}

pub edits-at :
    (xs : List ℤ) (text : List ℕ) (i : ℕ) {x : Item} → i < length xs / 3 → item_at xs (length text) i ≡ x
    → rest_edits xs text i ≡ edit_of text x ∷ rest_edits xs text (i + 1)
unfolding edits_of
edits-at xs text i l e = rw (rest_at xs (length text) i l e)

pub edits_none : (xs : List ℤ) (text : List ℕ) (i : ℕ) → length xs / 3 ≤ i → rest_edits xs text i ≡ []
unfolding edits_of
edits_none xs text i l = rw (rest_none xs (length text) i l)

module _ {xs : List ℤ} {text : List ℕ} {len i at keeps : ℕ} (h : Walking xs text len i at keeps) where
  pub walk_ends : length xs / 3 ≤ i → Ok (record { position = at; kept = keeps }) ≡ walked len (edits_of text (items_of xs (length text)))
  unfolding walked numbers mentioned kept
  walk_ends l =
      let n = edits_none xs text i l in
      let a : accepted ≡ numbers 0 len (edits_of text (items_of xs (length text))) = ap (numbers at (len - at)) (sym n) ∙ h.asked in
      let p : at ≡ mentioned (edits_of text (items_of xs (length text))) = omega (arith, h.spoken, ap mentioned n) in
      let k : keeps ≡ kept (edits_of text (items_of xs (length text))) = omega (arith, h.keeping, ap kept n) in
      rw (← a, ← p, ← k)

  module _ (l : i < length xs / 3) where
    -- an edit that asks nothing of the original
    walk_passes : {s : List ℕ} → rest_edits xs text i ≡ insert s ∷ rest_edits xs text (i + 1) → Walking xs text len (i + 1) at keeps
    unfolding numbers mentioned kept
    walk_passes n = record {
      within = h.within;
      fewer = h.fewer;
      asked = sym (ap (numbers at (len - at)) n) ∙ h.asked;
      spoken = omega (arith, h.spoken, ap mentioned n);
      keeping = omega (arith, h.keeping, ap kept n);
    }

    pub walk_other : ((s n : ℕ) × (item_at xs (length text) i ≡ Insert s n)) ⊎ (item_at xs (length text) i ≡ Neither) → Walking xs text len (i + 1) at keeps
    unfolding edit_of
    walk_other (inl (s, n, e)) = walk_passes (edits-at xs text i l e)
    walk_other (inr e) = walk_passes (edits-at xs text i l e)

    pub walk_retain : {n : ℕ} → item_at xs (length text) i ≡ Retain n → n ≤ len - at → Walking xs text len (i + 1) (at + n) (keeps + n)
    unfolding edit_of numbers mentioned kept
    walk_retain {n} e f =
        let d : rest_edits xs text i ≡ retain n ∷ rest_edits xs text (i + 1) = edits-at xs text i l e in
        let m : len - at - n ≡ len - (at + n) = omega arith in
        record {
          within = omega (arith, h.within);
          fewer = omega (arith, h.fewer);
          asked = rw (← m) (sym (rw (le-ltb _ _ f) at (ap (numbers at (len - at)) d)) ∙ h.asked);
          spoken = omega (arith, h.spoken, ap mentioned d);
          keeping = omega (arith, h.keeping, ap kept d);
        }

    pub walk_delete : {n : ℕ} → item_at xs (length text) i ≡ Delete n → n ≤ len - at → Walking xs text len (i + 1) (at + n) keeps
    unfolding edit_of numbers mentioned kept
    walk_delete {n} e f =
        let d : rest_edits xs text i ≡ delete n ∷ rest_edits xs text (i + 1) = edits-at xs text i l e in
        let m : len - at - n ≡ len - (at + n) = omega arith in
        record {
          within = omega (arith, h.within);
          fewer = omega (arith, h.fewer);
          asked = rw (← m) (sym (rw (le-ltb _ _ f) at (ap (numbers at (len - at)) d)) ∙ h.asked);
          spoken = omega (arith, h.spoken, ap mentioned d);
          keeping = omega (arith, h.keeping, ap kept d);
        }

    pub walk_short_retain : {n : ℕ} → item_at xs (length text) i ≡ Retain n → len - at < n
        → Err (Short at n (len - at)) ≡ walked len (edits_of text (items_of xs (length text)))
    unfolding edit_of numbers walked
    walk_short_retain {n} e f =
        let d : rest_edits xs text i ≡ retain n ∷ rest_edits xs text (i + 1) = edits-at xs text i l e in
        let a : Err (Short at n (len - at)) ≡ numbers 0 len (edits_of text (items_of xs (length text))) = sym
        (rw (lt-ltb _ _ f) at (ap (numbers at (len - at)) d)) ∙ h.asked in
        rw (← a)

    pub walk_short_delete : {n : ℕ} → item_at xs (length text) i ≡ Delete n → len - at < n
        → Err (Short at n (len - at)) ≡ walked len (edits_of text (items_of xs (length text)))
    unfolding edit_of numbers walked
    walk_short_delete {n} e f =
        let d : rest_edits xs text i ≡ delete n ∷ rest_edits xs text (i + 1) = edits-at xs text i l e in
        let a : Err (Short at n (len - at)) ≡ numbers 0 len (edits_of text (items_of xs (length text))) = sym
        (rw (lt-ltb _ _ f) at (ap (numbers at (len - at)) d)) ∙ h.asked in
        rw (← a)
