-- The two passes over the items: sums up to a size, and the first item that cannot be written.
-- What is left of the items decides the whole answer; one law for each way through a turn. Assumes nothing.
use mathlib.Core.Path.{◌≡◌, refl, sym, ap, ◌∙◌}
use mathlib.Core.Bool.{Bool, true, false, not, ◌&&◌}
use mathlib.Core.List.{List, [], ◌∷◌}
use Prim.Native.Nat.{ℕ, suc, ◌+◌, ◌-◌, ◌/◌, ◌≤◌, ◌<◌, zero-le}
use native.Mathlib.Nat.{sub-zero}
use native.Mathlib.Omega.{arith}
use lib.ListN.{length, take, drop, length-take, length-drop}
use lib.IntN.{ℤ}
use lib.Dec.{ltb, leb}
use borrow.Author.Tests.{lt-ltb, le-ltb, leb-true, leb-false}
use Rattle.refusal.specs.declared.Refusal.TheVariants.{Record, Size}
use Rattle.refusal.specs.declared.Refusal.{Refusal}
use Rattle.std.specs.Prelude.{Ok, Err, Some, None}
use Rattle.room.specs.Choice.{pick}
use Rattle.diff.proofs.Laws.{refused_by, answered_by}
use Rattle.verdict.specs.Verdicts.{and_then, accepted}
use Rattle.verdict.specs.Points.{points_from}
use Rattle.diff.specs.declared.diff.Item.{Item as Lent}
use Rattle.diff.specs.declared.diff.Item.TheVariants.{Retain, Delete, Insert, Neither}
use Rattle.diff.specs.Items.{item_at, items_of, items_from}
use Rattle.diff.specs.Checks.{refuse_if}
use Rattle.diff.proofs.Decoding.{items_more, items_none, items_length, insert_within}
use Rattle.edit_format.specs.Items.{Item, kept, dropped, added}
use Rattle.edit_format.specs.Written.{item_lines}
use Rattle.written_lines.specs.Lengths.{cap}
use Rattle.writable.specs.Writable.{file_item, file_items, file_of, sizes, shapes, writable}
use Rattle.writable.specs.Passes.{sums_of, sums_with, keeps, tally_of, checked_by}
use Rattle.writable.specs.declared.Sums.{Sums}

-- the file's items from the lent item i on
abbrev pub rest : List ℤ → List ℕ → ℕ → List Item
rest xs text i = file_items text (items_from xs (length text) i (length xs / 3 - i))

pub rest_all : (xs : List ℤ) (text : List ℕ) → file_of xs text ≡ rest xs text 0
unfolding file_of items_of
rest_all xs text = rw (sub-zero (length xs / 3))

pub rest_at : (xs : List ℤ) (text : List ℕ) (i : ℕ) {x : Lent} → i < length xs / 3 → item_at xs (length text) i ≡ x → rest xs text i ≡ file_item text x ∷ rest xs text (i + 1)
unfolding file_items
rest_at xs text i h e = rw (items_more xs (length text) i (length xs / 3) h, e)

pub rest_none : (xs : List ℤ) (text : List ℕ) (i : ℕ) → length xs / 3 ≤ i → rest xs text i ≡ []
unfolding file_items
rest_none xs text i h = rw (items_none xs (length text) i (length xs / 3) h)

pub text_length_lem : (xs : List ℤ) (text : List ℕ) (i : ℕ) {s n : ℕ} → item_at xs (length text) i ≡ Insert s n → length (take n (drop s text)) ≡ n
text_length_lem xs text i {s} {n} e = let w : s + n ≤ length text = insert_within xs (length text) i e in simp (length-take, length-drop) (omega arith)

-- the sums of the items before i
pub record Tallying (xs : List ℤ) (text : List ℕ) (s : Sums) (i : ℕ) : Type 0 where
  pub keeps : s.kept ≤ s.used
  pub uses : s.used ≤ 65535
  pub adds : s.added ≤ 131070
  pub kept_sum : kept (file_of xs text) ≡ s.kept + kept (rest xs text i)
  pub used_sum : kept (file_of xs text) + dropped (file_of xs text) ≡ s.used + (kept (rest xs text i) + dropped (rest xs text i))
  pub added_sum : added (file_of xs text) ≡ s.added + added (rest xs text i)

pub tally_begins : (xs : List ℤ) (text : List ℕ) → Tallying xs text (record { kept = 0; used = 0; added = 0 }) 0
tally_begins xs text = record {
  keeps = zero-le;
  uses = zero-le;
  adds = zero-le;
  kept_sum = omega (arith, ap kept (rest_all xs text));
  used_sum = omega (arith, ap kept (rest_all xs text), ap dropped (rest_all xs text));
  added_sum = omega (arith, ap added (rest_all xs text));
}

over_text : (is : List Item) → 131070 < added is → Err Size ≡ tally_of is
unfolding tally_of
over_text is h = rw (lt-ltb 131070 (added is) h)

over_used : (is : List Item) → 65535 < kept is + dropped is → Err Size ≡ tally_of is
unfolding tally_of
over_used is h = rw (lt-ltb 65535 (kept is + dropped is) h) (go (ltb 131070 (added is)))
  where
    go : (t : Bool) → Err Size ≡ and_then (and_then (refuse_if t Size) (Err Size)) (Ok (sums_of is))
    go true = refl
    go false = refl

-- a choice between something and nothing
pub chosen : {A : Type 0} (t : Bool) (a b : A) → pick t (Some a) None ≡ Some b → (t ≡ true) × (a ≡ b)
chosen true a b e = (refl, cc)
chosen false a b e = let z : false ≡ true = cc in (z, cc)

not_chosen : {A : Type 0} (t : Bool) (a : A) → pick t (Some a) None ≡ None → t ≡ false
not_chosen true a e = cc
not_chosen false a e = refl

module _ {xs : List ℤ} {text : List ℕ} {s : Sums} {i : ℕ} (t : Tallying xs text s i) (h : i < length xs / 3) where
  pub tally_on : (x : Lent) {r : Sums} → item_at xs (length text) i ≡ x → Some r ≡ sums_with s x → Tallying xs text r (i + 1)
  unfolding sums_with file_item kept dropped added
  tally_on (Retain n) e f =
      let r = rest_at xs text i h e in
      let c = chosen (leb (s.used + n) 65535) _ _ (sym f) in
      rw (← c.1)
      record {
        keeps = omega (arith, t.keeps);
        uses = leb-true _ _ c.0;
        adds = t.adds;
        kept_sum = omega (arith, t.kept_sum, ap kept r);
        used_sum = omega (arith, t.used_sum, ap kept r, ap dropped r);
        added_sum = omega (arith, t.added_sum, ap added r);
      }
  tally_on (Delete n) e f =
      let r = rest_at xs text i h e in
      let c = chosen (leb (s.used + n) 65535) _ _ (sym f) in
      rw (← c.1)
      record {
        keeps = omega (arith, t.keeps);
        uses = leb-true _ _ c.0;
        adds = t.adds;
        kept_sum = omega (arith, t.kept_sum, ap kept r);
        used_sum = omega (arith, t.used_sum, ap kept r, ap dropped r);
        added_sum = omega (arith, t.added_sum, ap added r);
      }
  tally_on (Insert a n) e f =
      let r = rest_at xs text i h e in
      let l = text_length_lem xs text i e in
      let c = chosen (leb (s.added + n) 131070) _ _ (sym f) in
      rw (← c.1)
      record {
        keeps = t.keeps;
        uses = t.uses;
        adds = leb-true _ _ c.0;
        kept_sum = omega (arith, t.kept_sum, ap kept r);
        used_sum = omega (arith, t.used_sum, ap kept r, ap dropped r);
        added_sum = omega (arith, t.added_sum, ap added r, l);
      }
  tally_on Neither {r} e f =
      let q = rest_at xs text i h e in
      let c : r ≡ s = cc in
      rw c
      record {
        keeps = t.keeps;
        uses = t.uses;
        adds = t.adds;
        kept_sum = omega (arith, t.kept_sum, ap kept q);
        used_sum = omega (arith, t.used_sum, ap kept q, ap dropped q);
        added_sum = omega (arith, t.added_sum, ap added q);
      }

  pub tally_over : (x : Lent) → item_at xs (length text) i ≡ x → None ≡ sums_with s x → Err Size ≡ tally_of (file_of xs text)
  unfolding sums_with file_item kept dropped added
  tally_over (Retain n) e f =
      let r = rest_at xs text i h e in
      over_used (file_of xs text) (omega (arith, leb-false _ _ (not_chosen (leb (s.used + n) 65535) _ (sym f)), t.used_sum, ap kept r, ap dropped r))
  tally_over (Delete n) e f =
      let r = rest_at xs text i h e in
      over_used (file_of xs text) (omega (arith, leb-false _ _ (not_chosen (leb (s.used + n) 65535) _ (sym f)), t.used_sum, ap kept r, ap dropped r))
  tally_over (Insert a n) e f =
      let r = rest_at xs text i h e in
      let l = text_length_lem xs text i e in
      over_text (file_of xs text) (omega (arith, leb-false _ _ (not_chosen (leb (s.added + n) 131070) _ (sym f)), t.added_sum, ap added r, l))
  tally_over Neither e f = cc

pub tally_ends : {xs : List ℤ} {text : List ℕ} {s : Sums} {i : ℕ} → Tallying xs text s i → length xs / 3 ≤ i → Ok s ≡ tally_of (file_of xs text)
unfolding tally_of kept dropped added
tally_ends {xs} {text} {s} {i} t h =
    let r = rest_none xs text i h in
    let x : kept (file_of xs text) ≡ s.kept = omega (arith, t.kept_sum, ap kept r) in
    let y : kept (file_of xs text) + dropped (file_of xs text) ≡ s.used = omega (arith, t.used_sum, ap kept r, ap dropped r) in
    let z : added (file_of xs text) ≡ s.added = omega (arith, t.added_sum, ap added r) in
    rw (le-ltb 131070 (added (file_of xs text)) (omega (arith, t.adds)), le-ltb 65535 (kept (file_of xs text) + dropped (file_of xs text)) (omega (arith, t.uses)), y, x, z)

-- no item before i is bad, and j says whether the last of them is a keep
pub record Shaping (xs : List ℤ) (text : List ℕ) (j : Bool) (i : ℕ) : Type 0 where
  pub same : shapes j i (rest xs text i) ≡ shapes false 0 (file_of xs text)

pub shape_begins : (xs : List ℤ) (text : List ℕ) → Shaping xs text false 0
shape_begins xs text = record { same = ap (shapes false 0) (sym (rest_all xs text)) }

module _ {xs : List ℤ} {text : List ℕ} {j : Bool} {i : ℕ} (t : Shaping xs text j i) where
  here : {x : Lent} → i < length xs / 3 → item_at xs (length text) i ≡ x → shapes j i (file_item text x ∷ rest xs text (i + 1)) ≡ shapes false 0 (file_of xs text)
  here h e = ap (shapes j i) (sym (rest_at xs text i h e)) ∙ t.same

  module _ (h : i < length xs / 3) where
    pub shape_on : (x : Lent) {k : Bool} → item_at xs (length text) i ≡ x → Some k ≡ keeps j x → Shaping xs text k (i + 1)
    unfolding keeps file_item shapes
    shape_on (Retain n) e f = let c = chosen (leb 1 n && not j) _ _ (sym f) in record { same = rw (← c.1) (rw c.0 at (here h e)) }
    shape_on (Delete n) e f = let c = chosen (leb 1 n) _ _ (sym f) in record { same = rw (← c.1) (rw c.0 at (here h e)) }
    shape_on (Insert a n) e f =
        let c = chosen (leb 1 n) _ _ (sym f) in
        record { same = rw (← c.1) (rw (text_length_lem xs text i e, c.0) at (here h e)) }
    shape_on Neither e f = cc

    pub shape_bad : (x : Lent) → item_at xs (length text) i ≡ x → None ≡ keeps j x → Err (Record i) ≡ shapes false 0 (file_of xs text)
    unfolding keeps file_item shapes
    shape_bad (Retain n) e f = rw (not_chosen (leb 1 n && not j) _ (sym f)) at (here h e)
    shape_bad (Delete n) e f = rw (not_chosen (leb 1 n) _ (sym f)) at (here h e)
    shape_bad (Insert a n) e f = rw (text_length_lem xs text i e, not_chosen (leb 1 n) _ (sym f)) at (here h e)
    shape_bad Neither e f = here h e

  pub shape_ends : length xs / 3 ≤ i → accepted ≡ shapes false 0 (file_of xs text)
  unfolding shapes
  shape_ends h = ap (shapes j i) (sym (rest_none xs text i h)) ∙ t.same

-- all checks together
file_length' : (text : List ℕ) (is : List Lent) → length (file_items text is) ≡ length is
unfolding file_items
file_length' text [] = refl
file_length' text (x ∷ is) = ap (λ (n : ℕ). suc n) (file_length' text is)

pub file_length : (xs : List ℤ) (text : List ℕ) → length (file_of xs text) ≡ length xs / 3
unfolding file_of
file_length xs text = file_length' text (items_of xs (length text)) ∙ items_length xs (length text)

module _ (xs : List ℤ) (text : List ℕ) where
  pub many_items : 8192 < length xs / 3 → Err Size ≡ checked_by (writable (file_of xs text) text) (file_of xs text)
  unfolding writable sizes
  many_items h = rw (lt-ltb 8192 (length (file_of xs text)) (omega (arith, file_length xs text)))

  pub long_text : length xs / 3 ≤ 8192 → 131070 < length text → Err Size ≡ checked_by (writable (file_of xs text) text) (file_of xs text)
  unfolding writable sizes
  long_text h g = rw (le-ltb 8192 (length (file_of xs text)) (omega (arith, file_length xs text)), lt-ltb 131070 (length text) g)

  sized : length xs / 3 ≤ 8192 → length text ≤ 131070 → writable (file_of xs text) text ≡ and_then (and_then (refuse_if (ltb 131070 (added (file_of xs text))) Size) (refuse_if (ltb 65535 (kept (file_of xs text) + dropped (file_of xs text))) Size)) (and_then (points_from text 0) (shapes false 0 (file_of xs text)))
  unfolding writable sizes
  sized h g = rw (le-ltb 8192 (length (file_of xs text)) (omega (arith, file_length xs text)), le-ltb 131070 (length text) g)

  -- what the sums say of the sizes
  module _ (h : length xs / 3 ≤ 8192) (g : length text ≤ 131070) where
    pub too_big : {r : Refusal} → Err r ≡ tally_of (file_of xs text) → Err r ≡ checked_by (writable (file_of xs text) text) (file_of xs text)
    unfolding tally_of
    too_big {r} e = rw (sized h g, refused_by _ (sums_of (file_of xs text)) r (sym e))

    module _ {s : Sums} (e : Ok s ≡ tally_of (file_of xs text)) where
      fitted : (writable (file_of xs text) text ≡ and_then (points_from text 0) (shapes false 0 (file_of xs text))) × (sums_of (file_of xs text) ≡ s)
      unfolding tally_of
      fitted = let w = answered_by _ (sums_of (file_of xs text)) s (sym e) in (rw (sized h g, w.0), w.1)

      pub bad_point : {r : Refusal} → Err r ≡ points_from text 0 → Err r ≡ checked_by (writable (file_of xs text) text) (file_of xs text)
      bad_point f = rw (fitted.0, ← f)

      module _ (f : accepted ≡ points_from text 0) where
        pub bad_shape : {r : Refusal} → Err r ≡ shapes false 0 (file_of xs text) → Err r ≡ checked_by (writable (file_of xs text) text) (file_of xs text)
        bad_shape d = rw (fitted.0, ← f, ← d)

        pub all_fine : {n : ℕ} → accepted ≡ shapes false 0 (file_of xs text) → n ≡ cap (length (item_lines (file_of xs text)))
            → Ok (record { sums = s; lines = n }) ≡ checked_by (writable (file_of xs text) text) (file_of xs text)
        all_fine d w = rw (fitted.0, ← f, ← d, fitted.1, w)
