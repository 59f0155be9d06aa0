-- What is true of every replay: its length, and what an accepted one asks of the original.
-- Each by induction over the edits. Assumes nothing.
use mathlib.Core.Path.{◌≡◌, refl}
use mathlib.Core.Bool.{Bool, true, false}
use mathlib.Core.List.{List, [], ◌∷◌}
use Prim.Native.Nat.{ℕ, zero, suc, ◌+◌, ◌-◌, ◌≤◌}
use native.Mathlib.Omega.{arith}
use lib.ListN.{length, drop, length-append, length-drop}
use lib.Seq.{length-take-le}
use lib.IntN.{ℤ}
use lib.Dec.{ltb}
use borrow.Author.Tests.{le-ltb, ltb-false}
use Rattle.room.specs.Choice.{pick}
use Rattle.refusal.specs.declared.Refusal.{Refusal}
use Rattle.diff.specs.declared.diff.Item.{Item}
use Rattle.diff.specs.declared.diff.Item.TheVariants.{Retain, Delete, Insert, Neither}
use Rattle.diff.specs.Items.{item_at, items_from}
use Rattle.diff.specs.Replay.{Edit, retain, delete, insert, edit_of, edits_of, replayed, mentioned, left, kept, added}
use Rattle.diff.specs.Checks.{used, numbers, covers}
use Rattle.diff.proofs.Decoding.{insert_within}
use Rattle.std.specs.Prelude.{Ok, Err}
use Rattle.verdict.specs.Verdicts.{Verdict, accepted, and_then}

-- a choice between a refusal and what follows was accepted: the test failed, and what follows is accepted
pub picked_accepted : (t : Bool) (r : Refusal) (v : Verdict) → pick t (Err r) v ≡ accepted → (t ≡ false) × (v ≡ accepted)
picked_accepted true r v e = let z : true ≡ false = cc in (z, cc)
picked_accepted false r v e = (refl, e)

-- an answer behind a check: a refusal is the check's, and an answer comes where the check accepts
pub refused_by : {A : Type 0} (v : Verdict) (x : A) (r : Refusal) → and_then v (Ok x) ≡ Err r → v ≡ Err r
refused_by (Ok u) x r e = cc
refused_by (Err q) x r e = cc

pub answered_by : {A : Type 0} (v : Verdict) (x y : A) → and_then v (Ok x) ≡ Ok y → (v ≡ accepted) × (x ≡ y)
answered_by (Ok u) x y e = (refl, cc)
answered_by (Err q) x y e = (cc, cc)

-- edits that pass for covering leave nothing
pub covers_none : (len : ℕ) (es : List Edit) → covers len es ≡ accepted → left len es ≡ 0
unfolding covers
covers_none len es e = let w = picked_accepted (ltb 0 (left len es)) _ accepted e in omega (arith, ltb-false 0 (left len es) w.0)

-- numbers that never ask too much ask no more than there is
pub numbers_enough : (at rest : ℕ) (es : List Edit) → numbers at rest es ≡ accepted → mentioned es ≤ rest
unfolding numbers mentioned
numbers_enough at rest [] e = omega arith
numbers_enough at rest (retain n ∷ es) e =
    let w = picked_accepted (ltb rest n) _ _ e in
    omega (arith, ltb-false rest n w.0, numbers_enough (at + n) (rest - n) es w.1)
numbers_enough at rest (delete n ∷ es) e =
    let w = picked_accepted (ltb rest n) _ _ e in
    omega (arith, ltb-false rest n w.0, numbers_enough (at + n) (rest - n) es w.1)
numbers_enough at rest (insert s ∷ es) e = numbers_enough at rest es e

-- and the other way
pub enough_numbers : (at rest : ℕ) (es : List Edit) → mentioned es ≤ rest → numbers at rest es ≡ accepted
unfolding numbers mentioned
enough_numbers at rest [] h = refl
enough_numbers at rest (retain n ∷ es) h =
    let l : n ≤ rest = omega arith in
    rw (le-ltb rest n l) (enough_numbers (at + n) (rest - n) es (omega arith))
enough_numbers at rest (delete n ∷ es) h =
    let l : n ≤ rest = omega arith in
    rw (le-ltb rest n l) (enough_numbers (at + n) (rest - n) es (omega arith))
enough_numbers at rest (insert s ∷ es) h = enough_numbers at rest es h

-- what is retained is part of what is spoken of
pub kept_mentioned : (es : List Edit) → kept es ≤ mentioned es
unfolding kept mentioned
kept_mentioned [] = omega arith
kept_mentioned (retain n ∷ es) = omega (arith, kept_mentioned es)
kept_mentioned (delete n ∷ es) = omega (arith, kept_mentioned es)
kept_mentioned (insert s ∷ es) = kept_mentioned es

-- the replayed text is as long as what is retained and what is inserted
pub replayed_length : (o : List ℕ) (es : List Edit) → mentioned es ≤ length o → length (replayed o es) ≡ kept es + added es
unfolding replayed mentioned kept added
replayed_length o [] h = refl
replayed_length o (retain n ∷ es) h =
    let l : n ≤ length o = omega arith in
    let t = replayed_length (drop n o) es (rw (length-drop) (omega arith)) in
    rw (length-append, length-take-le n o l) (omega arith)
replayed_length o (delete n ∷ es) h = replayed_length (drop n o) es (rw (length-drop) (omega arith))
replayed_length o (insert s ∷ es) h =
    let t = replayed_length o es h in
    rw (length-append) (omega arith)

-- what is inserted is what the texts use
one-added :
    (text : List ℕ) (x : Item) (es : List Edit) (is : List Item) → ((s n : ℕ) → x ≡ Insert s n → s + n ≤ length text)
    → added es ≡ used is → added (edit_of text x ∷ es) ≡ used (x ∷ is)
unfolding edit_of added used
one-added text (Retain n) es is w e = e
one-added text (Delete n) es is w e = e
one-added text (Insert s n) es is w e =
    let l : n ≤ length (drop s text) = rw (length-drop) (omega (arith, w s n refl)) in
    rw (length-take-le n (drop s text) l, e)
one-added text Neither es is w e = omega arith

none_added : added [] ≡ used []
unfolding added used
none_added = refl

pub added_used : (xs : List ℤ) (text : List ℕ) (i k : ℕ) → added (edits_of text (items_from xs (length text) i k)) ≡ used (items_from xs (length text) i k)
unfolding items_from edits_of
added_used xs text i zero = none_added
added_used xs text i (suc k) =
    one-added text (item_at xs (length text) i) _ _ (λ s n e. insert_within xs (length text) i e) (added_used xs text (i + 1) k)
