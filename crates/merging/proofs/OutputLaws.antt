-- Shown: demand 3, second half, for any list that tiles the original: unchanged and added spans of its history spell its text, unchanged and removed ones the original; replaying its diff over the original, plain and covering, spells that same text and leaves nothing.
-- How: by induction on the list, from where it stands in the original.
use Prim.Native.Nat.{ℕ, suc, ◌+◌, ◌-◌, ◌≤◌}
use mathlib.Core.Path.{◌≡◌, refl, sym, ◌∙◌, ap}
use mathlib.Core.List.{List, [], ◌∷◌, ◌++◌, append_assoc}
use native.Mathlib.Omega.{arith}
use lib.ListN.{length, take, drop, take-append-drop, drop_of_length-le}
use lib.Seq.{drop-drop, take-add}
use Rattle.diff.specs.Replay.{Edit, retain, delete, insert, replayed, mentioned, left, added}
use Rattle.diff.specs.Checks.{numbers, covers}
use Rattle.diff.proofs.Laws.{enough_numbers}
use Rattle.merging.specs.declared.Op.{Op}
use Rattle.merging.specs.declared.Op.TheVariants.{Delete, Insert, Retain}
use Rattle.merging.specs.Lent.{Lent, spelling_of}
use Rattle.merging.specs.Operations.{Out, ops_in}
use Rattle.merging.specs.Outputs.{words_of, text_of, Span, spanned, history_of, of_text, of_original, spelled_by, joined, to_diff}
use Rattle.merging.specs.Tiling.{Tiled, total_of, of_insert}
use Rattle.verdict.specs.Verdicts.{accepted}

-- the text of a list, one operation more
text_more : (lent : Lent) (side : ℕ) (a : Op) (ps : List Span) (ls : List Op) → spelled_by of_text ps ≡ text_of lent ls
    → spelled_by of_text (spanned lent side a ∷ ps) ≡ text_of lent (a ∷ ls)
unfolding spelled_by text_of
text_more lent side (Delete o l) ps ls e = e
text_more lent side (Insert o f n) ps ls e = ap (λ (t : List ℕ). spelling_of lent f n ++ t) e
text_more lent side (Retain o l) ps ls e = ap (λ (t : List ℕ). words_of lent (Retain o l) ++ t) e

-- unchanged and added spans spell the text
pub history_text_lem : (lent : Lent) (xs : List Out) → spelled_by of_text (history_of lent xs) ≡ text_of lent (ops_in xs)
unfolding history_of ops_in
history_text_lem lent [] = unfold spelled_by text_of in refl
history_text_lem lent (x ∷ xs) = text_more lent x.side x.op (history_of lent xs) (ops_in xs) (history_text_lem lent xs)

-- a part of the original, and what is behind it
part_drop : (o l : ℕ) (xs : List ℕ) → take l (drop o xs) ++ drop (o + l) xs ≡ drop o xs
part_drop o l xs = ap (λ (t : List ℕ). take l (drop o xs) ++ t) (sym (drop-drop l o xs)) ∙ take-append-drop l (drop o xs)

original_more : (lent : Lent) (side : ℕ) (a : Op) (ps : List Span) (ls : List Op) (at n : ℕ) → Tiled (a ∷ ls) at n
    → ((p : ℕ) → Tiled ls p n → spelled_by of_original ps ≡ drop p lent.original)
    → spelled_by of_original (spanned lent side a ∷ ps) ≡ drop at lent.original
unfolding spelled_by
original_more lent side (Delete o l) ps ls at n t e = rw (← t.0, e (o + l) t.2) (part_drop o l lent.original)
original_more lent side (Insert o f k) ps ls at n t e = e at t.2
original_more lent side (Retain o l) ps ls at n t e = rw (← t.0, e (o + l) t.2) (part_drop o l lent.original)

-- unchanged and removed spans spell the original, from where the list stands
pub history_original : (lent : Lent) (xs : List Out) (at n : ℕ) → n ≡ length lent.original → Tiled (ops_in xs) at n
    → spelled_by of_original (history_of lent xs) ≡ drop at lent.original
unfolding history_of ops_in
history_original lent [] at n h t = unfold spelled_by in sym (drop_of_length-le lent.original {i = at} (omega arith))
history_original lent (x ∷ xs) at n h t =
    original_more lent x.side x.op (history_of lent xs) (ops_in xs) at n t (λ p u. history_original lent xs p n h u)

-- "History has one span for each operation, in order."
pub history_length : (lent : Lent) (xs : List Out) → length (history_of lent xs) ≡ length xs
unfolding history_of
history_length lent [] = refl
history_length lent (x ∷ xs) = ap suc (history_length lent xs)

-- a joined retain replays as the two
joined_replayed : (l : ℕ) (o : List ℕ) (es : List Edit) → replayed o (joined l es) ≡ take l o ++ replayed (drop l o) es
unfolding replayed
joined_replayed l o [] = refl
joined_replayed l o (retain n ∷ es) =
    rw (take-add l n o, ← drop-drop n l o) (append_assoc (take l o) (take n (drop l o)) (replayed (drop n (drop l o)) es))
joined_replayed l o (delete n ∷ es) = refl
joined_replayed l o (insert s ∷ es) = refl

joined_mentioned : (l : ℕ) (es : List Edit) → mentioned (joined l es) ≡ l + mentioned es
unfolding mentioned
joined_mentioned l [] = refl
joined_mentioned l (retain n ∷ es) = omega arith
joined_mentioned l (delete n ∷ es) = refl
joined_mentioned l (insert s ∷ es) = refl

drop_past : (lent : Lent) (at o l : ℕ) → o ≡ at → drop l (drop at lent.original) ≡ drop (o + l) lent.original
drop_past lent at o l e = drop-drop l at lent.original ∙ ap (λ (x : ℕ). drop (x + l) lent.original) (sym e)

-- the diff replayed over the original spells that same text, from where the list stands
pub diff_replayed : (lent : Lent) (ls : List Op) (at n : ℕ) → Tiled ls at n → replayed (drop at lent.original) (to_diff lent ls) ≡ text_of lent ls
unfolding to_diff replayed text_of
diff_replayed lent [] at n t = refl
diff_replayed lent (Delete o l ∷ ls) at n t =
    ap (λ (s : List ℕ). replayed s (to_diff lent ls)) (drop_past lent at o l t.0) ∙ diff_replayed lent ls (o + l) n t.2
diff_replayed lent (Insert o f k ∷ ls) at n t = ap (λ (s : List ℕ). spelling_of lent f k ++ s) (diff_replayed lent ls at n t.2)
diff_replayed lent (Retain o l ∷ ls) at n t =
    joined_replayed l (drop at lent.original) (to_diff lent ls)
    ∙ (ap (λ (s : List ℕ). take l (drop at lent.original) ++ replayed s (to_diff lent ls)) (drop_past lent at o l t.0)
    ∙ (ap (λ (s : List ℕ). take l (drop at lent.original) ++ s) (diff_replayed lent ls (o + l) n t.2)
    ∙ ap (λ (x : ℕ). take l (drop x lent.original) ++ text_of lent ls) (sym t.0)))

-- the diff speaks of all of the original
pub diff_mentioned : (lent : Lent) (ls : List Op) (at n : ℕ) → Tiled ls at n → at + mentioned (to_diff lent ls) ≡ n
unfolding to_diff mentioned
diff_mentioned lent [] at n t = omega arith
diff_mentioned lent (Delete o l ∷ ls) at n t = omega (arith, diff_mentioned lent ls (o + l) n t.2)
diff_mentioned lent (Insert o f k ∷ ls) at n t = diff_mentioned lent ls at n t.2
diff_mentioned lent (Retain o l ∷ ls) at n t = omega (arith, joined_mentioned l (to_diff lent ls), diff_mentioned lent ls (o + l) n t.2)

covers_accepted : (len : ℕ) (es : List Edit) → mentioned es ≡ len → covers len es ≡ accepted
unfolding covers left
covers_accepted len es h = let z : len - mentioned es ≡ 0 = omega arith in rw z

-- "Text, history and replay agree over the defined text": the diff replays to the text, plain and covering, and nothing is left
pub record Replays (lent : Lent) (ls : List Op) : Type 0 where
  pub text : replayed lent.original (to_diff lent ls) ≡ text_of lent ls
  pub asks : numbers 0 (length lent.original) (to_diff lent ls) ≡ accepted
  pub covers_all : covers (length lent.original) (to_diff lent ls) ≡ accepted
  pub nothing_left : left (length lent.original) (to_diff lent ls) ≡ 0

pub replays : (lent : Lent) (ls : List Op) → Tiled ls 0 (length lent.original) → Replays lent ls
unfolding left
replays lent ls t =
    let m : mentioned (to_diff lent ls) ≡ length lent.original = omega (arith, diff_mentioned lent ls 0 (length lent.original) t) in
    record {
      text = diff_replayed lent ls 0 (length lent.original) t;
      asks = enough_numbers 0 (length lent.original) (to_diff lent ls) (omega arith);
      covers_all = covers_accepted (length lent.original) (to_diff lent ls) m;
      nothing_left = omega arith;
    }

-- the diff has no more items than the list has operations, and adds what its inserts spell
joined_length : (l : ℕ) (es : List Edit) → length (joined l es) ≤ suc (length es)
joined_length l [] = omega arith
joined_length l (retain n ∷ es) = omega arith
joined_length l (delete n ∷ es) = omega arith
joined_length l (insert s ∷ es) = omega arith

pub diff_items : (lent : Lent) (ls : List Op) → length (to_diff lent ls) ≤ length ls
unfolding to_diff
diff_items lent [] = omega arith
diff_items lent (Delete o l ∷ ls) = omega (arith, diff_items lent ls)
diff_items lent (Insert o f k ∷ ls) = omega (arith, diff_items lent ls)
diff_items lent (Retain o l ∷ ls) = omega (arith, joined_length l (to_diff lent ls), diff_items lent ls)

joined_added : (l : ℕ) (es : List Edit) → added (joined l es) ≡ added es
unfolding added
joined_added l [] = refl
joined_added l (retain n ∷ es) = refl
joined_added l (delete n ∷ es) = refl
joined_added l (insert s ∷ es) = refl

pub diff_added : (lent : Lent) (ls : List Op) → added (to_diff lent ls) ≡ total_of (of_insert (λ f k. length (spelling_of lent f k))) ls
unfolding to_diff added total_of
diff_added lent [] = refl
diff_added lent (Delete o l ∷ ls) = omega (arith, diff_added lent ls)
diff_added lent (Insert o f k ∷ ls) = omega (arith, diff_added lent ls)
diff_added lent (Retain o l ∷ ls) = omega (arith, joined_added l (to_diff lent ls), diff_added lent ls)
