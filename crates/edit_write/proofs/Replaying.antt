-- An accepted file's covering replay over a good original of its length is accepted, and has `result=` code points.
-- The edits of the records are the file's items, so the counts of the replay are the sums of the file. Assumes nothing.
use mathlib.Core.Path.{◌≡◌, refl, sym, ap, ◌∙◌}
use mathlib.Core.Bool.{Bool, true, false, not, ◌&&◌}
use mathlib.Core.List.{List, [], ◌∷◌}
use Prim.Native.Nat.{ℕ, ◌+◌, ◌-◌, ◌/◌}
use native.Mathlib.Omega.{arith}
use lib.ListN.{length, take, drop}
use lib.Dec.{leb}
use borrow.Author.Tests.{le-ltb}
use Rattle.room.proofs.Bools.{and_right}
use Rattle.room.proofs.Choices.{no_way}
use Rattle.diff.specs.declared.diff.Item.{Item as Lent}
use Rattle.diff.specs.declared.diff.Item.TheVariants.{Retain, Delete, Insert, Neither}
use Rattle.diff.specs.Items.{items_of, items_from}
use Rattle.diff.specs.Replay.{edit_of, edits_of, mentioned, left, kept as keptBy, added as addedBy}
use Rattle.verdict.specs.Verdicts.{accepted}
use Rattle.diff.specs.Checks.{used, sizes, records, covers}
use Rattle.replay.specs.Answers.{Diff, diff, edits, text_of, plain, covering}
use Rattle.diff.proofs.Decoding.{items_length}
use Rattle.diff.proofs.Laws.{enough_numbers, replayed_length, added_used}
use Rattle.edit_format.specs.Items.{Item, kept, dropped, added, texts, all_points, items_good, Good}
use Rattle.edit_format.specs.Reading.{Accepted, read_file}
use Rattle.edit_format.specs.Records.{records_of}
use Rattle.edit_format.proofs.TextLaws.{texts_length}
use Rattle.edit_format.proofs.Accepts.{accepted_good}
use Rattle.writable.specs.Writable.{file_item, file_items, file_of}
use Rattle.writable.proofs.Checking.{file_length}
use Rattle.edit_write.proofs.Rewriting.{same_items, points_fine, texts_points}

-- the edits of what is lent are the file's items
pub mentions : (text : List ℕ) (ls : List Lent) → mentioned (edits_of text ls) ≡ kept (file_items text ls) + dropped (file_items text ls)
unfolding edits_of edit_of mentioned file_items file_item kept dropped
mentions text [] = refl
mentions text (Retain n ∷ ls) = omega (arith, mentions text ls)
mentions text (Delete n ∷ ls) = omega (arith, mentions text ls)
mentions text (Insert s n ∷ ls) = mentions text ls
mentions text (Neither ∷ ls) = mentions text ls

keeps : (text : List ℕ) (ls : List Lent) → keptBy (edits_of text ls) ≡ kept (file_items text ls)
unfolding edits_of edit_of keptBy file_items file_item kept
keeps text [] = refl
keeps text (Retain n ∷ ls) = omega (arith, keeps text ls)
keeps text (Delete n ∷ ls) = keeps text ls
keeps text (Insert s n ∷ ls) = keeps text ls
keeps text (Neither ∷ ls) = keeps text ls

adds : (text : List ℕ) (ls : List Lent) → addedBy (edits_of text ls) ≡ added (file_items text ls)
unfolding edits_of edit_of addedBy file_items file_item added
adds text [] = refl
adds text (Retain n ∷ ls) = adds text ls
adds text (Delete n ∷ ls) = adds text ls
adds text (Insert s n ∷ ls) = omega (arith, adds text ls)
adds text (Neither ∷ ls) = omega (arith, adds text ls)

-- a good file lends no item that is neither
no_neither : (text : List ℕ) (k : Bool) (i : ℕ) (ls : List Lent) → items_good k (file_items text ls) ≡ true → records i ls ≡ accepted
unfolding file_items file_item items_good records
no_neither text k i [] g = refl
no_neither text k i (Retain n ∷ ls) g = no_neither text true (i + 1) ls (and_right (leb 1 n && not k) (items_good true (file_items text ls)) g)
no_neither text k i (Delete n ∷ ls) g = no_neither text false (i + 1) ls (and_right (leb 1 n) (items_good false (file_items text ls)) g)
no_neither text k i (Insert s n ∷ ls) g = no_neither text false (i + 1) ls (and_right (leb 1 (length (take n (drop s text))) && all_points (take n (drop s text))) (items_good false (file_items text ls)) g)
no_neither text k i (Neither ∷ ls) g = no_way g

module _ (is : List Item) (g : Good is) (o : List ℕ) (long : length o ≡ kept is + dropped is) (good : all_points o ≡ true) where
  ls : List Lent
  ls = items_of (records_of is) (length (texts is))

  lent : file_items (texts is) ls ≡ is
  unfolding ls file_of
  lent = same_items is g

  d : Diff
  d = diff o (records_of is) (texts is)

  count : length ls ≡ length is
  unfolding ls
  count = items_length (records_of is) (length (texts is)) ∙ sym (file_length (records_of is) (texts is)) ∙ ap length (same_items is g)

  uses : used ls ≡ added is
  unfolding ls items_of
  uses = sym (added_used (records_of is) (texts is) 0 (length (records_of is) / 3)) ∙ adds (texts is) (items_from (records_of is) (length (texts is)) 0 (length (records_of is) / 3)) ∙ ap added (same_items')
    where
      same_items' : file_items (texts is) (items_from (records_of is) (length (texts is)) 0 (length (records_of is) / 3)) ≡ is
      same_items' = lent

  sum : mentioned (edits_of (texts is) ls) ≡ length o
  sum = mentions (texts is) ls ∙ ap (λ (l : List Item). kept l + dropped l) lent ∙ sym long

  plain_fine : plain d ≡ accepted
  unfolding plain sizes edits d ls
  plain_fine =
      rw (le-ltb 65535 (length o) (omega (arith, long, g.original)), le-ltb 8192 (length ls) (omega (arith, count, g.few)), le-ltb 131070 (length (texts is)) (omega (arith, texts_length is, g.text)), le-ltb 131070 (used ls) (omega (arith, uses, g.text)), points_fine o 0 good, points_fine (texts is) 0 (texts_points false is g.each), no_neither (texts is) false 0 ls (rw lent g.each))
      (enough_numbers 0 (length o) (edits_of (texts is) ls) (omega (arith, sum)))

  pub covers_all : covering (diff o (records_of is) (texts is)) ≡ accepted
  unfolding covering covers left edits d ls
  covers_all = let z : length o - mentioned (edits_of (texts is) ls) ≡ 0 = omega (arith, sum) in rw (plain_fine, z)

  pub result_long : length (text_of (diff o (records_of is) (texts is))) ≡ kept is + added is
  unfolding text_of edits ls
  result_long =
      replayed_length o (edits_of (texts is) ls) (omega (arith, sum))
      ∙ omega (arith, keeps (texts is) ls, adds (texts is) ls, ap kept lent, ap added lent)

-- law 4
pub replays : (p : List ℕ) {is : List Item} → read_file p ≡ Accepted is → (o : List ℕ) → length o ≡ kept is + dropped is → all_points o ≡ true
    → (covering (diff o (records_of is) (texts is)) ≡ accepted) × (length (text_of (diff o (records_of is) (texts is))) ≡ kept is + added is)
replays p {is} e o l a = let g = accepted_good p e in (covers_all is g o l a, result_long is g o l a)
