-- Shown: what `to_diff` wrote, the writer of edit files accepts; what is read back out of the file are the same items and the same text, from rooms to rooms.
-- How: its items are good, and good items are written and read back.
use Prim.Native.Nat.{ℕ, ◌*◌, ◌≤◌}
use mathlib.Core.Path.{◌≡◌, sym, ◌∙◌, ap}
use mathlib.Core.List.{List}
use native.Mathlib.Omega.{arith}
use lib.ListN.{length, take}
use lib.IntN.{ℤ}
use borrow.Author.Tests.{le-ltb}
use Rattle.room.specs.Placed.{answered}
use Rattle.records.specs.declared.Operation.{Operation}
use Rattle.verdict.specs.Verdicts.{Verdict, accepted}
use Rattle.diff.specs.Checks.{fits}
use Rattle.checks.proofs.Telling.{says_yes, says_what}
use Rattle.edit_format.specs.Items.{Item, texts, Good}
use Rattle.edit_format.specs.Written.{written}
use Rattle.edit_format.specs.Reading.{Accepted, read_file}
use Rattle.edit_format.proofs.ReadBack.{read_back}
use Rattle.item_records.specs.declared.Counts.{Counts}
use Rattle.edit_read.specs.Answer.{answer_of, items_left, text_left, ReadInto}
use Rattle.writable.specs.Writable.{file_of, writable}
use Rattle.edit_write.specs.Writing.{roomed, Wrote}
use Rattle.edit_write.proofs.Rewriting.{same_items, good_writable}
use Rattle.merging.specs.Lent.{Lent}
use Rattle.to_diff.specs.Items.{diff_of}
use Rattle.outputs.proofs.GoodItems.{diff_good}
use Rattle.outputs.proofs.Replaying.{front, Written}
use Rattle.std.specs.Prelude.{Result, Ok}
use Rattle.refusal.specs.declared.Refusal.{Refusal}

module _ (lent : Lent) (os : List Operation) {n m : ℕ} {d' : List ℤ} {e' : List ℕ} (w : Written lent os n m d' e') where
  good : Good (diff_of lent os)
  good = diff_good lent os w.accepted

  -- the file's items are the diff's
  pub file_items : file_of (take (n * 3) d') (take m e') ≡ diff_of lent os
  file_items = rw (w.items, w.text) (same_items (diff_of lent os) good)

  -- the writer accepts them
  pub file_writable : writable (file_of (take (n * 3) d') (take m e')) (take m e') ≡ accepted
  file_writable = rw (file_items, w.text) (good_writable (diff_of lent os) good)

  -- from rooms to rooms: `write` over what was written leaves the diff's edit file in its room
  pub files : {out out' : List ℕ} {r : Result ℕ Refusal} → Wrote (file_of (take (n * 3) d') (take m e')) (take m e') out out' r
      → length (written (diff_of lent os)) ≤ length out
      → (r ≡ Ok (length (written (diff_of lent os)))) × (out' ≡ answered (written (diff_of lent os)) out)
  unfolding roomed fits
  files {out} {out'} {r} h l =
      let t = le-ltb (length out) (length (written (diff_of lent os))) l in
      let v = rw file_items at file_writable in
      (rw (file_items, v, t) at h.answer, rw (file_items, v, t) at h.room)

  -- and `read` over the bytes of that file finds the same items and the same text
  pub reads_back : {out out' : List ℕ} {k : ℕ} {a a' : List ℤ} {b b' : List ℕ} {r : Result Counts Refusal}
      → Wrote (file_of (take (n * 3) d') (take m e')) (take m e') out out' (Ok k) → ReadInto (read_file (take k out')) a b a' b' r → n * 3 ≤ length a → m ≤ length b
      → (r ≡ Ok (record { items = n; text = m })) × ((a' ≡ answered (take (n * 3) d') a) × (b' ≡ answered (take m e') b))
  unfolding answer_of items_left text_left
  reads_back {out} {out'} {k} {a} {a'} {b} {b'} {r} h f i l =
      let v : Verdict = roomed (file_of (take (n * 3) d') (take m e')) (take m e') out in
      let y : v ≡ accepted = says_yes v _ _ (sym h.answer) in
      let c : k ≡ length (written (file_of (take (n * 3) d') (take m e'))) = sym (says_what v _ _ (sym h.answer)) in
      let g : out' ≡ answered (written (diff_of lent os)) out = rw (y, file_items) at h.room in
      let bytes : take k out' ≡ written (diff_of lent os) = front (written (diff_of lent os)) out out' k
      (c ∙ ap (λ (is : List Item). length (written is)) file_items) g in
      let q : read_file (take k out') ≡ Accepted (diff_of lent os) = ap read_file bytes ∙ read_back (diff_of lent os) good in
      let s = le-ltb (length a) (3 * length (diff_of lent os)) (omega (arith, w.many)) in
      let t = le-ltb (length b) (length (texts (diff_of lent os))) (omega (arith, w.long)) in
      let u : r ≡ Ok (record { items = n; text = m }) = rw (q, s, t, ← w.many, ← w.long) at f.answer in
      (u, (rw w.items (rw (u, q) at f.items), rw w.text (rw (u, q) at f.text)))
