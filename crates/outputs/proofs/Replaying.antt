-- Shown: what `to_diff` wrote, replayed over the same original, gives the list's text, from rooms to rooms.
-- How: its items are good, so they decode to the edits of the diff, whose replay is the list's text.
use Prim.Native.Nat.{ℕ, ◌*◌, ◌≤◌}
use mathlib.Core.Path.{◌≡◌, refl, sym, ◌∙◌, ap}
use mathlib.Core.List.{List, [], ◌∷◌}
use native.Mathlib.Omega.{arith}
use lib.ListN.{length, take}
use lib.Seq.{take-append_seam}
use lib.IntN.{ℤ}
use borrow.Author.Tests.{le-ltb}
use Rattle.room.specs.Placed.{answered}
use Rattle.records.specs.declared.Operation.{Operation}
use Rattle.diff.specs.declared.diff.Item.{Item as LentItem}
use Rattle.diff.specs.declared.diff.Item.TheVariants as I
use Rattle.diff.specs.Items as D
use Rattle.diff.specs.Replay.{Edit, retain, delete, insert, edit_of, edits_of, replayed}
use Rattle.diff.specs.Checks.{fits}
use Rattle.replay.specs.Answers.{diff, edits, text_of, covering, roomed, Replayed}
use Rattle.verdict.specs.Verdicts.{and_then, Verdict, accepted}
use Rattle.verdict.proofs.Chains.{first_passed}
use Rattle.checks.proofs.Telling.{says_yes, says_what}
use Rattle.sizes.specs.Sizes.{otherwise}
use Rattle.sizes.specs.Texts.{list_text}
use Rattle.edit_format.specs.Items.{Item, Keep, Drop, Add, texts, Good}
use Rattle.edit_format.specs.Records.{records_of}
use Rattle.edit_format.proofs.RecordLaws.{length_records}
use Rattle.writable.specs.Writable.{file_item, file_items, file_of}
use Rattle.edit_write.proofs.Rewriting.{same_items}
use Rattle.edit_write.proofs.Replaying.{covers_all}
use Rattle.merging.specs.Lent.{Lent}
use Rattle.merging.specs.Operations.{ops_from}
use Rattle.merging.specs.Outputs.{to_diff}
use Rattle.merging_laws.proofs.Outputs.{agrees}
use Rattle.item_records.specs.declared.Counts.{Counts}
use Rattle.to_diff.specs.Items.{item_of, items_of, diff_of}
use Rattle.to_diff.specs.Answers.{verdict_on, room_for, verdict_in, answer_of, Diffs}
use Rattle.outputs.proofs.GoodItems.{Accepts, accepts, diff_good, diff_original}
use Rattle.std.specs.Prelude.{Result, Ok}
use Rattle.refusal.specs.declared.Refusal.{Refusal}

-- an item's edit
back_of : Item → Edit
back_of (Keep n) = retain n
back_of (Drop n) = delete n
back_of (Add s) = insert s

backs_of : List Item → List Edit
backs_of [] = []
backs_of (i ∷ is) = back_of i ∷ backs_of is

back_item : (e : Edit) → back_of (item_of e) ≡ e
unfolding back_of item_of
back_item (retain n) = refl
back_item (delete n) = refl
back_item (insert s) = refl

back_items : (es : List Edit) → backs_of (items_of es) ≡ es
unfolding backs_of items_of
back_items [] = refl
back_items (e ∷ es) = rw (back_item e, back_items es)

back_lent : (text : List ℕ) (i : LentItem) → edit_of text i ≡ back_of (file_item text i)
unfolding back_of edit_of file_item
back_lent text (I.Retain n) = refl
back_lent text (I.Delete n) = refl
back_lent text (I.Insert s n) = refl
back_lent text I.Neither = refl

back_edits : (text : List ℕ) (is : List LentItem) → edits_of text is ≡ backs_of (file_items text is)
unfolding backs_of edits_of file_items
back_edits text [] = refl
back_edits text (i ∷ is) = rw (back_lent text i, back_edits text is)

-- the records of good items decode to their edits
decoded : (o : List ℕ) (es : List Edit) → Good (items_of es) → edits (diff o (records_of (items_of es)) (texts (items_of es))) ≡ es
unfolding edits file_of
decoded o es g =
    let is : List Item = items_of es in
    back_edits (texts is) (D.items_of (records_of is) (length (texts is))) ∙ (ap backs_of (same_items is g) ∙ back_items es)

-- what the counts of an accepted call say
counts_of : (v w : Verdict) (is : List Item) (n m : ℕ) → Ok (record { items = n; text = m }) ≡ answer_of (and_then v w) is → (v ≡ accepted) ×
    ((and_then v w ≡ accepted) × ((n ≡ length is) × (m ≡ length (texts is))))
counts_of v w is n m h =
    let a : and_then v w ≡ accepted = says_yes (and_then v w) _ _ (sym h) in
    let s = sym (says_what (and_then v w) _ _ (sym h)) in
    (first_passed v w a, (a, (ap (λ (c : Counts). c.items) s, ap (λ (c : Counts). c.text) s)))

-- what an accepted call wrote: so many items and code points at the start of its rooms
pub record Written (lent : Lent) (os : List Operation) (n m : ℕ) (d' : List ℤ) (e' : List ℕ) : Type 0 where
  pub accepted : Accepts lent os
  pub many : n ≡ length (diff_of lent os)
  pub long : m ≡ length (texts (diff_of lent os))
  pub items : take (n * 3) d' ≡ records_of (diff_of lent os)
  pub text : take m e' ≡ texts (diff_of lent os)

-- the answer at the start of a room
pub front : {A : Type 0} (s d d' : List A) (k : ℕ) → k ≡ length s → d' ≡ answered s d → take k d' ≡ s
front s d d' k e f = rw (e, f) (take-append_seam s _)

pub written_of : (lent : Lent) (os : List Operation) {d d' : List ℤ} {e e' : List ℕ} {n m : ℕ} → Diffs lent os d e d' e' (Ok (record { items = n; text = m })) → Written lent os n m d' e'
unfolding verdict_in
written_of lent os {d} {d'} {e} {e'} {n} {m} h =
    let c = counts_of (verdict_on lent os) (room_for (diff_of lent os) (length d) (length e)) (diff_of lent os) n m h.answer in
    record {
      accepted = accepts lent os c.0;
      many = c.1.1.0;
      long = c.1.1.1;
      items = front (records_of (diff_of lent os)) d d' (n * 3) (omega (arith, c.1.1.0, length_records (diff_of lent os))) (rw c.1.0 at h.items);
      text = front (texts (diff_of lent os)) e e' m c.1.1.1 (rw c.1.0 at h.text);
    }

module _ (lent : Lent) (os : List Operation) {n m : ℕ} {d' : List ℤ} {e' : List ℕ} (w : Written lent os n m d' e') where
  -- the covering replay accepts it
  pub replay_accepted : covering (diff lent.original (take (n * 3) d') (take m e')) ≡ accepted
  replay_accepted =
      rw (w.items, w.text)
      (covers_all (diff_of lent os) (diff_good lent os w.accepted) lent.original (sym (diff_original lent os w.accepted)) w.accepted.original)

  -- and gives the list's text
  pub replay_text : text_of (diff lent.original (take (n * 3) d') (take m e')) ≡ list_text lent.original lent.inserted lent.spans lent.keys os
  unfolding text_of diff_of
  replay_text =
      rw (w.items, w.text)
      (ap (replayed lent.original) (decoded lent.original (to_diff lent (ops_from 0 os)) (diff_good lent os w.accepted))
      ∙ (agrees lent otherwise os [] w.accepted.list).replay)

  -- from rooms to rooms: `from_covering_diff` over what was written leaves the list's text in its room
  pub replays_back : {room room' : List ℕ} {r : Result ℕ Refusal} → Replayed covering (diff lent.original (take (n * 3) d') (take m e')) room r room'
      → length (list_text lent.original lent.inserted lent.spans lent.keys os) ≤ length room
      → (r ≡ Ok (length (list_text lent.original lent.inserted lent.spans lent.keys os)))
      × (room' ≡ answered (list_text lent.original lent.inserted lent.spans lent.keys os) room)
  unfolding roomed fits
  replays_back {room} {room'} {r} h l =
      let t = le-ltb (length room) (length (list_text lent.original lent.inserted lent.spans lent.keys os)) l in
      (rw (replay_accepted, replay_text, t) at h.answer, rw (replay_accepted, replay_text, t) at h.leaving)
