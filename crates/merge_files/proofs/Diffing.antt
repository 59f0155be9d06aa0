-- Shown: the diff of a merged list always fits the program's rooms and can be written, so the only way to fail is a short room for the file.
-- How: an accepted list's diff is good items, no more than its operations, with no more text than its inserts have.
use Prim.Native.Nat.{ℕ, ◌*◌, ◌≤◌, ◌<◌}
use mathlib.Core.Path.{◌≡◌, sym, ◌∙◌, subst}
use mathlib.Core.List.{List, []}
use mathlib.Core.Logic.{⊎_elim}
use native.Mathlib.Omega.{arith}
use lib.ListN.{length, take}
use lib.IntN.{ℤ}
use borrow.Author.Tests.{le-leb, lt-leb, lt-ltb}
use Rattle.refusal.specs.declared.Refusal.{Refusal}
use Rattle.refusal.specs.declared.Refusal.TheVariants as R
use Rattle.room.specs.Placed.{answered}
use Rattle.room.proofs.Answers.{same_room}
use Rattle.records.specs.declared.Operation.{Operation}
use Rattle.records.specs.Operations.{operations_of}
use Rattle.numbers.proofs.Orders.{le_or_lt}
use Rattle.item_records.specs.declared.Counts.{Counts}
use Rattle.verdict.specs.Verdicts.{accepted}
use Rattle.sizes.specs.declared.Limits.{Limits}
use Rattle.shapes.specs.Accepted.{AcceptedList}
use Rattle.edit_format.specs.Items.{Item, texts}
use Rattle.edit_format.specs.Records.{records_of}
use Rattle.edit_format.specs.Written.{written}
use Rattle.edit_format.proofs.TextLaws.{texts_length}
use Rattle.edit_format.proofs.RecordLaws.{length_records}
use Rattle.writable.specs.Writable.{file_of}
use Rattle.edit_write.specs.Writing.{roomed, Wrote}
use Rattle.diff.specs.Checks.{fits}
use Rattle.merging.specs.Lent.{Lent, lent_of as given}
use Rattle.merging.specs.Operations.{ops_from}
use Rattle.merging.specs.Outputs.{to_diff}
use Rattle.merging.proofs.OutputLaws.{diff_items}
use Rattle.merging_laws.proofs.Decoding.{length_ops}
use Rattle.merging_laws.proofs.Outputs.{diff_fits}
use Rattle.to_diff.specs.Items.{diff_of}
use Rattle.to_diff.specs.Answers.{verdict_in, room_for, Diffs}
use Rattle.to_diff.proofs.Joining.{length_items, added_items}
use Rattle.outputs.proofs.GoodItems.{accepts}
use Rattle.outputs.proofs.Replaying.{written_of}
use Rattle.outputs.proofs.Filing.{file_items, file_writable, files}
use Rattle.merge_files.specs.declared.Outcome.TheVariants as O
use Rattle.merge_files.specs.Program.{merged, bytes_of, kind_of, outcome_of, room_after, Written}
use Rattle.merge_files.specs.Steps.{Diffable}
use Rattle.merge_files.proofs.Checking.{never}
use Rattle.std.specs.Prelude.{Result, Ok, Err}

module _ (original text spans keys ops : List ℕ) (K : Diffable original text spans keys ops) where
  abbrev lent : Lent
  lent = given original text spans keys

  abbrev os : List Operation
  os = operations_of ops

  abbrev is : List Item
  is = diff_of lent os

  few_items : length is ≤ 682
  unfolding diff_of
  few_items =
      omega (arith, length_items (to_diff lent (ops_from 0 os)), diff_items lent (ops_from 0 os), length_ops os 0, K.few)

  -- what the list has at most of text
  abbrev most : Limits
  most = record { operations = 8192; tokens = 16384; text = 2048; cursors = 512 }

  listed : AcceptedList most original text spans keys os []
  listed =
      let a = (accepts lent os K.accepted).list in
      record {
        original_most = a.original_most;
        text_most = a.text_most;
        operations_most = a.operations_most;
        cursors_most = a.cursors_most;
        tokens_most = a.tokens_most;
        inserted_most = K.little;
        shapes = a.shapes;
        tiles = a.tiles;
        within = a.within;
      }

  few_points : length (texts is) ≤ 2048
  unfolding diff_of
  few_points = omega (arith, texts_length is, added_items (to_diff lent (ops_from 0 os)), (diff_fits lent most os [] listed).text)

  module _ (d : List ℤ) (e : List ℕ) (nd : length d ≡ 2046) (ne : length e ≡ 2048) where
    in_rooms : verdict_in lent os d e ≡ accepted
    unfolding verdict_in room_for
    in_rooms =
        rw (
          K.accepted,
          le-leb (3 * length is) (length d) (omega (arith, few_items)),
          le-leb (length (texts is)) (length e) (omega (arith, few_points)),
        )

    pub not_refused : {A : Type 0} {d' : List ℤ} {e' : List ℕ} {r : Refusal} {x : Result Counts Refusal} → Diffs lent os d e d' e' x → x ≡ Err r → A
    not_refused {A} {d'} {e'} {r} h t =
        let q : ◌≡◌ {A = Result Counts Refusal} (Err r) (Ok (record { items = length is; text = length (texts is) })) = sym t ∙ rw in_rooms at h.answer in
        let z : ◌≡◌ {A = ℕ} 0 1 = cc in
        absurd (omega arith)

    module _ {d' : List ℤ} {e' : List ℕ} {n : Counts} {x : Result Counts Refusal} (h₀ : Diffs lent os d e d' e' x) (t : x ≡ Ok n) where
      h : Diffs lent os d e d' e' (Ok n)
      h = subst (λ (y : Result Counts Refusal). Diffs lent os d e d' e' y) t h₀

      pub items_small : n.items ≤ 682
      items_small = omega (arith, (written_of lent os h).many, few_items)

      pub items_in : n.items * 3 ≤ length d'
      items_in =
          let q : d' ≡ answered (records_of is) d = rw in_rooms at h.items in
          let l : length d' ≡ length d = rw q (same_room (records_of is) d (omega (arith, length_records is, few_items))) in
          omega (arith, items_small)

      pub text_in : n.text ≤ length e'
      text_in =
          let q : e' ≡ answered (texts is) e = rw in_rooms at h.text in
          let l : length e' ≡ length e = rw q (same_room (texts is) e (omega (arith, few_points))) in
          omega (arith, (written_of lent os h).long, few_points)

      -- the file as it was written, or its room too short
      module _ (out out' : List ℕ) where
        short : {r : (Result ℕ Refusal)} → length out < length (written is) → Wrote (file_of (take (n.items * 3) d') (take n.text e')) (take n.text e') out out' r
            → (r ≡ Err R.Room) × (out' ≡ out)
        unfolding roomed fits
        short l w =
            let t = lt-ltb (length out) (length (written is)) l in
            let v = written_of lent os h in
            let u = rw (file_items lent os v) at (file_writable lent os v) in
            (rw (file_items lent os v, u, t) at w.answer, rw (file_items lent os v, u, t) at w.room)

        pub writes : {y : (Result ℕ Refusal)} (k : ℕ) → Wrote (file_of (take (n.items * 3) d') (take n.text e')) (take n.text e') out out' y → y ≡ Ok k
            → Written (merged (written is)) out out' (O.Merged k)
        unfolding bytes_of kind_of outcome_of room_after
        writes {y} k w u =
            ⊎_elim
            (λ (l : length (written is) ≤ length out).
            let f = files lent os (written_of lent os h) w l in
            let t = le-leb (length (written is)) (length out) l in
            let p : Ok k ≡ Ok (length (written is)) = sym u ∙ f.0 in
            let q : k ≡ length (written is) = cc in
            record { answer = rw (t, q); room = rw t f.1 })
            (λ (l : length out < length (written is)). never (sym u ∙ (short l w).0)) (le_or_lt (length (written is)) (length out))

        pub no_room : {y : (Result ℕ Refusal)} (r : Refusal) → Wrote (file_of (take (n.items * 3) d') (take n.text e')) (take n.text e') out out' y → y ≡ Err r
            → Written (merged (written is)) out out' O.Room
        unfolding bytes_of outcome_of room_after
        no_room {y} r w u =
            ⊎_elim
            (λ (l : length (written is) ≤ length out). never (sym (files lent os (written_of lent os h) w l).0 ∙ u))
            (λ (l : length out < length (written is)).
            let t = lt-leb (length (written is)) (length out) l in
            record { answer = rw t; room = rw t (short l w).1 })
            (le_or_lt (length (written is)) (length out))
