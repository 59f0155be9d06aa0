-- Shown: what the merge of two accepted lists gives, over records: an accepted list, within the sizes for text, history and diff, whose retains and deletes tile the original and retain exactly what both lists retain, with every cursor once and within its text.
-- How: the laws of the merge over operations, between reading the records and writing them.
use Prim.Native.Nat.{ℕ, zero, suc, ◌+◌, ◌-◌, ◌≤◌, ◌<◌}
use mathlib.Core.Path.{◌≡◌, refl, ◌∙◌, ap}
use mathlib.Core.List.{List, [], ◌∷◌}
use native.Mathlib.Omega.{arith}
use native.Mathlib.Nat.{add-zero, sub-zero}
use lib.ListN.{length}
use Rattle.records.specs.declared.Operation.{Operation}
use Rattle.records.specs.declared.Cursor.{Cursor}
use Rattle.records.specs.Tokens.{tokens_from}
use Rattle.cursors.specs.Sorted.{sorted}
use Rattle.cursors.proofs.Sinks.{length_sorted}
use Rattle.sizes.specs.Texts.{total, claimed_by, inserted_by, text_length}
use Rattle.sizes.specs.Sizes.{merging, otherwise}
use Rattle.shapes.specs.Accepted.{AllIn, AcceptedList}
use Rattle.merging.specs.declared.Op.{Op}
use Rattle.merging.specs.Lent.{Lent, rules_of, lengths_of, sum}
use Rattle.merging.specs.Operations.{length_of, ops_in, ops_from, records_of}
use Rattle.merging.specs.OrderRule.{priority_of}
use Rattle.merging.specs.Turn.{State}
use Rattle.merging.specs.Merge.{Outcome, start_of, outcome_of, merge_of}
use Rattle.merging.specs.Reached.{Reached}
use Rattle.merging.specs.Tiling.{Tiled, Merges, total_of, of_insert, Inserts, Sided}
use Rattle.merging.specs.Carried.{identities, Woven, woven_none, woven_left, woven_right, Carried}
use Rattle.merging.proofs.Lawful.{lawful}
use Rattle.merging.proofs.Sums.{lengths_split}
use Rattle.merging.proofs.Whole.{merges}
use Rattle.merging.proofs.Count.{operations_most, inserted_most, inserts_part}
use Rattle.merging.proofs.CursorLaws.{carried}
use Rattle.merging.proofs.WorkRoom.{Enough, work_room}
use Rattle.merging_laws.proofs.Decoding.{Run, Listed, length_ops, tiled, runs, tokens_total, inserted_total, length_total}
use Rattle.merging_laws.proofs.Encoding.{length_records, read_back, listed}

-- an insert that lost tokens is lent
all_in_rest : (n : ℕ) (spans keys : List ℕ) (f k z : ℕ) → z ≤ k → AllIn n (tokens_from spans keys f k) → AllIn n (tokens_from spans keys (f + z) (k - z))
unfolding AllIn tokens_from
all_in_rest n spans keys f k zero h a = rw (add-zero f, sub-zero k) a
all_in_rest n spans keys f zero (suc z) h a = absurd (omega arith)
all_in_rest n spans keys f (suc k) (suc z) h a =
    let e : f + 1 + z ≡ f + suc z = omega arith in
    let d : k - z ≡ suc k - suc z = omega arith in
    rw (e, d) at (all_in_rest n spans keys (f + 1) k z (omega arith) a.1.1)

run_rest : (lent : Lent) (f k z : ℕ) → z < k → Run lent f k → Run lent (f + z) (k - z)
run_rest lent f k z h r =
    record {
      some = omega arith;
      lends = omega (arith, r.lends);
      tokens = all_in_rest (length lent.inserted) lent.spans lent.keys f k z (omega arith) r.tokens;
    }

-- how many cursors come out
length_woven : {xs ys zs : List Cursor} → Woven xs ys zs → length zs ≡ length xs + length ys
length_woven woven_none = refl
length_woven (woven_left c w) = omega (arith, length_woven w)
length_woven (woven_right c w) = omega (arith, length_woven w)

length_identities : (cs : List Cursor) → length (identities cs) ≡ length cs
unfolding identities
length_identities [] = refl
length_identities (c ∷ cs) = ap suc (length_identities cs)

carried_length : {cs ds out : List Cursor} {e : ℕ} → Carried cs ds out e → length out ≡ length cs + length ds
carried_length {cs} {ds} c =
    omega (
      arith,
      length_woven c.woven,
      ap length c.same_left,
      ap length c.same_right,
      length_identities c.left,
      length_identities c.right,
      length_identities cs,
      length_identities ds,
    )

-- a list that was accepted for merging
abbrev pub AcceptedFor : Lent → List Operation → List Cursor → Type 0
AcceptedFor lent os cs = AcceptedList merging lent.original lent.inserted lent.spans lent.keys os cs

module _ (lent : Lent) (left right : List Operation) (cs ds : List Cursor) (al : AcceptedFor lent left cs) (ar : AcceptedFor lent right ds) where
  abbrev n : ℕ
  n = length lent.original

  abbrev ls : List Op
  ls = ops_from 0 left

  abbrev rs : List Op
  rs = ops_from 0 right

  abbrev out : Outcome
  out = outcome_of (rules_of lent) ls rs cs ds

  listed_l : Listed lent n left 0
  listed_l = record { shapes = al.shapes; tiles = al.tiles }

  listed_r : Listed lent n right 0
  listed_r = record { shapes = ar.shapes; tiles = ar.tiles }

  tiled_l : Tiled ls 0 n
  tiled_l = tiled lent n left 0 listed_l

  tiled_r : Tiled rs 0 n
  tiled_r = tiled lent n right 0 listed_r

  whole : Merges (ops_in out.outs) ls rs 0 n
  whole = merges (rules_of lent) ls rs cs ds n tiled_l tiled_r

  parts : Inserts (Run lent) (ops_in out.outs) × Sided out.outs
  parts = inserts_part (rules_of lent) (lawful lent) (Run lent) (run_rest lent) ls rs cs ds n tiled_l tiled_r (runs lent n left 0 listed_l) (runs lent n right 0 listed_r)

  listed_m : Listed lent n (records_of lent out.outs) 0
  listed_m = listed lent out.outs n whole.tiled parts.0 parts.1

  same : ops_from 0 (records_of lent out.outs) ≡ ops_in out.outs
  same = read_back lent out.outs 0 n whole.tiled

  many : length (records_of lent out.outs) ≤ length left + length right
  many = omega (arith, length_records lent out.outs, operations_most (rules_of lent) ls rs cs ds n tiled_l tiled_r, length_ops left 0, length_ops right 0)

  tokens : total claimed_by (records_of lent out.outs) ≤ total claimed_by left + total claimed_by right
  tokens =
      omega (
        arith,
        tokens_total lent n (records_of lent out.outs) 0 listed_m,
        ap (total_of (of_insert (λ f k. k))) same,
        inserted_most (rules_of lent) (lawful lent) (λ f k. k) (λ f k z h. omega arith) ls rs cs ds n tiled_l tiled_r,
        tokens_total lent n left 0 listed_l,
        tokens_total lent n right 0 listed_r,
      )

  adds : total (inserted_by (length lent.inserted) lent.spans lent.keys) (records_of lent out.outs)
      ≤ total (inserted_by (length lent.inserted) lent.spans lent.keys) left + total (inserted_by (length lent.inserted) lent.spans lent.keys) right
  adds =
      omega (
        arith,
        inserted_total lent n (records_of lent out.outs) 0 listed_m,
        ap (total_of (of_insert (λ f k. sum (lengths_of lent f k)))) same,
        inserted_most (rules_of lent) (lawful lent) (λ f k. sum (lengths_of lent f k)) (λ f k z h. omega (arith, lengths_split lent z f k h)) ls rs cs ds n tiled_l tiled_r,
        inserted_total lent n left 0 listed_l,
        inserted_total lent n right 0 listed_r,
      )

  textual : text_length (length lent.inserted) lent.spans lent.keys (records_of lent out.outs) ≡ total_of (length_of lent) (ops_in out.outs)
  textual = length_total lent n (records_of lent out.outs) 0 listed_m ∙ ap (total_of (length_of lent)) same

  -- every cursor comes out exactly once with its identity number, within the merged text, and those of one side keep their order
  pub merged_cursors : Carried (sorted cs) (sorted ds) (merge_of (rules_of lent) left right cs ds).cursors
      (text_length (length lent.inserted) lent.spans lent.keys (merge_of (rules_of lent) left right cs ds).operations)
  unfolding merge_of
  merged_cursors = rw textual (carried (rules_of lent) (lawful lent) ls rs cs ds n tiled_l tiled_r)

  -- "operations, as many as both lists have together; cursors, both counts together"
  pub merged_operations_most : length (merge_of (rules_of lent) left right cs ds).operations ≤ length left + length right
  unfolding merge_of
  merged_operations_most = many

  -- the text inserted is bounded by both lists together
  pub merged_text_most : total (inserted_by (length lent.inserted) lent.spans lent.keys) (merge_of (rules_of lent) left right cs ds).operations
      ≤ total (inserted_by (length lent.inserted) lent.spans lent.keys) left + total (inserted_by (length lent.inserted) lent.spans lent.keys) right
  unfolding merge_of
  merged_text_most = adds

  -- "work, twice the insert tokens of both lists": what each state of the merge needs of one half
  pub merged_work_room : {s : State} → Reached (rules_of lent) (priority_of lent ls rs) (start_of ls rs cs ds) s → Enough s (total claimed_by left) (total claimed_by right)
  merged_work_room r =
      rw (tokens_total lent n left 0 listed_l, tokens_total lent n right 0 listed_r) (work_room (rules_of lent) ls rs cs ds r)

  pub merged_cursors_all : length (merge_of (rules_of lent) left right cs ds).cursors ≡ length cs + length ds
  merged_cursors_all = omega (arith, carried_length merged_cursors, length_sorted cs, length_sorted ds)

  -- the merged list is an accepted list, within the sizes "for text, history and diff"
  pub merged_accepted : AcceptedList otherwise lent.original lent.inserted lent.spans lent.keys (merge_of (rules_of lent) left right cs ds).operations
      (merge_of (rules_of lent) left right cs ds).cursors
  unfolding merge_of
  merged_accepted =
      record {
        original_most = al.original_most;
        text_most = al.text_most;
        operations_most = omega (arith, many, al.operations_most, ar.operations_most);
        cursors_most = omega (arith, merged_cursors_all, al.cursors_most, ar.cursors_most);
        tokens_most = omega (arith, tokens, al.tokens_most, ar.tokens_most);
        inserted_most = omega (arith, adds, al.inserted_most, ar.inserted_most);
        shapes = listed_m.shapes;
        tiles = listed_m.tiles;
        within = merged_cursors.within;
      }

  -- demand 3, first half: the merged records' retains and deletes tile the original, and retain a code point exactly if both lists do
  pub merged_merges : Merges (ops_from 0 (merge_of (rules_of lent) left right cs ds).operations) (ops_from 0 left) (ops_from 0 right) 0 (length lent.original)
  unfolding merge_of
  merged_merges = rw same whole
