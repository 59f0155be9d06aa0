-- Shown: demand 3, second half, over records: of any accepted list, merged or not, history, diff and text agree.
-- How: the laws over operations, for the operations that the list's records are.
use Prim.Native.Nat.{ℕ, ◌+◌, ◌≤◌}
use mathlib.Core.Path.{◌≡◌, refl, sym, ◌∙◌, ap}
use mathlib.Core.List.{List, [], ◌∷◌}
use native.Mathlib.Omega.{arith}
use lib.ListN.{length}
use Rattle.records.specs.declared.Operation.{Operation}
use Rattle.records.specs.declared.Cursor.{Cursor}
use Rattle.records.specs.Tokens.{tokens_from}
use Rattle.diff.specs.Replay.{replayed, left, added}
use Rattle.diff.specs.Checks.{numbers, covers}
use Rattle.sizes.specs.declared.Limits.{Limits}
use Rattle.sizes.specs.Texts.{list_text}
use Rattle.shapes.proofs.Accepted.{spelled_length}
use Rattle.shapes.specs.Accepted.{AcceptedList}
use Rattle.merging.specs.declared.Op.{Op}
use Rattle.merging.specs.declared.Op.TheVariants.{Delete, Insert, Retain}
use Rattle.merging.specs.Lent.{Lent, lengths_of, sum, spelling_of}
use Rattle.merging.specs.Operations.{op_of, span_of, ops_in, ops_from, outs_from}
use Rattle.merging.specs.Outputs.{text_of, history_of, of_text, of_original, spelled_by, to_diff}
use Rattle.merging.specs.Tiling.{Tiled, total_of, of_insert, Inserts}
use Rattle.merging.proofs.OutputLaws.{history_text_lem, history_original, Replays, replays, diff_items, diff_added}
use Rattle.merging_laws.proofs.Decoding.{Run, Listed, tiled, runs, length_ops, lengths_total, inserted_total, text_of_lem}
use Rattle.std.specs.Prelude.{Ok}
use Rattle.verdict.specs.Verdicts.{accepted}

-- a list's operations, with their sides or without
pub ops_outs : (os : List Operation) (at : ℕ) → ops_in (outs_from at os) ≡ ops_from at os
unfolding ops_in outs_from ops_from
ops_outs [] at = refl
ops_outs (o ∷ os) at = ap (λ (xs : List Op). op_of at o ∷ xs) (ops_outs os (at + span_of (op_of at o)))

-- "Text, history and replay agree over the defined text": unchanged and added spans spell the text, unchanged and removed ones the
-- original; the diff replayed over the original, plain and covering, spells that same text and leaves nothing
pub record Agrees (lent : Lent) (os : List Operation) : Type 0 where
  pub unchanged_added : spelled_by of_text (history_of lent (outs_from 0 os)) ≡ list_text lent.original lent.inserted lent.spans lent.keys os
  pub unchanged_removed : spelled_by of_original (history_of lent (outs_from 0 os)) ≡ lent.original
  pub replay : replayed lent.original (to_diff lent (ops_from 0 os)) ≡ list_text lent.original lent.inserted lent.spans lent.keys os
  pub asks : numbers 0 (length lent.original) (to_diff lent (ops_from 0 os)) ≡ accepted
  pub covers_all : covers (length lent.original) (to_diff lent (ops_from 0 os)) ≡ accepted
  pub nothing_left : left (length lent.original) (to_diff lent (ops_from 0 os)) ≡ 0

pub agrees : (lent : Lent) (l : Limits) (os : List Operation) (cs : List Cursor)
    → AcceptedList l lent.original lent.inserted lent.spans lent.keys os cs → Agrees lent os
agrees lent l os cs a =
    let n : ℕ = length lent.original in
    let h : Listed lent n os 0 = record { shapes = a.shapes; tiles = a.tiles } in
    let t : Tiled (ops_from 0 os) 0 n = tiled lent n os 0 h in
    let text : list_text lent.original lent.inserted lent.spans lent.keys os ≡ text_of lent (ops_from 0 os) = text_of_lem lent n os 0 h in
    let r : Replays lent (ops_from 0 os) = replays lent (ops_from 0 os) t in
    record {
      unchanged_added = history_text_lem lent (outs_from 0 os) ∙ (ap (text_of lent) (ops_outs os 0) ∙ sym text);
      unchanged_removed = history_original lent (outs_from 0 os) 0 n refl (rw (ops_outs os 0) t);
      replay = r.text ∙ sym text;
      asks = r.asks;
      covers_all = r.covers_all;
      nothing_left = r.nothing_left;
    }

-- an insert's tokens spell as much as they are long
run_length : (lent : Lent) (f k : ℕ) → Run lent f k → length (spelling_of lent f k) ≡ sum (lengths_of lent f k)
run_length lent f k r = spelled_length lent.inserted (tokens_from lent.spans lent.keys f k) r.tokens ∙ lengths_total lent f k

runs_length : (lent : Lent) (ls : List Op) → Inserts (Run lent) ls
    → total_of (of_insert (λ f k. length (spelling_of lent f k))) ls ≡ total_of (of_insert (λ f k. sum (lengths_of lent f k))) ls
unfolding Inserts total_of
runs_length lent [] i = refl
runs_length lent (Delete o l ∷ ls) i = omega (arith, runs_length lent ls i)
runs_length lent (Insert o f k ∷ ls) i = omega (arith, run_length lent f k i.0, runs_length lent ls i.1)
runs_length lent (Retain o l ∷ ls) i = omega (arith, runs_length lent ls i)

-- "diff items 8,192 with 131,070 code points of text": the diff of a list that was accepted passes neither
pub record DiffFits (lent : Lent) (os : List Operation) (l : Limits) : Type 0 where
  pub items : length (to_diff lent (ops_from 0 os)) ≤ l.operations
  pub text : added (to_diff lent (ops_from 0 os)) ≤ l.text

pub diff_fits : (lent : Lent) (l : Limits) (os : List Operation) (cs : List Cursor)
    → AcceptedList l lent.original lent.inserted lent.spans lent.keys os cs → DiffFits lent os l
diff_fits lent l os cs a =
    let n : ℕ = length lent.original in
    let h : Listed lent n os 0 = record { shapes = a.shapes; tiles = a.tiles } in
    record {
      items = omega (arith, diff_items lent (ops_from 0 os), length_ops os 0, a.operations_most);
      text = omega (arith, diff_added lent (ops_from 0 os), runs_length lent (ops_from 0 os) (runs lent n os 0 h), inserted_total lent n os 0 h, a.inserted_most);
    }
