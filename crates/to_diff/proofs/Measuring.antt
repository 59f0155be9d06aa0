-- Shown: counting a list's diff from the front: what the loop keeps, its beginning, the ways through a turn, and its end.
-- How: what is counted and what is left make the whole.
use Prim.Native.Nat.{ℕ, ◌+◌, ◌-◌, ◌/◌, ◌≤◌, ◌<◌, min}
use mathlib.Core.Path.{◌≡◌, refl, sym, ◌∙◌, ap}
use mathlib.Core.Bool.{Bool, true, false}
use mathlib.Core.List.{List, [], ◌∷◌}
use native.Mathlib.Omega.{arith}
use native.Mathlib.Nat.{sub-zero}
use lib.ListN.{length}
use Rattle.merging.specs.Lent.{lent_of}
use Rattle.diff.specs.Replay.{Edit}
use Rattle.records.specs.declared.Operation.{Operation}
use Rattle.records.specs.declared.Token.{Token}
use Rattle.records.specs.Operations.{operation_at, operations_from, operations_of}
use Rattle.records.specs.Tokens.{tokens_from, spelling}
use Rattle.records.proofs.OperationLaws.{from_more, from_none}
use Rattle.sizes.specs.Texts.{run_text}
use Rattle.shapes.proofs.Accepted.{run_length, spelled_length}
use Rattle.edit_format.specs.Items.{added}
use Rattle.merging.specs.declared.Op.{Op}
use Rattle.merging.specs.Operations.{ops_from}
use Rattle.merging.specs.Outputs.{to_diff}
use Rattle.merging.specs.Tiling.{total_of, of_insert, Inserts}
use Rattle.merging.proofs.OutputLaws.{diff_added}
use Rattle.merging.proofs.Decoded.{first_insert, first_delete, first_retain}
use Rattle.to_diff.specs.Items.{diff_of}
use Rattle.to_diff.specs.Writes.{Spells, items, Ready, Measures}
use Rattle.to_diff.proofs.Joining.{length_items, added_items, behind, behind_first, behind_joined, behind_delete, behind_insert}

-- the operation at a place, and those behind it
pub at_place : (ops : List ℕ) (i n : ℕ) (o : Operation) → i < n → o ≡ operation_at ops i
    → operations_from ops i (n - i) ≡ o ∷ operations_from ops (i + 1) (n - (i + 1))
at_place ops i n o h e = from_more ops i n h ∙ ap (λ (x : Operation). x ∷ operations_from ops (i + 1) (n - (i + 1))) (sym e)

-- the code points of a list's inserts
abbrev spelt : List ℕ → List ℕ → List ℕ → List Op → ℕ
spelt text spans keys ls = total_of (of_insert (λ f k. length (spelling text spans keys f k))) ls

-- rs is still to be counted of os; j: the last one counted is a retain
pub record Measuring (text spans keys : List ℕ) (os rs : List Operation) (found size : ℕ) (j : Bool) : Type 0 where
  pub at : ℕ
  pub many : found + length (behind j (to_diff (lent_of [] text spans keys) (ops_from at rs))) ≡ length (items text spans keys os)
  pub adds : size + spelt text spans keys (ops_from at rs) ≡ added (items text spans keys os)
  pub spells : Inserts (Spells text spans keys) (ops_from at rs)

module _ (text spans keys : List ℕ) (os : List Operation) where
  abbrev edits : ℕ → List Operation → List Edit
  edits at rs = to_diff (lent_of [] text spans keys) (ops_from at rs)

  pub measure_begins : Ready text spans keys os → Measuring text spans keys os os 0 0 false
  unfolding diff_of behind
  measure_begins h =
      record {
        at = 0;
        many = omega (arith, length_items (edits 0 os));
        adds = omega (arith, added_items (edits 0 os), diff_added (lent_of [] text spans keys) (ops_from 0 os));
        spells = h.spells;
      }

  none_behind : (j : Bool) (at : ℕ) → length (behind j (edits at [])) ≡ 0
  unfolding behind to_diff ops_from
  none_behind true at = refl
  none_behind false at = refl

  none_spelt : (at : ℕ) → spelt text spans keys (ops_from at []) ≡ 0
  unfolding total_of ops_from
  none_spelt at = refl

  pub measure_ends : (found size : ℕ) (j : Bool) → Measuring text spans keys os [] found size j
      → Measures (items text spans keys os) (record { items = found; text = size })
  measure_ends found size j h =
      record { items = omega (arith, h.many, none_behind j h.at); text = omega (arith, h.adds, none_spelt h.at) }

  module _ (o : Operation) (rs : List Operation) (found size : ℕ) (j : Bool) (h : Measuring text spans keys os (o ∷ rs) found size j) where
    pub measure_delete : o.kind ≡ 0 → Measuring text spans keys os rs (found + 1) size false
    unfolding to_diff total_of behind Inserts
    measure_delete k =
        let e = first_delete h.at o rs k in
        let a = rw (e, behind_delete j o.length (edits (h.at + o.length) rs)) at h.many in
        let b = rw e at h.adds in
        record { at = h.at + o.length; many = omega arith; adds = omega arith; spells = rw e at h.spells }

    pub measure_retain : (o.kind ≡ 1 → ⊥) → (o.kind ≡ 0 → ⊥) → j ≡ false → Measuring text spans keys os rs (found + 1) size true
    unfolding to_diff total_of behind Inserts
    measure_retain k l i =
        let e = first_retain h.at o rs k l in
        let a = rw (e, i) at h.many in
        let b = rw e at h.adds in
        record {
          at = h.at + o.length;
          many = omega (arith, behind_first o.length (edits (h.at + o.length) rs));
          adds = omega arith;
          spells = rw e at h.spells;
        }

    pub measure_joined : (o.kind ≡ 1 → ⊥) → (o.kind ≡ 0 → ⊥) → j ≡ true → Measuring text spans keys os rs found size j
    unfolding to_diff total_of Inserts
    measure_joined k l i =
        let e = first_retain h.at o rs k l in
        let a = rw (e, i, behind_joined o.length (edits (h.at + o.length) rs)) at h.many in
        let b = rw e at h.adds in
        record { at = h.at + o.length; many = rw i a; adds = omega arith; spells = rw e at h.spells }

    -- an insert's tokens
    pub insert_spells : o.kind ≡ 1 → Spells text spans keys o.first o.count
    unfolding Inserts
    insert_spells k = (rw (first_insert h.at o rs k) at h.spells).0

    pub insert_adds : o.kind ≡ 1 → size + length (spelling text spans keys o.first o.count) ≤ added (items text spans keys os)
    unfolding total_of
    insert_adds k = let b = rw (first_insert h.at o rs k) at h.adds in omega arith

    pub insert_text : o.kind ≡ 1 → Ready text spans keys os → (r : ℕ)
        → r ≡ min 1000000 (run_text (length text) (tokens_from spans keys o.first o.count))
        → r ≡ length (spelling text spans keys o.first o.count)
    insert_text k y r e =
        let s = insert_spells k in
        let ts : List Token = tokens_from spans keys o.first o.count in
        omega (arith, run_length (length text) ts s.tokens, spelled_length text ts s.tokens, insert_adds k, y.adds)

    pub measure_insert : o.kind ≡ 1 → (r : ℕ) → r ≡ length (spelling text spans keys o.first o.count) → Measuring text spans keys os rs
        (found + 1) (size + r) false
    unfolding to_diff total_of behind Inserts
    measure_insert k r f =
        let e = first_insert h.at o rs k in
        let a = rw (e, behind_insert j (spelling text spans keys o.first o.count) (edits (h.at + 0) rs)) at h.many in
        let b = rw e at h.adds in
        record { at = h.at + 0; many = omega arith; adds = omega arith; spells = (rw e at h.spells).1 }

-- the loop, i of the operations being counted
pub record Counting (text spans keys ops : List ℕ) (i found size : ℕ) (j : Bool) : Type 0 where
  pub left : Measuring text spans keys (operations_of ops) (operations_from ops i (length ops / 6 - i)) found size j

module _ {text spans keys ops : List ℕ} where
  pub count_begins : Ready text spans keys (operations_of ops) → Counting text spans keys ops 0 0 0 false
  unfolding operations_of
  count_begins h = record { left = rw sub-zero (measure_begins text spans keys (operations_of ops) h) }

  module _ {i found size : ℕ} {j : Bool} (h : Counting text spans keys ops i found size j) where
    pub count_ends : length ops / 6 ≤ i → Measures (items text spans keys (operations_of ops)) (record { items = found; text = size })
    count_ends l = measure_ends text spans keys (operations_of ops) found size j (rw (from_none ops i (length ops / 6) l) at h.left)

    pub count_few : Ready text spans keys (operations_of ops) → found ≤ 8192
    count_few y = omega (arith, h.left.many, y.many)

    module _ (o : Operation) (l : i < length ops / 6) (e : o ≡ operation_at ops i) where
      abbrev rest : List Operation
      rest = operations_from ops (i + 1) (length ops / 6 - (i + 1))

      next : Measuring text spans keys (operations_of ops) (o ∷ rest) found size j
      next = rw (at_place ops i (length ops / 6) o l e) at h.left

      pub count_delete : o.kind ≡ 0 → Counting text spans keys ops (i + 1) (found + 1) size false
      count_delete k = record { left = measure_delete text spans keys (operations_of ops) o rest found size j next k }

      pub count_retain : (o.kind ≡ 1 → ⊥) → (o.kind ≡ 0 → ⊥) → j ≡ false → Counting text spans keys ops (i + 1) (found + 1) size true
      count_retain k m f =
          record { left = measure_retain text spans keys (operations_of ops) o rest found size j next k m f }

      pub count_joined : (o.kind ≡ 1 → ⊥) → (o.kind ≡ 0 → ⊥) → j ≡ true → Counting text spans keys ops (i + 1) found size j
      count_joined k m f =
          record { left = measure_joined text spans keys (operations_of ops) o rest found size j next k m f }

      pub count_spells : o.kind ≡ 1 → Spells text spans keys o.first o.count
      count_spells k = insert_spells text spans keys (operations_of ops) o rest found size j next k

      module _ (k : o.kind ≡ 1) (y : Ready text spans keys (operations_of ops)) (r : ℕ)
          (f : r ≡ min 1000000 (run_text (length text) (tokens_from spans keys o.first o.count)))
        where
          long : r ≡ length (spelling text spans keys o.first o.count)
          long = insert_text text spans keys (operations_of ops) o rest found size j next k y r f

          pub count_adds : size + r ≤ 131070
          count_adds = omega (arith, long, insert_adds text spans keys (operations_of ops) o rest found size j next k, y.adds)

          pub count_insert : Counting text spans keys ops (i + 1) (found + 1) (size + r) false
          count_insert =
              record { left = measure_insert text spans keys (operations_of ops) o rest found size j next k r long }
