-- Shown: demand 3, first half. The merge's retains and deletes tile the original in order, and a code point is retained exactly if both lists retain it. For any overlap and any spelling.
-- How: by induction over the turns; what a turn emits goes in front of what the turns after it emit.
use Prim.Native.Nat.{ℕ, ◌+◌, ◌≤◌, ◌<◌}
use mathlib.Core.Path.{◌≡◌, refl, sym, ◌∙◌, ap}
use mathlib.Core.Bool.{Bool, true, false, ◌&&◌}
use mathlib.Core.Logic.{◌⊎◌, ⊎_elim}
use mathlib.Core.List.{List, [], ◌∷◌, ◌++◌}
use native.Mathlib.Omega.{arith}
use native.Mathlib.Decide.{dec_lt}
use native.Mathlib.Nat.{add-zero}
use lib.Dec.{eqb}
use borrow.Author.Tests.{lt-ltb, le-ltb, eq-eqb, ne_eqb, eqb-false}
use Rattle.records.specs.declared.Cursor.{Cursor}
use Rattle.merging.specs.declared.Op.{Op}
use Rattle.merging.specs.declared.Op.TheVariants.{Delete, Insert, Retain}
use Rattle.std.specs.declared.cmp.Ordering.{Ordering}
use Rattle.merging.specs.Lent.{Rules}
use Rattle.merging.specs.Operations.{Out, ops_in, empty_op, span_of}
use Rattle.merging.specs.OrderRule.{priority_of}
use Rattle.merging.specs.Meeting.{front_of, tail_of, met_of}
use Rattle.merging.specs.Turn.{State, anchored, emitted, turn_with, turn_left}
use Rattle.merging.specs.Merge.{Outcome, before, run, work, start_of, outcome_of}
use Rattle.merging.specs.Tiling.{Tiled, kept_at, Merges}
use Rattle.merging.proofs.OneTurn.{Emits, Both, place_after}
use Rattle.merging.proofs.Turns.{Stands, Turning, turn_step, stands_start, shows}

and_swap : (a b : Bool) → (a && b) ≡ (b && a)
and_swap true true = refl
and_swap true false = refl
and_swap false true = refl
and_swap false false = refl

merges_swap : {os ls rs : List Op} {m n : ℕ} → Merges os ls rs m n → Merges os rs ls m n
merges_swap {ls = ls} {rs = rs} w = record { tiled = w.tiled; kept = λ x h. w.kept x h ∙ and_swap (kept_at ls x) (kept_at rs x) }

-- the same from where less of the first list is left
merges_same : {os ls ls' rs : List Op} {m n : ℕ} → ((x : ℕ) → m ≤ x → kept_at ls x ≡ kept_at ls' x) → Merges os ls rs m n → Merges os ls' rs m n
merges_same {rs = rs} s w = record { tiled = w.tiled; kept = λ x h. w.kept x h ∙ ap (λ (t : Bool). t && kept_at rs x) (s x h) }

module _ (o l : ℕ) (os : List Op) (x : ℕ) where
  kept_r : x < o + l → kept_at (Retain o l ∷ os) x ≡ true
  kept_r h = rw (lt-ltb x (o + l) h, kept_at)

  past_r : o + l ≤ x → kept_at (Retain o l ∷ os) x ≡ kept_at os x
  past_r h = rw (le-ltb x (o + l) h, kept_at)

  kept_d : x < o + l → kept_at (Delete o l ∷ os) x ≡ false
  kept_d h = rw (lt-ltb x (o + l) h, kept_at)

  past_d : o + l ≤ x → kept_at (Delete o l ∷ os) x ≡ kept_at os x
  past_d h = rw (le-ltb x (o + l) h, kept_at)

-- what is emitted
pub emit_none : (side at : ℕ) (m : Op) → empty_op m ≡ true → emitted side at m ≡ []
unfolding emitted
emit_none side at m h = rw (h, emitted)

pub emit_one : (side at : ℕ) (m : Op) → empty_op m ≡ false → emitted side at m ≡ record { side = side; op = anchored at m } ∷ []
unfolding emitted
emit_one side at m h = rw (h, emitted)

-- a result goes in front of what the rest of the run emits
module _ (side : ℕ) (ls ls' rs : List Op) (at q n : ℕ) (os : List Out) where
  -- a retain, which is `kept`, or a delete, which is not
  part_merges : (m : Op) (o l : ℕ) (kept : Bool) → empty_op m ≡ eqb l 0 → anchored q m ≡ m
      → ((o ≡ q) × (0 < l) × Tiled (ops_in os) (o + l) n → Tiled (m ∷ ops_in os) q n)
      → ((x : ℕ) → x < o + l → kept_at (m ∷ ops_in os) x ≡ kept)
      → ((x : ℕ) → o + l ≤ x → kept_at (m ∷ ops_in os) x ≡ kept_at (ops_in os) x)
      → ((l ≡ 0) × (at ≤ q)) ⊎ ((0 < l) × (o ≡ q) × (o + l ≡ at))
      → ((x : ℕ) → q ≤ x → x < at → (kept_at ls x && kept_at rs x) ≡ kept)
      → ((x : ℕ) → at ≤ x → kept_at ls' x ≡ kept_at ls x)
      → Merges (ops_in os) ls' rs (q + l) n
      → Merges (ops_in (emitted side q m ++ os)) ls rs q n
  unfolding ops_in
  part_merges m o l kept em an td here past e b sm w =
      ⊎_elim
      (λ (h : (l ≡ 0) × (at ≤ q)).
      let z : q + l ≡ q = omega arith in
      rw (emit_none side q m (em ∙ eq-eqb l 0 h.0)) (merges_same (λ x k. sm x (omega arith)) (rw z at w)))
      (λ (h : (0 < l) × (o ≡ q) × (o + l ≡ at)).
      let z : q + l ≡ o + l = omega arith in
      rw (emit_one side q m (em ∙ ne_eqb l 0 (λ z. omega arith)), an)
      (record {
        tiled = td (h.1, h.0, rw z at w.tiled);
        kept =
            λ x k.
            elim (dec_lt x at) [
              | yes d ↦ here x (omega arith) ∙ sym (b x k d)
              | no d ↦ past x (omega arith) ∙ (w.kept x (omega arith) ∙ ap (λ (t : Bool). t && kept_at rs x) (sm x (omega arith)))
            ];
      }))
      e

  emit_merges : (m : Op) → Emits m at q
      → ((x : ℕ) → q ≤ x → x < at → Both m (kept_at ls x && kept_at rs x))
      → ((x : ℕ) → at ≤ x → kept_at ls' x ≡ kept_at ls x)
      → Merges (ops_in os) ls' rs (q + span_of m) n
      → Merges (ops_in (emitted side q m ++ os)) ls rs q n
  unfolding ops_in
  emit_merges (Retain o l) e b sm w =
      part_merges (Retain o l) o l true refl refl (λ t. t) (λ x h. kept_r o l (ops_in os) x h) (λ x h. past_r o l (ops_in os) x h) e b sm w
  emit_merges (Delete o l) e b sm w =
      part_merges (Delete o l) o l false refl refl (λ t. t) (λ x h. kept_d o l (ops_in os) x h) (λ x h. past_d o l (ops_in os) x h) e b sm w
  emit_merges (Insert o f k) e b sm w = go (empty_op (Insert o f k)) refl
    where
      w' : Merges (ops_in os) ls rs q n
      w' = merges_same (λ x k. sm x (omega arith)) (rw (add-zero q) at w)

      go : (t : Bool) → empty_op (Insert o f k) ≡ t → Merges (ops_in (emitted side q (Insert o f k) ++ os)) ls rs q n
      go true h = rw (emit_none side q (Insert o f k) h) w'
      go false h = rw (emit_one side q (Insert o f k) h) (record { tiled = (refl, some, w'.tiled); kept = w'.kept })
        where
          some : 0 < k
          some = omega (arith, eqb-false k 0 h)

module _ (R : Rules) (priority : Ordering) (n : ℕ) where
  abbrev Whole : State → ℕ → ℕ → Outcome → Type 0
  Whole s p q o = Merges (ops_in o.outs) s.left.next s.right.next s.consumed n

  whole_turn : (side : ℕ) → side < 2 → (s : State) (a : Op) (ls : List Op) (p q : ℕ) (o : Outcome) → Turning s a ls p q n
      → Whole (turn_left R side a ls s).state (place_after a s.right.next) q o → Whole s p q (before (turn_left R side a ls s) o)
  unfolding turn_left turn_with
  whole_turn side two s a ls p q o g w =
      let st = turn_step R s a ls p q n g in
      rw (g.next, g.at)
      (emit_merges side (a ∷ ls) (tail_of a s.right.next ls) s.right.next (place_after a s.right.next) q n o.outs
      (met_of R (front_of a s.right.next) s.right.last) st.out st.both st.same (rw g.at at w))

  whole : (f : ℕ) (s : State) (p q : ℕ) → Stands s p q n → work s.left.next + work s.right.next ≤ f → Whole s p q (run R priority f s)
  unfolding ops_in
  whole =
      shows R priority n Whole (λ s p q o w. merges_swap w)
      (λ s p q d. rw (d.left, d.right, d.at) (record { tiled = refl; kept = λ x k. refl }))
      whole_turn

-- demand 3, first half: the merge of two lists that tile the original
pub merges : (R : Rules) (ls rs : List Op) (cs ds : List Cursor) (n : ℕ) → Tiled ls 0 n → Tiled rs 0 n → Merges (ops_in (outcome_of R ls rs cs ds).outs) ls rs 0 n
unfolding outcome_of
merges R ls rs cs ds n tl tr =
    whole R (priority_of R.lent ls rs) n (work ls + work rs) (start_of ls rs cs ds) 0 0 (stands_start ls rs cs ds n tl tr) (omega arith)
