-- Shown: the merge has no more operations than both lists together; what its inserts hold, counted in tokens, in text or otherwise, is no more than both lists hold; each insert has what both lists' inserts have; each side is left or right.
-- How: by induction over the turns. A turn emits an operation for one that it takes, except that a retain may be cut at the end of one that will be lost; an insert only loses tokens.
use Prim.Native.Nat.{ℕ, ◌+◌, ◌-◌, ◌≤◌, ◌<◌}
use mathlib.Core.Path.{◌≡◌, refl}
use mathlib.Core.Bool.{Bool, true, false}
use mathlib.Core.List.{List, [], ◌∷◌, ◌++◌}
use native.Mathlib.Omega.{arith}
use native.Mathlib.Decide.{dec_lt}
use lib.ListN.{length}
use borrow.Author.Tests.{lt-leb, lt-ltb, le-ltb, eqb-false}
use Rattle.records.specs.declared.Cursor.{Cursor}
use Rattle.merging.specs.declared.Op.{Op}
use Rattle.merging.specs.declared.Op.TheVariants.{Delete, Insert, Retain}
use Rattle.std.specs.declared.cmp.Ordering.{Ordering}
use Rattle.merging.specs.Lent.{Rules, Lawful, keys_of}
use Rattle.merging.specs.Operations.{Out, ops_in, empty_op}
use Rattle.merging.specs.OrderRule.{priority_of}
use Rattle.merging.specs.Meeting.{front_of, tail_of, behind_cut, kept_length, met_of, lost_of, Remembered, nothing, deleted, retained, inserted}
use Rattle.merging.specs.Turn.{State, anchored, emitted, turn_with, turn_left}
use Rattle.merging.specs.Merge.{Outcome, before, run, work, start_of, outcome_of}
use Rattle.merging.specs.Tiling.{Tiled, total_of, of_insert, Inserts, Sided}
use Rattle.merging.proofs.Sums.{keys_short}
use Rattle.merging.proofs.OneTurn.{place_after, late, emits}
use Rattle.merging.proofs.Turns.{Stands, Turning, turn_step, stands_start, shows}
use Rattle.merging.proofs.Whole.{emit_none, emit_one}

-- by whether something is emitted
module _ (side at : ℕ) (m : Op) (P : List Out → Type 0) where
  pub by_emitted : (empty_op m ≡ true → P []) → (empty_op m ≡ false → P (record { side = side; op = anchored at m } ∷ [])) → P (emitted side at m)
  by_emitted f g = go (empty_op m) refl
    where
      go : (t : Bool) → empty_op m ≡ t → P (emitted side at m)
      go true h = rw (emit_none side at m h) (f h)
      go false h = rw (emit_one side at m h) (g h)

-- the number of operations

length_emitted : (side at : ℕ) (m : Op) (os : List Out) → length (emitted side at m ++ os) ≡ emits m + length os
length_emitted side at m os =
    by_emitted side at m (λ es. length (es ++ os) ≡ emits m + length os) (λ h. rw (h, emits) (omega arith)) (λ h. rw (h, emits) (omega arith))

-- a side that is not behind loses nothing
late_none : (rs : List Op) (p q n : ℕ) → Tiled rs q n → p ≤ q → late rs p ≡ 0
late_none [] p q n t h = refl
late_none (Insert o f k ∷ rs) p q n t h = refl
late_none (Retain o l ∷ rs) p q n t h = rw (lt-leb (o + l) p (omega (arith, t.0, t.1)), late)
late_none (Delete o l ∷ rs) p q n t h = rw (lt-leb (o + l) p (omega (arith, t.0, t.1)), late)

module _ (R : Rules) (priority : Ordering) (n : ℕ) where
  abbrev Counted : State → ℕ → ℕ → Outcome → Type 0
  Counted s p q o = length o.outs + late s.left.next q + late s.right.next p ≤ length s.left.next + length s.right.next

  count_turn : (side : ℕ) → side < 2 → (s : State) (a : Op) (ls : List Op) (p q : ℕ) (o : Outcome) → Turning s a ls p q n
      → Counted (turn_left R side a ls s).state (place_after a s.right.next) q o → Counted s p q (before (turn_left R side a ls s) o)
  unfolding turn_left turn_with
  count_turn side two s a ls p q o g w =
      let st = turn_step R s a ls p q n g in
      rw g.next
      (omega (
        arith,
        length_emitted side s.consumed (met_of R (front_of a s.right.next) s.right.last) o.outs,
        late_none s.right.next p q n g.good.tiled_r g.le,
        st.count,
      ))

  counted : (f : ℕ) (s : State) (p q : ℕ) → Stands s p q n → work s.left.next + work s.right.next ≤ f → Counted s p q (run R priority f s)
  counted = shows R priority n Counted (λ s p q o w. omega arith) (λ s p q d. rw (d.left, d.right) (omega arith)) count_turn

-- "operations, as many as both lists have together"
pub operations_most : (R : Rules) (ls rs : List Op) (cs ds : List Cursor) (n : ℕ) → Tiled ls 0 n → Tiled rs 0 n
    → length (outcome_of R ls rs cs ds).outs ≤ length ls + length rs
unfolding outcome_of
operations_most R ls rs cs ds n tl tr =
    omega (arith, counted R (priority_of R.lent ls rs) n (work ls + work rs) (start_of ls rs cs ds) 0 0 (stands_start ls rs cs ds n tl tr) (omega arith))

-- what an insert loses, it has
pub lost_most : (R : Rules) → Lawful R → (o f n : ℕ) (v : Remembered) → lost_of R (Insert o f n) v ≤ n
unfolding lost_of
lost_most R law o f n nothing = omega arith
lost_most R law o f n (deleted o' l') = omega arith
lost_most R law o f n (retained o' l') = omega arith
lost_most R law o f n (inserted o' ks ls) = omega (arith, law.short ks (keys_of R.lent f n), keys_short R.lent f n)

-- the tail of a cut holds no insert
module _ (P : List Op → Type 0) (o l k : ℕ) (ls : List Op) where
  pub by_cut : P (Retain (o + k) (l - k) ∷ ls) → P ls → P (behind_cut o l k ls)
  unfolding behind_cut
  by_cut f g = elim (dec_lt k l) [ yes z ↦ rw (lt-ltb k l z, behind_cut) f | no z ↦ rw (le-ltb k l (omega arith), behind_cut) g ]

-- what the inserts hold
module _ (R : Rules) (law : Lawful R) (w : ℕ → ℕ → ℕ) (less : (f n z : ℕ) → z ≤ n → w (f + z) (n - z) ≤ w f n) where
  abbrev held : List Op → ℕ
  held ls = total_of (of_insert w) ls

  held_emitted : (side at : ℕ) (m : Op) (os : List Out) → held (ops_in (emitted side at m ++ os)) ≤ of_insert w m + held (ops_in os)
  unfolding ops_in total_of
  held_emitted side at m os =
      by_emitted side at m (λ es. held (ops_in (es ++ os)) ≤ of_insert w m + held (ops_in os)) (λ h. omega arith) (λ h. one m)
    where
      one : (m : Op) → held (ops_in (record { side = side; op = anchored at m } ∷ os)) ≤ of_insert w m + held (ops_in os)
      one (Delete o l) = omega arith
      one (Insert o f n) = omega arith
      one (Retain o l) = omega arith

  held_turn : (a : Op) (ls rs : List Op) (v : Remembered) → of_insert w (met_of R (front_of a rs) v) + held (tail_of a rs ls) ≤ held (a ∷ ls)
  unfolding total_of met_of
  held_turn (Delete o l) ls rs v = omega arith
  held_turn (Insert o f n) ls rs v = omega (arith, less f n (lost_of R (Insert o f n) v) (lost_most R law o f n v))
  held_turn (Retain o l) ls rs v = by_cut (λ xs. 0 + held xs ≤ 0 + held ls) o l (kept_length o l rs) ls (omega arith) (omega arith)

  module _ (priority : Ordering) (n : ℕ) where
    abbrev Holds : State → ℕ → ℕ → Outcome → Type 0
    Holds s p q o = held (ops_in o.outs) ≤ held s.left.next + held s.right.next

    hold_turn : (side : ℕ) → side < 2 → (s : State) (a : Op) (ls : List Op) (p q : ℕ) (o : Outcome) → Turning s a ls p q n
        → Holds (turn_left R side a ls s).state (place_after a s.right.next) q o → Holds s p q (before (turn_left R side a ls s) o)
    unfolding turn_left turn_with
    hold_turn side two s a ls p q o g h =
        rw g.next
        (omega (
          arith,
          held_emitted side s.consumed (met_of R (front_of a s.right.next) s.right.last) o.outs,
          held_turn a ls s.right.next s.right.last,
        ))

    holds : (f : ℕ) (s : State) (p q : ℕ) → Stands s p q n → work s.left.next + work s.right.next ≤ f → Holds s p q (run R priority f s)
    unfolding ops_in total_of
    holds = shows R priority n Holds (λ s p q o h. omega arith) (λ s p q d. rw (d.left, d.right) (omega arith)) hold_turn

  -- the tokens and the text inserted are bounded by both lists together
  pub inserted_most : (ls rs : List Op) (cs ds : List Cursor) (n : ℕ) → Tiled ls 0 n → Tiled rs 0 n
      → total_of (of_insert w) (ops_in (outcome_of R ls rs cs ds).outs) ≤ total_of (of_insert w) ls + total_of (of_insert w) rs
  unfolding outcome_of
  inserted_most ls rs cs ds n tl tr =
      holds (priority_of R.lent ls rs) n (work ls + work rs) (start_of ls rs cs ds) 0 0 (stands_start ls rs cs ds n tl tr) (omega arith)

-- what is asked of each insert, and of each side

pub asked_tail : (Q : ℕ → ℕ → Type 0) (a : Op) (ls rs : List Op) → Inserts Q (a ∷ ls) → Inserts Q (tail_of a rs ls)
unfolding Inserts
asked_tail Q (Delete o l) ls rs h = h
asked_tail Q (Insert o f n) ls rs h = h.1
asked_tail Q (Retain o l) ls rs h = by_cut (Inserts Q) o l (kept_length o l rs) ls h h

module _ (R : Rules) (law : Lawful R) (Q : ℕ → ℕ → Type 0) (part : (f n z : ℕ) → z < n → Q f n → Q (f + z) (n - z)) where
  asked_emitted : (side at : ℕ) (a : Op) (ls rs : List Op) (v : Remembered) (os : List Out) → Inserts Q (a ∷ ls) → Inserts Q (ops_in os)
      → Inserts Q (ops_in (emitted side at (met_of R (front_of a rs) v) ++ os))
  unfolding ops_in Inserts met_of
  asked_emitted side at (Delete o l) ls rs v os i h =
      by_emitted side at (met_of R (Delete o l) v) (λ es. Inserts Q (ops_in (es ++ os))) (λ e. h) (λ e. h)
  asked_emitted side at (Insert o f n) ls rs v os i h =
      by_emitted side at (met_of R (Insert o f n) v) (λ es. Inserts Q (ops_in (es ++ os))) (λ e. h)
      (λ e. (part f n (lost_of R (Insert o f n) v) (omega (arith, eqb-false (n - lost_of R (Insert o f n) v) 0 e)) i.0, h))
  asked_emitted side at (Retain o l) ls rs v os i h =
      by_emitted side at (met_of R (front_of (Retain o l) rs) v) (λ es. Inserts Q (ops_in (es ++ os))) (λ e. h) (λ e. h)

  module _ (priority : Ordering) (n : ℕ) where
    abbrev Asked : State → ℕ → ℕ → Outcome → Type 0
    Asked s p q o = Inserts Q s.left.next → Inserts Q s.right.next → Inserts Q (ops_in o.outs) × Sided o.outs

    sided_emitted : (side at : ℕ) → side < 2 → (m : Op) (os : List Out) → Sided os → Sided (emitted side at m ++ os)
    unfolding Sided
    sided_emitted side at two m os h = by_emitted side at m (λ es. Sided (es ++ os)) (λ e. h) (λ e. (two, h))

    ask_turn : (side : ℕ) → side < 2 → (s : State) (a : Op) (ls : List Op) (p q : ℕ) (o : Outcome) → Turning s a ls p q n
        → Asked (turn_left R side a ls s).state (place_after a s.right.next) q o → Asked s p q (before (turn_left R side a ls s) o)
    unfolding turn_left turn_with
    ask_turn side two s a ls p q o g h l r =
        let i : Inserts Q (a ∷ ls) = rw g.next at l in
        let k = h (asked_tail Q a ls s.right.next i) r in (
          asked_emitted side s.consumed a ls s.right.next s.right.last o.outs i k.0,
          sided_emitted side s.consumed two (met_of R (front_of a s.right.next) s.right.last) o.outs k.1,
        )

    asked : (f : ℕ) (s : State) (p q : ℕ) → Stands s p q n → work s.left.next + work s.right.next ≤ f → Asked s p q (run R priority f s)
    unfolding ops_in Inserts Sided
    asked = shows R priority n Asked (λ s p q o h l r. h r l) (λ s p q d l r. (tt, tt)) ask_turn

  -- the merged inserts' tokens are ends of lent inserts' tokens, and each side is known
  pub inserts_part : (ls rs : List Op) (cs ds : List Cursor) (n : ℕ) → Tiled ls 0 n → Tiled rs 0 n → Inserts Q ls → Inserts Q rs
      → Inserts Q (ops_in (outcome_of R ls rs cs ds).outs) × Sided (outcome_of R ls rs cs ds).outs
  unfolding outcome_of
  inserts_part ls rs cs ds n tl tr il ir =
      asked (priority_of R.lent ls rs) n (work ls + work rs) (start_of ls rs cs ds) 0 0 (stands_start ls rs cs ds n tl tr) (omega arith) il ir
