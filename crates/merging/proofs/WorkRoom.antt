-- Shown: what a merge remembers of a side's inserts, and the overlap's table for its next one, never pass the insert tokens of its list.
-- How: a token is remembered once at most, when its insert was taken: what is remembered and what is next never grow together.
use Prim.Native.Nat.{ℕ, ◌+◌, ◌-◌, max, ◌≤◌}
use mathlib.Core.Path.{◌≡◌, refl, sym, ◌∙◌}
use mathlib.Core.List.{List, ◌∷◌}
use native.Mathlib.Omega.{arith}
use native.Mathlib.Decide.{ℕ_discrete}
use lib.ListN.{length, length-append, length-drop}
use Rattle.overlap.specs.declared.Range.{Range}
use Rattle.records.specs.declared.Cursor.{Cursor}
use Rattle.merging.specs.declared.Op.{Op}
use Rattle.merging.specs.declared.Op.TheVariants.{Delete, Insert, Retain}
use Rattle.std.specs.declared.cmp.Ordering.{Ordering}
use Rattle.merging.specs.Lent.{Lent, Rules, keys_of, lengths_of}
use Rattle.merging.specs.OrderRule.{priority_of}
use Rattle.merging.specs.Meeting.{front_of, tail_of, kept_length, met_of, lost_of, other_of, used_up, remember_of, width_of, Remembered, nothing, deleted, retained, inserted}
use Rattle.merging.specs.Turn.{State, Turned, turned, turn_with, turn_left, turn_right, Taken, none, from_left, from_right, taken_of, Step, stop, on, step_of}
use Rattle.merging.specs.Merge.{start_of}
use Rattle.merging.specs.Tiling.{total_of, tokens_of}
use Rattle.merging.specs.Reached.{Reached, here, onward, remembered}
use Rattle.merging.proofs.Sums.{keys_short, lengths_count}
use Rattle.merging.proofs.Meetings.{used_all, used_rest, appended_same, appended_new}
use Rattle.merging.proofs.Turns.{taken_is}
use Rattle.merging.proofs.Count.{by_cut}

-- what a side holds: the tokens remembered, and those that are next
abbrev pub holds : Remembered → List Op → ℕ
holds u ls = remembered u + tokens_of ls

remember_most : (lent : Lent) (u : Remembered) (o f n : ℕ) → remembered (remember_of lent u (Insert o f n)) ≤ remembered u + n
remember_most lent nothing o f n = omega (arith, keys_short lent f n, lengths_count lent f n)
remember_most lent (deleted o' l') o f n = omega (arith, keys_short lent f n, lengths_count lent f n)
remember_most lent (retained o' l') o f n = omega (arith, keys_short lent f n, lengths_count lent f n)
remember_most lent (inserted o' ks ls) o f n =
    elim (ℕ_discrete o' o) [
      | yes e ↦
          rw (appended_same o' ks ls o (keys_of lent f n) (lengths_of lent f n) e)
          (omega (arith, length-append ks (keys_of lent f n), length-append ls (lengths_of lent f n), keys_short lent f n, lengths_count lent f n))
      | no e ↦ rw (appended_new o' ks ls o (keys_of lent f n) (lengths_of lent f n) e) (omega (arith, keys_short lent f n, lengths_count lent f n))
    ]

-- a turn's own side
pub own_less : (R : Rules) (u v : Remembered) (a : Op) (ls rs : List Op) → holds (remember_of R.lent u (met_of R (front_of a rs) v)) (tail_of a rs ls) ≤ holds u (a ∷ ls)
unfolding met_of total_of
own_less R u v (Delete o l) ls rs = omega arith
own_less R u v (Insert o f n) ls rs = omega (arith, remember_most R.lent u o (f + lost_of R (Insert o f n) v) (n - lost_of R (Insert o f n) v))
own_less R u v (Retain o l) ls rs =
    by_cut (λ xs. 0 + tokens_of xs ≤ remembered u + (0 + tokens_of ls)) o l (kept_length o l rs) ls (omega arith) (omega arith)

-- the other side
used_most : (r : Range) (n o : ℕ) (ks ls : List ℕ) → remembered (used_up r n o ks ls) ≤ max (length ks) (length ls)
used_most r n o ks ls =
    elim (ℕ_discrete (width_of r) n) [
      | yes e ↦ rw (used_all r n o ks ls e) (omega (arith, length-drop r.end ks, length-drop r.end ls))
      | no e ↦ rw (used_rest r n o ks ls e) (omega arith)
    ]

pub other_less : (R : Rules) (b : Op) (v : Remembered) → remembered (other_of R b v) ≤ remembered v
other_less R (Delete o l) v = omega arith
other_less R (Insert o f n) nothing = omega arith
other_less R (Insert o f n) (deleted o' l') = omega arith
other_less R (Insert o f n) (retained o' l') = omega arith
other_less R (Insert o f n) (inserted o' ks ls) = used_most (R.overlap ks (keys_of R.lent f n)) n o' ks ls
other_less R (Retain o l) v = omega arith

-- a state whose sides hold no more than a and b
record Holding (s : State) (a b : ℕ) : Type 0 where
  left : holds s.left.last s.left.next ≤ a
  right : holds s.right.last s.right.next ≤ b

hold_left : (R : Rules) (side : ℕ) (a : Op) (ls : List Op) (s : State) (i j : ℕ) → s.left.next ≡ a ∷ ls → Holding s i j → Holding (turn_left R side a ls s).state i j
unfolding turn_left turn_with
hold_left R side a ls s i j e h =
    let l : holds s.left.last (a ∷ ls) ≤ i = rw e at h.left in
    record {
      left = omega (arith, own_less R s.left.last s.right.last a ls s.right.next);
      right = omega (arith, h.right, other_less R (front_of a s.right.next) s.right.last);
    }

hold_right : (R : Rules) (side : ℕ) (b : Op) (rs : List Op) (s : State) (i j : ℕ) → s.right.next ≡ b ∷ rs → Holding s i j → Holding (turn_right R side b rs s).state i j
unfolding turn_right
hold_right R side b rs s i j e h =
    let t = hold_left R side b rs (turned s) j i e (record { left = h.right; right = h.left }) in
    record { left = t.right; right = t.left }

-- the turn of a step
step_is : (R : Rules) (priority : Ordering) (s : State) (t : Taken) → taken_of R.lent priority s.left.next s.right.next ≡ t
    → step_of R priority s ≡ elim t as (λ x. Step) [ none ↦ stop | from_left a ls ↦ on (turn_left R 0 a ls s) | from_right b rs ↦ on (turn_right R 1 b rs s) ]
unfolding step_of
step_is R priority s t e = rw (e, step_of)

hold_step : (R : Rules) (priority : Ordering) (s : State) (u : Turned) (i j : ℕ) → step_of R priority s ≡ on u → Holding s i j → Holding u.state i j
hold_step R priority s u i j e h = go (taken_of R.lent priority s.left.next s.right.next) refl
  where
    go : (t : Taken) → taken_of R.lent priority s.left.next s.right.next ≡ t → Holding u.state i j
    go none k = let c : stop ≡ on u = sym (step_is R priority s none k) ∙ e in absurd (let z : ◌≡◌ {A = ℕ} 0 1 = cc in omega arith)
    go (from_left a ls) k =
        let c : on (turn_left R 0 a ls s) ≡ on u = sym (step_is R priority s (from_left a ls) k) ∙ e in
        let d : turn_left R 0 a ls s ≡ u = cc in
        rw (← d) (hold_left R 0 a ls s i j (taken_is R.lent priority s.left.next s.right.next (from_left a ls) k) h)
    go (from_right b rs) k =
        let c : on (turn_right R 1 b rs s) ≡ on u = sym (step_is R priority s (from_right b rs) k) ∙ e in
        let d : turn_right R 1 b rs s ≡ u = cc in
        rw (← d) (hold_right R 1 b rs s i j (taken_is R.lent priority s.left.next s.right.next (from_right b rs) k) h)

hold_reached : (R : Rules) (priority : Ordering) (s : State) (i j : ℕ) → Holding s i j → {t : State} → Reached R priority s t → Holding t i j
hold_reached R priority s i j h here = h
hold_reached R priority s i j h (onward {t = t} u r e) = hold_step R priority t u i j e (hold_reached R priority s i j h r)

-- "work, twice the insert tokens of both lists": half of it holds the keys of the tokens remembered of both sides and the table of
-- the next insert of either, the other half their lengths
pub record Enough (s : State) (a b : ℕ) : Type 0 where
  pub left : remembered s.left.last + tokens_of s.left.next ≤ a
  pub right : remembered s.right.last + tokens_of s.right.next ≤ b
  pub table_left : (o f n : ℕ) (ls : List Op) → s.left.next ≡ Insert o f n ∷ ls → remembered s.left.last + remembered s.right.last + n ≤ a + b
  pub table_right : (o f n : ℕ) (rs : List Op) → s.right.next ≡ Insert o f n ∷ rs → remembered s.left.last + remembered s.right.last + n ≤ a + b

next_tokens : (o f n : ℕ) (ls xs : List Op) → xs ≡ Insert o f n ∷ ls → n ≤ tokens_of xs
unfolding total_of
next_tokens o f n ls xs e = rw e (omega arith)

pub work_room : (R : Rules) (ls rs : List Op) (cs ds : List Cursor) {s : State} → Reached R (priority_of R.lent ls rs) (start_of ls rs cs ds) s
    → Enough s (tokens_of ls) (tokens_of rs)
work_room R ls rs cs ds {s} r =
    let h : Holding s (tokens_of ls) (tokens_of rs) =
    hold_reached R (priority_of R.lent ls rs) (start_of ls rs cs ds) (tokens_of ls) (tokens_of rs) (record { left = omega arith; right = omega arith }) r in
    record {
      left = h.left;
      right = h.right;
      table_left = λ o f n xs e. omega (arith, h.left, h.right, next_tokens o f n xs s.left.next e);
      table_right = λ o f n xs e. omega (arith, h.left, h.right, next_tokens o f n xs s.right.next e);
    }
