-- Shown: every cursor comes out of a merge exactly once with its identity number, within the merged text, and the cursors of one side keep their order.
-- How: by induction over the turns: the cursors of a side that were put stand at most where its next shared text may start.
use Prim.Native.Nat.{ℕ, ◌+◌, ◌≤◌, ◌<◌}
use mathlib.Core.Path.{◌≡◌, refl, ◌∙◌, ap}
use mathlib.Core.List.{List, ◌++◌}
use native.Mathlib.Omega.{arith}
use mathlib.Core.Bool.{true}
use borrow.Author.Tests.{eqb-true}
use Rattle.records.specs.declared.Cursor.{Cursor}
use Rattle.cursors.specs.Sorted.{sorted, From, Ordered}
use Rattle.cursors.proofs.SortLaws.{from_less, ordered_sorted}
use Rattle.merging.specs.declared.Op.{Op}
use Rattle.merging.specs.declared.Op.TheVariants.{Delete, Insert, Retain}
use Rattle.std.specs.declared.cmp.Ordering.{Ordering}
use Rattle.merging.specs.declared.Shift.{Shift}
use Rattle.merging.specs.Lent.{Lent, Rules, Lawful, lengths_of, sum}
use Rattle.merging.specs.Operations.{Out, ops_in, empty_op, length_of}
use Rattle.merging.specs.OrderRule.{priority_of}
use Rattle.merging.specs.Meeting.{Remembered, front_of, met_of}
use Rattle.merging.specs.Cursors.{shift_of, moved, behind, moved_by, behind_of, ended}
use Rattle.merging.specs.Turn.{State, anchored, emitted, turn_with, turn_left}
use Rattle.merging.specs.Merge.{Outcome, before, run, work, start_of, outcome_of}
use Rattle.merging.specs.Tiling.{Tiled, total_of}
use Rattle.records.specs.Cursors.{Within}
use Rattle.merging.specs.Carried.{identities, Carried}
use Rattle.merging.proofs.OneTurn.{place_after}
use Rattle.merging.proofs.Places.{back, Roomed, roomed}
use Rattle.merging.proofs.Turns.{Stands, Turning, stands_start, shows}
use Rattle.merging.proofs.Count.{by_emitted}
use Rattle.merging.proofs.Carrying.{up_more, up_append, from_append, ordered_append, identities_append, identities_ended, up_ended, from_ended, ordered_ended, identities_moved, ordered_behind, from_moved, up_moved, ordered_moved, woven_swap, woven_front, woven_behind, woven_sorted, up_sorted}

-- the text that a list gives
abbrev pub text_length : Lent → List Out → ℕ
text_length lent os = total_of (length_of lent) (ops_in os)

-- an empty result gives no text
empty_length : (lent : Lent) (m : Op) → empty_op m ≡ true → length_of lent m ≡ 0
unfolding sum lengths_of
empty_length lent (Delete o l) e = refl
empty_length lent (Insert o f n) e = let z : n ≡ 0 = eqb-true n 0 e in rw z
empty_length lent (Retain o l) e = eqb-true l 0 e

anchored_length : (lent : Lent) (at : ℕ) (m : Op) → length_of lent (anchored at m) ≡ length_of lent m
anchored_length lent at (Delete o l) = refl
anchored_length lent at (Insert o f n) = refl
anchored_length lent at (Retain o l) = refl

pub emitted_length : (lent : Lent) (side at : ℕ) (m : Op) (os : List Out) → text_length lent (emitted side at m ++ os) ≡ length_of lent m + text_length lent os
unfolding ops_in total_of
emitted_length lent side at m os =
    by_emitted side at m (λ es. text_length lent (es ++ os) ≡ length_of lent m + text_length lent os)
    (λ h. omega (arith, empty_length lent m h)) (λ h. omega (arith, anchored_length lent at m))

-- cursors that come out of a state: those of the left that are left, cs, come out at h or later, those of the right, ds, at k or later
pub record Carries (cs ds out : List Cursor) (h k e : ℕ) : Type 0 where
  pub carried : Carried cs ds out e
  pub from_left : From h carried.left
  pub from_right : From k carried.right

carries_swap : {cs ds out : List Cursor} {h k e : ℕ} → Carries cs ds out h k e → Carries ds cs out k h e
carries_swap w =
    let c = w.carried in
    record {
      carried =
          record {
            left = c.right;
            right = c.left;
            woven = woven_swap c.woven;
            same_left = c.same_right;
            same_right = c.same_left;
            ordered_left = c.ordered_right;
            ordered_right = c.ordered_left;
            within = c.within;
          };
      from_left = w.from_right;
      from_right = w.from_left;
    }

-- the leftovers
carries_end : (m : ℕ) (cs ds : List Cursor) (h k e : ℕ) → h ≤ m → k ≤ m → m ≤ e → Carries cs ds (ended m cs ++ ended m ds) h k e
carries_end m cs ds h k e hm km me =
    record {
      carried =
          record {
            left = ended m cs;
            right = ended m ds;
            woven = woven_behind (ended m cs) (ended m ds);
            same_left = identities_ended m cs;
            same_right = identities_ended m ds;
            ordered_left = ordered_ended m cs;
            ordered_right = ordered_ended m ds;
            within = up_append e (ended m cs) (ended m ds) (up_more (ended m cs) me (up_ended m cs)) (up_more (ended m ds) me (up_ended m ds));
          };
      from_left = from_ended m h hm cs;
      from_right = from_ended m k km ds;
    }

-- cursors ms that move in front of what comes out after them; bs are left of cs
carries_move : (ms bs cs ds out : List Cursor) (h k top e : ℕ) → identities ms ++ identities bs ≡ identities cs → Ordered ms → From h ms → Within top ms → h ≤ top → top ≤ e
    → Carries bs ds out top k e → Carries cs ds (ms ++ out) h k e
carries_move ms bs cs ds out h k top e i o f u ht te w =
    let c = w.carried in
    record {
      carried =
          record {
            left = ms ++ c.left;
            right = c.right;
            woven = woven_front ms c.woven;
            same_left = identities_append ms c.left ∙ (ap (λ (xs : List ℕ). identities ms ++ xs) c.same_left ∙ i);
            same_right = c.same_right;
            ordered_left = ordered_append top ms c.left o u w.from_left c.ordered_left;
            ordered_right = c.ordered_right;
            within = up_append e ms out (up_more ms te u) c.within;
          };
      from_left = from_append h ms c.left f (from_less c.left ht w.from_left);
      from_right = w.from_right;
    }

-- a turn of the operation b moves the cursors cs of its side
module _ (R : Rules) (u v : Remembered) (q at m h k seen : ℕ) (cs ds out : List Cursor) (e : ℕ) where
  carries_shift : (b : Op) → (r : Roomed R b u v q at m h k) → Ordered cs → m + length_of R.lent (met_of R b v) ≤ e
      → Carries (behind (shift_of R b v seen m) cs) ds out r.top k e → Carries cs ds (moved (shift_of R b v seen m) cs ++ out) h k e
  unfolding shift_of
  carries_shift b r oc le w =
      let t : Shift = shift_of R b v seen m in
      carries_move (moved t cs) (behind t cs) cs ds out h k r.top e (identities_moved t cs) (ordered_moved t (r.fine seen) cs oc)
      (from_less (moved t cs) r.low (from_moved t (r.fine seen) cs)) (up_moved t (r.fine seen) r.top (r.cap seen) cs) r.grows
      (omega (arith, r.most)) w

  carries_turn : (b : Op) → (r : Roomed R b u v q at m h k) → Ordered cs → m + length_of R.lent (met_of R b v) ≤ e
      → Carries (behind_of b (shift_of R b v seen m) cs) ds out r.top k e
      → Carries cs ds (moved_by b (shift_of R b v seen m) cs ++ out) h k e
  carries_turn (Delete o l) r oc le w =
      record { carried = w.carried; from_left = from_less w.carried.left r.grows w.from_left; from_right = w.from_right }
  carries_turn (Insert o f n) r oc le w = carries_shift (Insert o f n) r oc le w
  carries_turn (Retain o l) r oc le w = carries_shift (Retain o l) r oc le w

module _ (R : Rules) (law : Lawful R) (priority : Ordering) (n : ℕ) where
  abbrev Moves : State → ℕ → ℕ → Outcome → Type 0
  Moves s p q o =
      (h k : ℕ) → h + back s.right.last p q ≤ s.merged → k + back s.left.last q p ≤ s.merged
      → Ordered s.left.cursors → Ordered s.right.cursors
      → Carries s.left.cursors s.right.cursors o.cursors h k (s.merged + text_length R.lent o.outs)

  ordered_after : (b : Op) (t : Shift) (cs : List Cursor) → Ordered cs → Ordered (behind_of b t cs)
  ordered_after (Delete o l) t cs oc = oc
  ordered_after (Insert o f k) t cs oc = ordered_behind t cs oc
  ordered_after (Retain o l) t cs oc = ordered_behind t cs oc

  move_turn : (side : ℕ) → side < 2 → (s : State) (a : Op) (ls : List Op) (p q : ℕ) (o : Outcome) → Turning s a ls p q n
      → Moves (turn_left R side a ls s).state (place_after a s.right.next) q o → Moves s p q (before (turn_left R side a ls s) o)
  unfolding turn_left turn_with
  move_turn side two s a ls p q o g w h k hh hk oc od =
      let b : Op = front_of a s.right.next in
      let u : Remembered = s.left.last in
      let v : Remembered = s.right.last in
      let r : Roomed R b u v q (place_after a s.right.next) s.merged h k =
      roomed R law a u ls v s.right.next p q n g.good g.le s.merged h k hh hk in
      let e : s.merged + text_length R.lent (emitted side s.consumed (met_of R b v) ++ o.outs) ≡ s.merged + length_of R.lent (met_of R b v) + text_length R.lent o.outs =
      omega (arith, emitted_length R.lent side s.consumed (met_of R b v) o.outs) in
      rw e
      (carries_turn R u v q (place_after a s.right.next) s.merged h k s.left.seen s.left.cursors s.right.cursors o.cursors
      (s.merged + length_of R.lent (met_of R b v) + text_length R.lent o.outs) b r oc (omega arith)
      (w r.top k r.own r.other (ordered_after b (shift_of R b v s.left.seen s.merged) s.left.cursors oc) od))

  moves : (f : ℕ) (s : State) (p q : ℕ) → Stands s p q n → work s.left.next + work s.right.next ≤ f → Moves s p q (run R priority f s)
  moves =
      shows R priority n Moves (λ s p q o w h k hh hk oc od. carries_swap (w k h hk hh od oc))
      (λ s p q d h k hh hk oc od. carries_end s.merged s.left.cursors s.right.cursors h k _ (omega arith) (omega arith) (omega arith))
      move_turn

-- every cursor comes out exactly once with its identity number, within the merged text, and those of one side keep their order
pub carried : (R : Rules) → Lawful R → (ls rs : List Op) (cs ds : List Cursor) (n : ℕ) → Tiled ls 0 n → Tiled rs 0 n
    → Carried (sorted cs) (sorted ds) (sorted (outcome_of R ls rs cs ds).cursors) (text_length R.lent (outcome_of R ls rs cs ds).outs)
unfolding outcome_of
carried R law ls rs cs ds n tx ty =
    let w =
    moves R law (priority_of R.lent ls rs) n (work ls + work rs) (start_of ls rs cs ds) 0 0 (stands_start ls rs cs ds n tx ty) (omega arith) 0 0 (omega arith) (omega arith)
    (ordered_sorted cs) (ordered_sorted ds)
    in
    let c = w.carried in
    record {
      left = c.left;
      right = c.right;
      woven = woven_sorted c.woven c.ordered_left c.ordered_right;
      same_left = c.same_left;
      same_right = c.same_right;
      ordered_left = c.ordered_left;
      ordered_right = c.ordered_right;
      within = up_sorted _ _ (up_more _ (omega arith) c.within);
    }
