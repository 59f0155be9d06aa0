-- Shown: of the lent text the checks of two lists, their merge and its diff read no more than the lists' inserts reach: what stands behind that changes nothing.
-- How: the text is read where inserts are spelled and nowhere else; the merge by induction over its turns.
use Prim.Native.Nat.{ℕ, zero, suc, ◌+◌, ◌*◌, ◌≤◌}
use mathlib.Core.Path.{◌≡◌, refl, sym, ◌∙◌, ap}
use mathlib.Core.Bool.{Bool, true, false, ◌&&◌}
use mathlib.Core.List.{List, [], ◌∷◌, ◌++◌}
use native.Mathlib.Omega.{arith}
use lib.ListN.{length, drop, get_or, length-append, length-drop}
use lib.Seq.{take-append-le, drop-append-le}
use lib.Dec.{eqb}
use borrow.Author.Tests.{eqb-true, le-leb}
use Rattle.refusal.specs.declared.Refusal.TheVariants.{Record}
use Rattle.records.specs.declared.Operation.{Operation}
use Rattle.records.specs.declared.Token.{Token}
use Rattle.records.specs.declared.Cursor.{Cursor}
use Rattle.records.specs.Tokens.{tokens_from, spelled}
use Rattle.verdict.specs.Points.{points_from}
use Rattle.sizes.specs.Texts.{total, run_text, run_lent, inserted_by}
use Rattle.sizes.specs.Sizes.{merging}
use Rattle.shapes.specs.Shapes.{run_good, is_record, records_from}
use Rattle.shapes.specs.Tiling.{within_from}
use Rattle.shapes.specs.Accepted.{AllIn}
use Rattle.checks.specs.Lists.{lists_verdict}
use Rattle.elongate.proofs.Joining.{by_test}
use Rattle.merging.specs.declared.Op.{Op}
use Rattle.merging.specs.declared.Op.TheVariants.{Delete, Insert, Retain}
use Rattle.std.specs.declared.cmp.Ordering.{Ordering}
use Rattle.merging.specs.Lent.{Lent, lent_of, rules_of, keys_of, lengths_of, sum}
use Rattle.merging.specs.Operations.{Out, order_of, kind_of, span_of, length_of, ops_from, record_of, records_of}
use Rattle.merging.specs.OrderRule.{compare_spelling, content_rule, order_rule, priority_of, goes_left}
use Rattle.merging.specs.Meeting.{Remembered, nothing, deleted, retained, inserted, front_of, tail_of, shortened, lost_of, met_of, other_of, remember_of}
use Rattle.merging.specs.Cursors.{place_of, removed_of, shift_of, moved_by, behind_of}
use Rattle.merging.specs.Turn.{State, Turned, turned, emitted, turn_with, turn_left, turn_right, Taken, none, from_left, from_right, taken_of}
use Rattle.merging.specs.Merge.{Outcome, before, run, work, start_of, outcome_of, merge_of}
use Rattle.merging.specs.Outputs.{joined, to_diff}
use Rattle.merging.specs.Tiling.{Inserts}
use Rattle.merging.proofs.Turns.{run_none, run_left, run_right, taken_is}
use Rattle.merging.proofs.Count.{asked_tail}
use Rattle.cursors.specs.Sorted.{sorted}
use Rattle.diff.specs.Replay.{Edit, delete, insert}
use Rattle.std.specs.Prelude.{Err}
use Rattle.verdict.specs.Verdicts.{Verdict, accepted}
use Rattle.std.specs.Ordering.{nat_cmp, ordering_then, is_lt}

-- every insert's tokens lie in the first n code points of the lent text
unfoldable pub Reaches : ℕ → List ℕ → List ℕ → List Operation → Type 0
Reaches n spans keys [] = Unit
Reaches n spans keys (o ∷ os) = (o.kind ≡ 1 → AllIn n (tokens_from spans keys o.first o.count)) × Reaches n spans keys os

-- the checks

good_same : (n m : ℕ) (ts : List Token) → n ≤ m → AllIn n ts → run_good m ts ≡ run_good n ts
unfolding AllIn run_good
good_same n m [] l h = refl
good_same n m (t ∷ ts) l h =
    rw (
      le-leb (t.start + t.length) n h.1.0,
      le-leb (t.start + t.length) m (omega (arith, h.1.0)),
      good_same n m ts l h.1.1,
    )

text_same : (n m : ℕ) (ts : List Token) → n ≤ m → AllIn n ts → run_text m ts ≡ run_text n ts
unfolding AllIn run_text
text_same n m [] l h = refl
text_same n m (t ∷ ts) l h =
    rw (
      le-leb (t.start + t.length) n h.1.0,
      le-leb (t.start + t.length) m (omega (arith, h.1.0)),
      text_same n m ts l h.1.1,
    )

module _ (n m : ℕ) (l : n ≤ m) (spans keys : List ℕ) where
  record_same : (o : Operation) → (o.kind ≡ 1 → AllIn n (tokens_from spans keys o.first o.count)) → is_record m spans keys o ≡ is_record n spans keys o
  record_same o h =
      by_test (eqb o.kind 1) (is_record m spans keys o ≡ is_record n spans keys o)
      (λ e. rw (e, good_same n m (tokens_from spans keys o.first o.count) l (h (eqb-true o.kind 1 e))))
      (λ e. rw e)

  records_same : (os : List Operation) (i : ℕ) → Reaches n spans keys os → records_from m spans keys os i ≡ records_from n spans keys os i
  unfolding records_from Reaches
  records_same [] i h = refl
  records_same (o ∷ os) i h =
      λ j. elim (record_same o h.0 j) as (λ (x : Bool). Verdict) [ true ↦ records_same os (i + 1) h.1 j | false ↦ Err (Record i) ]

  inserted_same : (o : Operation) → (o.kind ≡ 1 → AllIn n (tokens_from spans keys o.first o.count)) → inserted_by m spans keys o ≡ inserted_by n spans keys o
  inserted_same o h =
      by_test (eqb o.kind 1) (inserted_by m spans keys o ≡ inserted_by n spans keys o)
      (λ e.
      let r = text_same n m (tokens_from spans keys o.first o.count) l (h (eqb-true o.kind 1 e)) in
      λ j. elim (eqb o.kind 1 && run_lent spans keys o) as (λ (x : Bool). ℕ) [ true ↦ r j | false ↦ 0 ])
      (λ e. rw (e, inserted_by))

  totals_same : (os : List Operation) → Reaches n spans keys os → total (inserted_by m spans keys) os ≡ total (inserted_by n spans keys) os
  unfolding total Reaches
  totals_same [] h = refl
  totals_same (o ∷ os) h = λ j. inserted_same o h.0 j + totals_same os h.1 j

module _ (original spans keys text more : List ℕ) where
  abbrev lent : Lent
  lent = lent_of original text spans keys

  abbrev long : Lent
  long = lent_of original (text ++ more) spans keys

  -- with no cursors
  pub verdict_same : (left right : List Operation) → Reaches (length text) spans keys left → Reaches (length text) spans keys right → length (text ++ more) ≤ 131070
      → points_from text 0 ≡ accepted → points_from (text ++ more) 0 ≡ accepted
      → lists_verdict merging original (text ++ more) spans keys left right [] [] ≡ lists_verdict merging original text spans keys left right [] []
  unfolding lists_verdict within_from
  verdict_same left right hl hr few p q =
      let e : length text ≤ length (text ++ more) = omega (arith, length-append text more) in
      rw (
        le-leb (length (text ++ more)) 131070 few,
        le-leb (length text) 131070 (omega (arith, length-append text more)),
        totals_same (length text) (length (text ++ more)) e spans keys left hl,
        totals_same (length text) (length (text ++ more)) e spans keys right hr,
        p,
        q,
        records_same (length text) (length (text ++ more)) e spans keys left 0 hl,
        records_same (length text) (length (text ++ more)) e spans keys right 0 hr,
      )

  -- what a turn goes by

  lengths_same : (i k : ℕ) → lengths_of long i k ≡ lengths_of lent i k
  unfolding lengths_of
  lengths_same i zero = refl
  lengths_same i (suc k) = ap (λ (xs : List ℕ). get_or spans (i * 2 + 1) 0 ∷ xs) (lengths_same (i + 1) k)

  length_same : (a : Op) → length_of long a ≡ length_of lent a
  length_same (Delete o l) = refl
  length_same (Insert o f n) = ap sum (lengths_same f n)
  length_same (Retain o l) = refl

  lost_same : (a : Op) (v : Remembered) → lost_of (rules_of long) a v ≡ lost_of (rules_of lent) a v
  unfolding lost_of keys_of
  lost_same (Delete o l) nothing = refl
  lost_same (Delete o l) (deleted o' l') = refl
  lost_same (Delete o l) (retained o' l') = refl
  lost_same (Delete o l) (inserted o' ks ls) = refl
  lost_same (Insert o f n) nothing = refl
  lost_same (Insert o f n) (deleted o' l') = refl
  lost_same (Insert o f n) (retained o' l') = refl
  lost_same (Insert o f n) (inserted o' ks ls) = refl
  lost_same (Retain o l) nothing = refl
  lost_same (Retain o l) (deleted o' l') = refl
  lost_same (Retain o l) (retained o' l') = refl
  lost_same (Retain o l) (inserted o' ks ls) = refl

  met_same : (a : Op) (v : Remembered) → met_of (rules_of long) a v ≡ met_of (rules_of lent) a v
  unfolding met_of
  met_same a v = ap (shortened a) (lost_same a v)

  other_same : (a : Op) (v : Remembered) → other_of (rules_of long) a v ≡ other_of (rules_of lent) a v
  unfolding keys_of
  other_same (Delete o l) v = refl
  other_same (Insert o f n) nothing = refl
  other_same (Insert o f n) (deleted o' l') = refl
  other_same (Insert o f n) (retained o' l') = refl
  other_same (Insert o f n) (inserted o' ks ls) = refl
  other_same (Retain o l) v = refl

  remember_same : (u : Remembered) (a : Op) → remember_of long u a ≡ remember_of lent u a
  unfolding keys_of
  remember_same u (Delete o l) = refl
  remember_same u (Retain o l) = refl
  remember_same nothing (Insert o f n) = rw (lengths_same f n)
  remember_same (deleted o' l') (Insert o f n) = rw (lengths_same f n)
  remember_same (retained o' l') (Insert o f n) = rw (lengths_same f n)
  remember_same (inserted o' ks ls) (Insert o f n) = rw (lengths_same f n)

  place_same : (a : Op) (v : Remembered) (merged : ℕ) → place_of (rules_of long) a v merged ≡ place_of (rules_of lent) a v merged
  unfolding place_of lost_of keys_of
  place_same (Delete o l) v merged = refl
  place_same (Insert o f n) nothing merged = refl
  place_same (Insert o f n) (deleted o' l') merged = refl
  place_same (Insert o f n) (retained o' l') merged = refl
  place_same (Insert o f n) (inserted o' ks ls) merged = refl
  place_same (Retain o l) nothing merged = refl
  place_same (Retain o l) (deleted o' l') merged = refl
  place_same (Retain o l) (retained o' l') merged = refl
  place_same (Retain o l) (inserted o' ks ls) merged = refl

  removed_same : (a : Op) (z : ℕ) → removed_of (rules_of long) a z ≡ removed_of (rules_of lent) a z
  removed_same (Delete o l) z = refl
  removed_same (Insert o f n) z = ap sum (lengths_same f z)
  removed_same (Retain o l) z = refl

  shift_same : (a : Op) (v : Remembered) (seen merged : ℕ) → shift_of (rules_of long) a v seen merged ≡ shift_of (rules_of lent) a v seen merged
  unfolding shift_of
  shift_same a v seen merged =
      let e : removed_of (rules_of long) a (lost_of (rules_of long) a v) ≡ removed_of (rules_of lent) a (lost_of (rules_of lent) a v) =
      removed_same a (lost_of (rules_of long) a v) ∙ ap (removed_of (rules_of lent) a) (lost_same a v)
      in
      λ i.
      record {
        seen = seen;
        length = length_same a i;
        removed = e i;
        start = (place_same a v merged i).start;
        shared = (place_same a v merged i).shared;
        merged = merged;
      }

  turn_with_lem : (side : ℕ) (s : State) (b : Op) (next : List Op) → turn_with (rules_of long) side s b next ≡ turn_with (rules_of lent) side s b next
  unfolding turn_with
  turn_with_lem side s b next =
      let u : Remembered = s.left.last in
      let v : Remembered = s.right.last in
      let m = met_same b v in
      let r : remember_of long u (met_of (rules_of long) b v) ≡ remember_of lent u (met_of (rules_of lent) b v) =
      remember_same u (met_of (rules_of long) b v) ∙ ap (remember_of lent u) m
      in
      let l : length_of long (met_of (rules_of long) b v) ≡ length_of lent (met_of (rules_of lent) b v) =
      length_same (met_of (rules_of long) b v) ∙ ap (length_of lent) m
      in
      let t = shift_same b v s.left.seen s.merged in
      λ i.
      record {
        state =
            record {
              left = record { next = next; last = r i; seen = s.left.seen + length_same b i; cursors = behind_of b (t i) s.left.cursors };
              right = record { next = s.right.next; last = other_same b v i; seen = s.right.seen; cursors = s.right.cursors };
              merged = s.merged + l i;
              consumed = s.consumed + span_of (m i);
            };
        out = emitted side s.consumed (m i);
        cursors = moved_by b (t i) s.left.cursors;
      }

  turn_left_lem : (side : ℕ) (a : Op) (ls : List Op) (s : State) → turn_left (rules_of long) side a ls s ≡ turn_left (rules_of lent) side a ls s
  unfolding turn_left
  turn_left_lem side a ls s = turn_with_lem side s (front_of a s.right.next) (tail_of a s.right.next ls)

  turn_right_lem : (side : ℕ) (a : Op) (rs : List Op) (s : State) → turn_right (rules_of long) side a rs s ≡ turn_right (rules_of lent) side a rs s
  unfolding turn_right
  turn_right_lem side a rs s = ap (λ (t : Turned). record { state = turned t.state; out = t.out; cursors = t.cursors }) (turn_left_lem side a rs (turned s))

  -- what is spelled

  abbrev pub Reach : ℕ → ℕ → Type 0
  Reach f k = AllIn (length text) (tokens_from spans keys f k)

  spelled_same : (ts : List Token) → AllIn (length text) ts → spelled (text ++ more) ts ≡ spelled text ts
  unfolding AllIn spelled
  spelled_same [] h = refl
  spelled_same (t ∷ ts) h =
      rw (
        drop-append-le t.start text more (omega (arith, h.1.0)),
        take-append-le t.length (drop t.start text) more (omega (arith, h.1.0, length-drop t.start text)),
        spelled_same ts h.1.1,
      )

  content_same : (a b : Op) (ls rs : List Op) → Inserts Reach (a ∷ ls) → Inserts Reach (b ∷ rs) → content_rule long a b ≡ content_rule lent a b
  unfolding content_rule Inserts
  content_same (Delete o l) (Delete o' l') ls rs h g = refl
  content_same (Delete o l) (Insert o' f' n') ls rs h g = refl
  content_same (Delete o l) (Retain o' l') ls rs h g = refl
  content_same (Insert o f n) (Delete o' l') ls rs h g = refl
  content_same (Insert o f n) (Insert o' f' n') ls rs h g =
      λ i. compare_spelling (spelled_same (tokens_from spans keys f n) h.0 i) (spelled_same (tokens_from spans keys f' n') g.0 i)
  content_same (Insert o f n) (Retain o' l') ls rs h g = refl
  content_same (Retain o l) (Delete o' l') ls rs h g = refl
  content_same (Retain o l) (Insert o' f' n') ls rs h g = refl
  content_same (Retain o l) (Retain o' l') ls rs h g = refl

  order_same : (a b : Op) (ls rs : List Op) → Inserts Reach (a ∷ ls) → Inserts Reach (b ∷ rs) → order_rule long a b ≡ order_rule lent a b
  unfolding order_rule
  order_same a b ls rs h g =
      ap (λ (x : Ordering). ordering_then (nat_cmp (order_of a) (order_of b)) (ordering_then (nat_cmp (kind_of a) (kind_of b)) x)) (content_same a b ls rs h g)

  rest : (a : Op) (ls : List Op) → Inserts Reach (a ∷ ls) → Inserts Reach ls
  unfolding Inserts
  rest (Delete o l) ls h = h
  rest (Insert o f n) ls h = h.1
  rest (Retain o l) ls h = h

  priority_same : (ls rs : List Op) → Inserts Reach ls → Inserts Reach rs → priority_of long ls rs ≡ priority_of lent ls rs
  unfolding priority_of
  priority_same [] [] h g = refl
  priority_same [] (b ∷ rs) h g = refl
  priority_same (a ∷ ls) [] h g = refl
  priority_same (a ∷ ls) (b ∷ rs) h g = λ i. ordering_then (order_same a b ls rs h g i) (priority_same ls rs (rest a ls h) (rest b rs g) i)

  taken_same : (p : Ordering) (ls rs : List Op) → Inserts Reach ls → Inserts Reach rs → taken_of long p ls rs ≡ taken_of lent p ls rs
  unfolding taken_of goes_left
  taken_same p [] [] h g = refl
  taken_same p [] (b ∷ rs) h g = refl
  taken_same p (a ∷ ls) [] h g = refl
  taken_same p (a ∷ ls) (b ∷ rs) h g =
      ap (λ (x : Ordering). elim (is_lt (ordering_then x p)) as (λ (y : Bool). Taken) [ true ↦ from_left a ls | false ↦ from_right b rs ]) (order_same a b ls rs h g)

  -- the turns

  abbrev Runs : Ordering → ℕ → Type 0
  Runs p f = (s : State) → Inserts Reach s.left.next → Inserts Reach s.right.next → run (rules_of long) p f s ≡ run (rules_of lent) p f s

  run_turn : (p : Ordering) (f : ℕ) → Runs p f → Runs p (suc f)
  unfolding turn_left turn_right turn_with
  run_turn p f ih s h g = go (taken_of lent p s.left.next s.right.next) refl
    where
      e : taken_of long p s.left.next s.right.next ≡ taken_of lent p s.left.next s.right.next
      e = taken_same p s.left.next s.right.next h g

      go : (t : Taken) → taken_of lent p s.left.next s.right.next ≡ t → run (rules_of long) p (suc f) s ≡ run (rules_of lent) p (suc f) s
      go none k = run_none (rules_of long) p f s (e ∙ k) ∙ sym (run_none (rules_of lent) p f s k)
      go (from_left a ls) k =
          let n : s.left.next ≡ a ∷ ls = taken_is lent p s.left.next s.right.next (from_left a ls) k in
          let t = turn_left (rules_of lent) 0 a ls s in
          run_left (rules_of long) p f s a ls (e ∙ k)
          ∙ (ap (λ (x : Turned). before x (run (rules_of long) p f x.state)) (turn_left_lem 0 a ls s)
          ∙ (ap (before t) (ih t.state (asked_tail Reach a ls s.right.next (rw n at h)) g) ∙ sym (run_left (rules_of lent) p f s a ls k)))
      go (from_right b rs) k =
          let n : s.right.next ≡ b ∷ rs = taken_is lent p s.left.next s.right.next (from_right b rs) k in
          let t = turn_right (rules_of lent) 1 b rs s in
          run_right (rules_of long) p f s b rs (e ∙ k)
          ∙ (ap (λ (x : Turned). before x (run (rules_of long) p f x.state)) (turn_right_lem 1 b rs s)
          ∙ (ap (before t) (ih t.state h (asked_tail Reach b rs s.left.next (rw n at g))) ∙ sym (run_right (rules_of lent) p f s b rs k)))

  run_same : (p : Ordering) (f : ℕ) → Runs p f
  unfolding run
  run_same p zero s h g = refl
  run_same p (suc f) s h g = run_turn p f (run_same p f) s h g

  listed_same : (xs : List Out) → records_of long xs ≡ records_of lent xs
  unfolding records_of
  listed_same [] = refl
  listed_same (x ∷ xs) = λ i. one x.side x.op i ∷ listed_same xs i
    where
      one : (side : ℕ) (a : Op) → record_of long side a ≡ record_of lent side a
      one side (Delete o l) = refl
      one side (Insert o f n) = λ i. record { kind = 1; order = o; length = sum (lengths_same f n i); side = side; first = f; count = n }
      one side (Retain o l) = refl

  pub merge_same : (left right : List Operation) (cs ds : List Cursor) → Inserts Reach (ops_from 0 left) → Inserts Reach (ops_from 0 right)
      → merge_of (rules_of long) left right cs ds ≡ merge_of (rules_of lent) left right cs ds
  unfolding merge_of outcome_of
  merge_same left right cs ds h g =
      let ls : List Op = ops_from 0 left in
      let rs : List Op = ops_from 0 right in
      let e : outcome_of (rules_of long) ls rs cs ds ≡ outcome_of (rules_of lent) ls rs cs ds =
      ap (λ (p : Ordering). run (rules_of long) p (work ls + work rs) (start_of ls rs cs ds)) (priority_same ls rs h g)
      ∙ run_same (priority_of lent ls rs) (work ls + work rs) (start_of ls rs cs ds) h g
      in
      let r : records_of long (outcome_of (rules_of long) ls rs cs ds).outs ≡ records_of lent (outcome_of (rules_of lent) ls rs cs ds).outs =
      listed_same (outcome_of (rules_of long) ls rs cs ds).outs ∙ ap (λ (x : Outcome). records_of lent x.outs) e
      in
      λ i. record { operations = r i; cursors = sorted (e i).cursors }

  pub diff_same : (ls : List Op) → Inserts Reach ls → to_diff long ls ≡ to_diff lent ls
  unfolding to_diff Inserts
  diff_same [] h = refl
  diff_same (Delete o l ∷ ls) h = ap (λ (es : List Edit). delete l ∷ es) (diff_same ls h)
  diff_same (Insert o f n ∷ ls) h = λ i. insert (spelled_same (tokens_from spans keys f n) h.0 i) ∷ diff_same ls h.1 i
  diff_same (Retain o l ∷ ls) h = ap (joined l) (diff_same ls h)
