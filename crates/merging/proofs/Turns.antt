-- Shown: what holds of each turn of a good state holds of the whole run (`shows`); and any fuel that is enough gives the same run.
-- How: a turn of the right is a turn of the left with the sides exchanged, so that a law is shown for the left alone. The fuel falls with every turn: a cut leaves less of a retain.
use Prim.Native.Nat.{ℕ, zero, suc, ◌+◌, max, ◌≤◌, ◌<◌}
use mathlib.Core.Path.{◌≡◌, refl, sym, ◌∙◌, ap, subst}
use mathlib.Core.Bool.{Bool, true, false}
use mathlib.Core.Logic.{⊎_elim}
use mathlib.Core.List.{List, [], ◌∷◌}
use native.Mathlib.Omega.{arith}
use native.Mathlib.Decide.{dec_lt}
use lib.Dec.{ltb}
use borrow.Author.Tests.{lt-ltb, le-ltb}
use Rattle.records.specs.declared.Cursor.{Cursor}
use Rattle.merging.specs.declared.Op.{Op}
use Rattle.merging.specs.declared.Op.TheVariants.{Delete, Insert, Retain}
use Rattle.std.specs.Ordering.{nat_cmp}
use Rattle.std.proofs.lemmas.Bool.Decides.{nat_tests}
use Rattle.std.specs.declared.cmp.Ordering.{Ordering}
use Rattle.std.specs.declared.cmp.Ordering.TheVariants.{Less, Equal, Greater}
use Rattle.merging.specs.Lent.{Lent, Rules}
use Rattle.merging.specs.Operations.{order_of, kind_of, span_of}
use Rattle.merging.specs.OrderRule.{order_rule, goes_left, priority_of}
use Rattle.merging.specs.Meeting.{kept_length, cut_at_end, front_of, tail_of, behind_cut, met_of}
use Rattle.merging.specs.Turn.{State, turned, turn_with, turn_left, turn_right, Taken, none, from_left, from_right, taken_of, step_of}
use Rattle.merging.specs.Merge.{Outcome, leftovers, before, run, work, start_of, outcome_of}
use Rattle.merging.specs.Tiling.{Tiled}
use Rattle.merging.proofs.OneTurn.{Good, turned_round, Ahead, Emits, StepOf, stepped, place_after, tiled_le, starts, cut_some}

-- the order rule looks at the orders first, then at the kinds

-- a goes no later than b
pub record Before (a b : Op) : Type 0 where
  pub order : order_of a ≤ order_of b
  pub kind : order_of a ≡ order_of b → kind_of a ≤ kind_of b

numbers_less : (a b : ℕ) → a < b → nat_cmp a b ≡ Less
numbers_less a b h = grind (arith, nat_tests)

numbers_more : (a b : ℕ) → b < a → nat_cmp a b ≡ Greater
numbers_more a b h = grind (arith, nat_tests)

numbers_same : (a b : ℕ) → a ≡ b → nat_cmp a b ≡ Equal
numbers_same a b h = grind (arith, nat_tests)

-- by which of two numbers is less
pub by_order : (a b : ℕ) (P : Type 0) → (a < b → P) → (a ≡ b → P) → (b < a → P) → P
by_order a b P f g h = elim (dec_lt a b) [ yes z ↦ f z | no z ↦ elim (dec_lt b a) [ yes w ↦ h w | no w ↦ g (omega arith) ] ]

module _ (lent : Lent) (priority : Ordering) (a b : Op) where
  -- what goes first, by whether the left goes
  abbrev First : Bool → Type 0
  First true = Before a b
  First false = Before b a

  first : First (goes_left lent priority a b)
  unfolding goes_left order_rule
  first =
      by_order (order_of a) (order_of b) (First (goes_left lent priority a b))
      (λ z. rw (numbers_less _ _ z) (record { order = omega arith; kind = λ w. absurd (omega arith) }))
      (λ z. by_order (kind_of a) (kind_of b) (First (goes_left lent priority a b))
      (λ w. rw (numbers_same _ _ z, numbers_less _ _ w) (record { order = omega arith; kind = λ v. omega arith }))
      (λ w. either z w (goes_left lent priority a b))
      (λ w. rw (numbers_same _ _ z, numbers_more _ _ w) (record { order = omega arith; kind = λ v. omega arith })))
      (λ z. rw (numbers_more _ _ z) (record { order = omega arith; kind = λ w. absurd (omega arith) }))
    where
      either : order_of a ≡ order_of b → kind_of a ≡ kind_of b → (t : Bool) → First t
      either z w true = record { order = omega arith; kind = λ v. omega arith }
      either z w false = record { order = omega arith; kind = λ v. omega arith }

-- what is known of the side that is taken: a is its next operation, ls stands behind it; the other side has ys next
pub record Takes (a : Op) (ls xs ys : List Op) (p q : ℕ) : Type 0 where
  pub is : xs ≡ a ∷ ls
  pub le : p ≤ q
  pub ahead : p ≡ q → Ahead a ys

-- by what is taken
abbrev TakenBy : Taken → List Op → List Op → ℕ → ℕ → Type 0
TakenBy none xs ys p q = (xs ≡ []) × (ys ≡ [])
TakenBy (from_left a ls) xs ys p q = Takes a ls xs ys p q
TakenBy (from_right b rs) xs ys p q = Takes b rs ys xs q p

module _ (lent : Lent) (priority : Ordering) (n : ℕ) where
  takes_first : (a x : Op) (ls rs : List Op) (p q : ℕ) → Tiled (a ∷ ls) p n → Tiled (x ∷ rs) q n → Before a x → Takes a ls (a ∷ ls) (x ∷ rs) p q
  takes_first a x ls rs p q tx ty b =
      record { is = refl; le = omega (arith, starts a ls p n tx, starts x rs q n ty, b.order); ahead = λ e. b.kind (omega (arith, starts a ls p n tx, starts x rs q n ty)) }

  takes_last : (a : Op) (ls : List Op) (p q : ℕ) → Tiled (a ∷ ls) p n → q ≡ n → Takes a ls (a ∷ ls) [] p q
  takes_last a ls p q tx e = record { is = refl; le = omega (arith, tiled_le (a ∷ ls) p n tx); ahead = λ z. tt }

  takes : (xs ys : List Op) (p q : ℕ) → Tiled xs p n → Tiled ys q n → TakenBy (taken_of lent priority xs ys) xs ys p q
  unfolding taken_of
  takes [] [] p q tx ty = (refl, refl)
  takes [] (x ∷ rs) p q tx ty = takes_last x rs q p ty tx
  takes (b ∷ bs) [] p q tx ty = takes_last b bs p q tx ty
  takes (b ∷ bs) (x ∷ rs) p q tx ty = go (goes_left lent priority b x) (first lent priority b x)
    where
      go : (t : Bool) → First lent priority b x t → TakenBy (elim t [ true ↦ from_left b bs | false ↦ from_right x rs ]) (b ∷ bs) (x ∷ rs) p q
      go true h = takes_first b x bs rs p q tx ty h
      go false h = takes_first x b rs bs q p ty tx h

-- a cut leaves less
kept_less : (o l : ℕ) (rs : List Op) → kept_length o l rs < l → 0 < kept_length o l rs
unfolding kept_length
kept_less o l [] h = absurd (omega arith)
kept_less o l (x ∷ rs) h = go (ltb o (order_of x)) refl
  where
    at_end : (x : Op) → 0 < l → 0 < cut_at_end o l x
    at_end (Delete o' l') = cut_some o l (o' + l')
    at_end (Insert o' f' k') = λ g. g
    at_end (Retain o' l') = cut_some o l (o' + l')

    go : (t : Bool) → ltb o (order_of x) ≡ t → 0 < kept_length o l (x ∷ rs)
    go true e = rw (e, kept_length) (cut_some o l (order_of x) (omega arith))
    go false e = rw (e, kept_length) (at_end x (omega arith))

behind_less : (o l k : ℕ) (ls : List Op) → (k < l → 0 < k) → work (behind_cut o l k ls) ≤ l + work ls
unfolding behind_cut work
behind_less o l k ls h =
    elim (dec_lt k l) [ yes z ↦ rw (lt-ltb k l z, behind_cut) (omega (arith, h z)) | no z ↦ rw (le-ltb k l (omega arith), behind_cut) (omega arith) ]

pub work_less : (a : Op) (rs ls : List Op) → work (tail_of a rs ls) < work (a ∷ ls)
unfolding work
work_less (Delete o l) rs ls = omega arith
work_less (Insert o f k) rs ls = omega arith
work_less (Retain o l) rs ls = omega (arith, behind_less o l (kept_length o l rs) ls (kept_less o l rs))

work_none : (ls : List Op) → work ls ≤ 0 → ls ≡ []
unfolding work
work_none [] h = refl
work_none (a ∷ ls) h = absurd (omega arith)

-- where a run stands
module _ (R : Rules) (priority : Ordering) (f : ℕ) (s : State) where
  run_zero : run R priority zero s ≡ record { outs = []; cursors = leftovers s }
  unfolding run
  run_zero = refl

  pub run_none : taken_of R.lent priority s.left.next s.right.next ≡ none → run R priority (suc f) s ≡ record { outs = []; cursors = leftovers s }
  unfolding run step_of
  run_none e = rw (e, run, step_of)

  pub run_left : (a : Op) (ls : List Op) → taken_of R.lent priority s.left.next s.right.next ≡ from_left a ls
      → run R priority (suc f) s ≡ before (turn_left R 0 a ls s) (run R priority f (turn_left R 0 a ls s).state)
  unfolding run step_of
  run_left a ls e = rw (e, run, step_of)

  pub run_right : (b : Op) (rs : List Op) → taken_of R.lent priority s.left.next s.right.next ≡ from_right b rs
      → run R priority (suc f) s ≡ before (turn_right R 1 b rs s) (run R priority f (turn_right R 1 b rs s).state)
  unfolding run step_of
  run_right b rs e = rw (e, run, step_of)

-- a state between two turns: the sides stand at p and q of an original of n code points
pub record Stands (s : State) (p q n : ℕ) : Type 0 where
  pub good : Good s.left.last s.left.next s.right.last s.right.next p q n
  pub at : s.consumed ≡ max p q

pub stands_turned : (s : State) (p q n : ℕ) → Stands s p q n → Stands (turned s) q p n
stands_turned s p q n g = record { good = turned_round g.good; at = omega (arith, g.at) }

-- a state with no turn left
pub record Done (s : State) (p q n : ℕ) : Type 0 where
  pub left : s.left.next ≡ []
  pub right : s.right.next ≡ []
  pub ends : (p ≡ n) × (q ≡ n)
  pub at : s.consumed ≡ n

-- a state whose left side is taken, with a next
pub record Turning (s : State) (a : Op) (ls : List Op) (p q n : ℕ) : Type 0 where
  pub good : Good s.left.last (a ∷ ls) s.right.last s.right.next p q n
  pub next : s.left.next ≡ a ∷ ls
  pub le : p ≤ q
  pub ahead : p ≡ q → Ahead a s.right.next
  pub at : s.consumed ≡ q

turning : (s : State) (a : Op) (ls : List Op) (p q n : ℕ) → Stands s p q n → Takes a ls s.left.next s.right.next p q → Turning s a ls p q n
turning s a ls p q n g k = record { good = rw k.is at g.good; next = k.is; le = k.le; ahead = k.ahead; at = omega (arith, g.at, k.le) }

-- the turn of the side that is taken, one of the right with the sides exchanged; or there is none left
abbrev pub TurningBy : Taken → State → ℕ → ℕ → ℕ → Type 0
TurningBy none s p q n = (s.left.next ≡ []) × (s.right.next ≡ [])
TurningBy (from_left a ls) s p q n = Turning s a ls p q n
TurningBy (from_right b rs) s p q n = Turning (turned s) b rs q p n

module _ (lent : Lent) (priority : Ordering) (s : State) (p q n : ℕ) (g : Stands s p q n) where
  pub turning_by : (t : Taken) → taken_of lent priority s.left.next s.right.next ≡ t → TurningBy t s p q n
  turning_by t e = go t (subst (λ (u : Taken). TakenBy u s.left.next s.right.next p q) e (takes lent priority n s.left.next s.right.next p q g.good.tiled_l g.good.tiled_r))
    where
      go : (t : Taken) → TakenBy t s.left.next s.right.next p q → TurningBy t s p q n
      go none k = k
      go (from_left a ls) k = turning s a ls p q n g k
      go (from_right b rs) k = turning (turned s) b rs q p n (stands_turned s p q n g) k

pub turn_step : (R : Rules) (s : State) (a : Op) (ls : List Op) (p q n : ℕ) → Turning s a ls p q n → StepOf R a ls s.left.last s.right.last s.right.next q n
turn_step R s a ls p q n g = stepped R a s.left.last ls s.right.last s.right.next p q n g.good g.le g.ahead

-- what is emitted of the original starts where the merged list stands
emits_at : (m : Op) (at q : ℕ) → Emits m at q → q + span_of m ≡ max at q
emits_at (Delete o l) at q e = ⊎_elim (λ w. omega arith) (λ w. omega arith) e
emits_at (Insert o f k) at q e = omega arith
emits_at (Retain o l) at q e = ⊎_elim (λ w. omega arith) (λ w. omega arith) e

pub stands_next : (R : Rules) (side : ℕ) (s : State) (a : Op) (ls : List Op) (p q n : ℕ) → Turning s a ls p q n
    → Stands (turn_left R side a ls s).state (place_after a s.right.next) q n
unfolding turn_left turn_with
stands_next R side s a ls p q n g =
    let st = turn_step R s a ls p q n g in
    record { good = st.good; at = omega (arith, emits_at (met_of R (front_of a s.right.next) s.right.last) (place_after a s.right.next) q st.out, g.at) }

-- two lists that tile the original
pub stands_start : (ls rs : List Op) (cs ds : List Cursor) (n : ℕ) → Tiled ls 0 n → Tiled rs 0 n → Stands (start_of ls rs cs ds) 0 0 n
stands_start ls rs cs ds n tl tr =
    record {
      good = record { tiled_l = tl; tiled_r = tr; ends_l = refl; ends_r = refl; held_l = λ h. absurd (omega arith); held_r = λ h. absurd (omega arith) };
      at = refl;
    }

module _ (R : Rules) (priority : Ordering) (n : ℕ) (P : State → ℕ → ℕ → Outcome → Type 0)
    (swap : (s : State) (p q : ℕ) (o : Outcome) → P s p q o → P (turned s) q p o)
    (atEnd : (s : State) (p q : ℕ) → Done s p q n → P s p q (record { outs = []; cursors = leftovers s }))
    (atTurn : (side : ℕ) → side < 2 → (s : State) (a : Op) (ls : List Op) (p q : ℕ) (o : Outcome) → Turning s a ls p q n
    → P (turn_left R side a ls s).state (place_after a s.right.next) q o → P s p q (before (turn_left R side a ls s) o))
  where
    abbrev Shows : ℕ → Type 0
    Shows f = (s : State) (p q : ℕ) → Stands s p q n → work s.left.next + work s.right.next ≤ f → P s p q (run R priority f s)

    shows_end : (s : State) (p q : ℕ) → Stands s p q n → (s.left.next ≡ []) × (s.right.next ≡ []) → P s p q (record { outs = []; cursors = leftovers s })
    shows_end s p q g e =
        let tl : Tiled [] p n = rw e.0 at g.good.tiled_l in
        let tr : Tiled [] q n = rw e.1 at g.good.tiled_r in
        atEnd s p q (record { left = e.0; right = e.1; ends = (tl, tr); at = omega (arith, g.at) })

    shows_left : (f : ℕ) → Shows f → (s : State) (p q : ℕ) (a : Op) (ls : List Op) → Turning s a ls p q n
        → work s.left.next + work s.right.next ≤ suc f
        → P s p q (before (turn_left R 0 a ls s) (run R priority f (turn_left R 0 a ls s).state))
    unfolding turn_left turn_with
    shows_left f ih s p q a ls g h =
        atTurn 0 (omega arith) s a ls p q (run R priority f (turn_left R 0 a ls s).state) g
        (ih (turn_left R 0 a ls s).state (place_after a s.right.next) q (stands_next R 0 s a ls p q n g)
        (omega (arith, work_less a s.right.next ls, ap work g.next)))

    shows_right : (f : ℕ) → Shows f → (s : State) (p q : ℕ) (b : Op) (rs : List Op) → Turning (turned s) b rs q p n
        → work s.left.next + work s.right.next ≤ suc f
        → P s p q (before (turn_right R 1 b rs s) (run R priority f (turn_right R 1 b rs s).state))
    unfolding turn_left turn_with turn_right
    shows_right f ih s p q b rs g h =
        let t = turn_left R 1 b rs (turned s) in
        let o = run R priority f (turned t.state) in
        swap (turned s) q p (before t o)
        (atTurn 1 (omega arith) (turned s) b rs q p o g
        (swap (turned t.state) p (place_after b s.left.next) o
        (ih (turned t.state) p (place_after b s.left.next)
        (stands_turned t.state (place_after b s.left.next) p n (stands_next R 1 (turned s) b rs q p n g))
        (omega (arith, work_less b s.left.next rs, ap work g.next)))))

    shows_turn : (f : ℕ) → Shows f → Shows (suc f)
    shows_turn f ih s p q g h = go (taken_of R.lent priority s.left.next s.right.next) refl
      where
        go : (t : Taken) → taken_of R.lent priority s.left.next s.right.next ≡ t → P s p q (run R priority (suc f) s)
        go none e = rw (run_none R priority f s e) (shows_end s p q g (turning_by R.lent priority s p q n g none e))
        go (from_left a ls) e = rw (run_left R priority f s a ls e) (shows_left f ih s p q a ls (turning_by R.lent priority s p q n g (from_left a ls) e) h)
        go (from_right b rs) e = rw (run_right R priority f s b rs e) (shows_right f ih s p q b rs (turning_by R.lent priority s p q n g (from_right b rs) e) h)

    pub shows : (f : ℕ) → Shows f
    shows zero s p q g h = rw (run_zero R priority 0 s) (shows_end s p q g (work_none s.left.next (omega arith), work_none s.right.next (omega arith)))
    shows (suc f) s p q g h = shows_turn f (shows f) s p q g h

-- what is next, by what is taken
abbrev pub Next : Taken → List Op → List Op → Type 0
Next none xs ys = Unit {0}
Next (from_left a ls) xs ys = xs ≡ a ∷ ls
Next (from_right b rs) xs ys = ys ≡ b ∷ rs

run_empty : (R : Rules) (priority : Ordering) (f : ℕ) (s : State) → work s.left.next + work s.right.next ≤ 0
    → run R priority (suc f) s ≡ record { outs = []; cursors = leftovers s }
unfolding taken_of
run_empty R priority f s h =
    let l : s.left.next ≡ [] = work_none s.left.next (omega arith) in
    let r : s.right.next ≡ [] = work_none s.right.next (omega arith) in
    run_none R priority f s (rw (l, r))

-- the work that a turn leaves
pub left_less : (R : Rules) (side : ℕ) (s : State) (a : Op) (ls : List Op) → s.left.next ≡ a ∷ ls
    → work (turn_left R side a ls s).state.left.next + work (turn_left R side a ls s).state.right.next < work s.left.next + work s.right.next
unfolding turn_left turn_with
left_less R side s a ls e = omega (arith, work_less a s.right.next ls, ap work e)

pub right_less : (R : Rules) (side : ℕ) (s : State) (b : Op) (rs : List Op) → s.right.next ≡ b ∷ rs
    → work (turn_right R side b rs s).state.left.next + work (turn_right R side b rs s).state.right.next < work s.left.next + work s.right.next
unfolding turn_right
right_less R side s b rs e = omega (arith, left_less R side (turned s) b rs e)

pub taken_is : (lent : Lent) (priority : Ordering) (xs ys : List Op) (t : Taken) → taken_of lent priority xs ys ≡ t → Next t xs ys
unfolding taken_of
taken_is lent priority [] [] t e = rw (← e) tt
taken_is lent priority [] (x ∷ ys) t e = rw (← e) refl
taken_is lent priority (b ∷ bs) [] t e = rw (← e) refl
taken_is lent priority (b ∷ bs) (x ∷ ys) t e = subst (λ (u : Taken). Next u (b ∷ bs) (x ∷ ys)) e (go (goes_left lent priority b x))
  where
    go : (u : Bool) → Next (elim u [ true ↦ from_left b bs | false ↦ from_right x ys ]) (b ∷ bs) (x ∷ ys)
    go true = refl
    go false = refl

fuel_turn : (R : Rules) (priority : Ordering) (f g : ℕ) (s : State) → work s.left.next + work s.right.next ≤ suc f
    → work s.left.next + work s.right.next ≤ suc g
    → ((t : State) → work t.left.next + work t.right.next ≤ f → work t.left.next + work t.right.next ≤ g → run R priority f t ≡ run R priority g t)
    → run R priority (suc f) s ≡ run R priority (suc g) s
fuel_turn R priority f g s hf hg ih = go (taken_of R.lent priority s.left.next s.right.next) refl
  where
    go : (t : Taken) → taken_of R.lent priority s.left.next s.right.next ≡ t → run R priority (suc f) s ≡ run R priority (suc g) s
    go none e = run_none R priority f s e ∙ sym (run_none R priority g s e)
    go (from_left a ls) e =
        let h = left_less R 0 s a ls (taken_is R.lent priority s.left.next s.right.next (from_left a ls) e) in
        let t = turn_left R 0 a ls s in
        run_left R priority f s a ls e ∙ (ap (before t) (ih t.state (omega arith) (omega arith)) ∙ sym (run_left R priority g s a ls e))
    go (from_right b rs) e =
        let h = right_less R 1 s b rs (taken_is R.lent priority s.left.next s.right.next (from_right b rs) e) in
        let t = turn_right R 1 b rs s in
        run_right R priority f s b rs e ∙ (ap (before t) (ih t.state (omega arith) (omega arith)) ∙ sym (run_right R priority g s b rs e))

-- more fuel than the work asks changes nothing
pub fuel : (R : Rules) (priority : Ordering) (f g : ℕ) (s : State) → work s.left.next + work s.right.next ≤ f
    → work s.left.next + work s.right.next ≤ g → run R priority f s ≡ run R priority g s
fuel R priority zero zero s hf hg = refl
fuel R priority zero (suc g) s hf hg = run_zero R priority 0 s ∙ sym (run_empty R priority g s hf)
fuel R priority (suc f) zero s hf hg = run_empty R priority f s hg ∙ sym (run_zero R priority 0 s)
fuel R priority (suc f) (suc g) s hf hg = fuel_turn R priority f g s hf hg (λ t. fuel R priority f g t)

-- the merge's own fuel is enough
pub enough : (R : Rules) (ls rs : List Op) (cs ds : List Cursor) (f : ℕ) → work ls + work rs ≤ f
    → run R (priority_of R.lent ls rs) f (start_of ls rs cs ds) ≡ outcome_of R ls rs cs ds
unfolding outcome_of
enough R ls rs cs ds f h = fuel R (priority_of R.lent ls rs) f (work ls + work rs) (start_of ls rs cs ds) h (omega arith)
