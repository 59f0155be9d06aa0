-- Shown: what a turn does to the cursors of its side: those that move keep their order and stay between the bounds that are known of the turn, and all keep their identity numbers; two sides' cursors that are woven together stay so when sorted.
-- How: by induction on the cursors.
use Prim.Native.Nat.{ℕ, ◌+◌, ◌≤◌, ◌<◌}
use mathlib.Core.Path.{◌≡◌, refl, ap}
use mathlib.Core.List.{List, [], ◌∷◌, ◌++◌}
use mathlib.Core.Logic.{⊎_elim}
use native.Mathlib.Omega.{arith}
use Rattle.records.specs.declared.Cursor.{Cursor}
use Rattle.cursors.specs.Sorted.{place, sorted, From, Ordered}
use Rattle.cursors.proofs.SortLaws.{from_less}
use Rattle.numbers.proofs.Orders.{le_or_lt}
use Rattle.cursors.proofs.Sinks.{place_here, place_on}
use Rattle.merging.specs.declared.Shift.{Shift}
use Rattle.merging.specs.Cursors.{Fine, moved_index, moved, behind, ended}
use Rattle.records.specs.Cursors.{Within}
use Rattle.merging.specs.Carried.{identities, Woven, woven_none, woven_left, woven_right}
use Rattle.merging.proofs.Moving.{moved_on, moved_out, behind_on, behind_out, index_from, index_order}

-- bounds and order of lists of cursors

pub up_more : {j k : ℕ} (cs : List Cursor) → j ≤ k → Within j cs → Within k cs
unfolding Within
up_more [] h u = tt
up_more (c ∷ cs) h u = (omega (arith, u.0), up_more cs h u.1)

pub up_append : (k : ℕ) (cs ds : List Cursor) → Within k cs → Within k ds → Within k (cs ++ ds)
unfolding Within
up_append k [] ds u w = w
up_append k (c ∷ cs) ds u w = (u.0, up_append k cs ds u.1 w)

pub from_append : (k : ℕ) (cs ds : List Cursor) → From k cs → From k ds → From k (cs ++ ds)
unfolding From
from_append k [] ds u w = w
from_append k (c ∷ cs) ds u w = (u.0, from_append k cs ds u.1 w)

pub ordered_append : (k : ℕ) (cs ds : List Cursor) → Ordered cs → Within k cs → From k ds → Ordered ds → Ordered (cs ++ ds)
unfolding Ordered Within From
ordered_append k [] ds o u f w = w
ordered_append k (c ∷ cs) ds o u f w = (from_append c.index cs ds o.0 (from_less ds u.0 f), ordered_append k cs ds o.1 u.1 f w)

pub identities_append : (cs ds : List Cursor) → identities (cs ++ ds) ≡ identities cs ++ identities ds
unfolding identities
identities_append [] ds = refl
identities_append (c ∷ cs) ds = ap (λ (xs : List ℕ). c.identity ∷ xs) (identities_append cs ds)

-- the cursors at the end

module _ (e : ℕ) where
  pub identities_ended : (cs : List Cursor) → identities (ended e cs) ≡ identities cs
  unfolding identities ended
  identities_ended [] = refl
  identities_ended (c ∷ cs) = ap (λ (xs : List ℕ). c.identity ∷ xs) (identities_ended cs)

  pub up_ended : (cs : List Cursor) → Within e (ended e cs)
  unfolding Within ended
  up_ended [] = tt
  up_ended (c ∷ cs) = (omega arith, up_ended cs)

  pub from_ended : (h : ℕ) → h ≤ e → (cs : List Cursor) → From h (ended e cs)
  unfolding From ended
  from_ended h le [] = tt
  from_ended h le (c ∷ cs) = (le, from_ended h le cs)

  pub ordered_ended : (cs : List Cursor) → Ordered (ended e cs)
  unfolding Ordered ended
  ordered_ended [] = tt
  ordered_ended (c ∷ cs) = (from_ended e (omega arith) cs, ordered_ended cs)

-- the cursors that move, and those behind them

module _ (t : Shift) where
  -- by whether the first cursor moves
  by_move : (c : Cursor) (P : Type 0) → (c.index ≤ t.seen + t.length → P) → (t.seen + t.length < c.index → P) → P
  by_move c P f g = ⊎_elim f g (le_or_lt c.index (t.seen + t.length))

  pub identities_moved : (cs : List Cursor) → identities (moved t cs) ++ identities (behind t cs) ≡ identities cs
  unfolding identities moved behind
  identities_moved [] = refl
  identities_moved (c ∷ cs) =
      by_move c (identities (moved t (c ∷ cs)) ++ identities (behind t (c ∷ cs)) ≡ identities (c ∷ cs))
      (λ h. rw (moved_on t c cs h, behind_on t c cs h) (ap (λ (xs : List ℕ). c.identity ∷ xs) (identities_moved cs)))
      (λ h. rw (moved_out t c cs h, behind_out t c cs h))

  pub ordered_behind : (cs : List Cursor) → Ordered cs → Ordered (behind t cs)
  unfolding Ordered behind
  ordered_behind [] o = tt
  ordered_behind (c ∷ cs) o =
      by_move c (Ordered (behind t (c ∷ cs))) (λ h. rw (behind_on t c cs h) (ordered_behind cs o.1)) (λ h. rw (behind_out t c cs h) o)

  module _ (f : Fine t) where
    pub from_moved : (cs : List Cursor) → From t.start (moved t cs)
    unfolding From moved
    from_moved [] = tt
    from_moved (c ∷ cs) =
        by_move c (From t.start (moved t (c ∷ cs))) (λ h. rw (moved_on t c cs h) (index_from t f c.index, from_moved cs)) (λ h. rw (moved_out t c cs h) tt)

    pub up_moved : (top : ℕ) → ((i : ℕ) → i ≤ t.seen + t.length → moved_index t i ≤ top) → (cs : List Cursor) → Within top (moved t cs)
    unfolding Within moved
    up_moved top cap [] = tt
    up_moved top cap (c ∷ cs) =
        by_move c (Within top (moved t (c ∷ cs))) (λ h. rw (moved_on t c cs h) (cap c.index h, up_moved top cap cs)) (λ h. rw (moved_out t c cs h) tt)

    -- none that moves goes before one that stood before it
    from_order : (k : ℕ) (cs : List Cursor) → From k cs → From (moved_index t k) (moved t cs)
    unfolding From moved
    from_order k [] g = tt
    from_order k (c ∷ cs) g =
        by_move c (From (moved_index t k) (moved t (c ∷ cs)))
        (λ h. rw (moved_on t c cs h) (index_order t f k c.index g.0, from_order k cs g.1))
        (λ h. rw (moved_out t c cs h) tt)

    pub ordered_moved : (cs : List Cursor) → Ordered cs → Ordered (moved t cs)
    unfolding Ordered moved
    ordered_moved [] o = tt
    ordered_moved (c ∷ cs) o =
        by_move c (Ordered (moved t (c ∷ cs))) (λ h. rw (moved_on t c cs h) (from_order c.index cs o.0, ordered_moved cs o.1))
        (λ h. rw (moved_out t c cs h) tt)

-- two lists woven into one

pub woven_swap : {xs ys zs : List Cursor} → Woven xs ys zs → Woven ys xs zs
woven_swap woven_none = woven_none
woven_swap (woven_left c w) = woven_right c (woven_swap w)
woven_swap (woven_right c w) = woven_left c (woven_swap w)

-- in front of the left one
pub woven_front : (cs : List Cursor) {xs ys zs : List Cursor} → Woven xs ys zs → Woven (cs ++ xs) ys (cs ++ zs)
woven_front [] w = w
woven_front (c ∷ cs) w = woven_left c (woven_front cs w)

-- all of the right one behind the left one
pub woven_behind : (xs ys : List Cursor) → Woven xs ys (xs ++ ys)
woven_behind [] [] = woven_none
woven_behind [] (y ∷ ys) = woven_right y (woven_behind [] ys)
woven_behind (x ∷ xs) ys = woven_left x (woven_behind xs ys)

-- a cursor that goes before all of the left one stays before them
place_left : (c : Cursor) {xs ys zs : List Cursor} → Woven xs ys zs → From c.index xs → Woven (c ∷ xs) ys (place c zs)
unfolding place From
place_left c woven_none f = woven_left c woven_none
place_left c (woven_left {zs = zs} x w) f = rw (place_here c x zs f.0) (woven_left c (woven_left x w))
place_left c (woven_right {zs = zs} y w) f =
    ⊎_elim (λ h. rw (place_here c y zs h) (woven_left c (woven_right y w))) (λ h. rw (place_on c y zs h) (woven_right y (place_left c w f)))
    (le_or_lt c.index y.index)

-- sorting what is woven of two ordered lists keeps both
pub woven_sorted : {xs ys zs : List Cursor} → Woven xs ys zs → Ordered xs → Ordered ys → Woven xs ys (sorted zs)
unfolding sorted Ordered
woven_sorted woven_none o p = woven_none
woven_sorted (woven_left c w) o p = place_left c (woven_sorted w o.1 p) o.0
woven_sorted (woven_right c w) o p = woven_swap (place_left c (woven_swap (woven_sorted w o p.1)) p.0)

-- sorting moves no cursor
up_place : (k : ℕ) (c : Cursor) (ys : List Cursor) → c.index ≤ k → Within k ys → Within k (place c ys)
unfolding Within place
up_place k c [] h u = (h, tt)
up_place k c (y ∷ ys) h u =
    ⊎_elim (λ g. rw (place_here c y ys g) (h, u)) (λ g. rw (place_on c y ys g) (u.0, up_place k c ys h u.1)) (le_or_lt c.index y.index)

pub up_sorted : (k : ℕ) (cs : List Cursor) → Within k cs → Within k (sorted cs)
unfolding Within sorted
up_sorted k [] u = tt
up_sorted k (c ∷ cs) u = up_place k c (sorted cs) u.0 (up_sorted k cs u.1)
