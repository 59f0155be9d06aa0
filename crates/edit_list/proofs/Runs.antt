-- Shown: what the raw list of good items is like: its sizes, its tokens' flags, and that each of its runs is a good raw operation.
-- How: by induction on the items. Assumes nothing.
use mathlib.Core.Path.{◌≡◌, refl, ap}
use mathlib.Core.Bool.{Bool, true, false, not, ◌&&◌}
use mathlib.Core.List.{List, [], ◌∷◌}
use Prim.Native.Nat.{ℕ, suc, ◌+◌, ◌≤◌, ◌<◌}
use native.Mathlib.Omega.{arith}
use lib.ListN.{length, length-append}
use lib.Dec.{leb}
use borrow.Author.Tests.{leb-true}
use Rattle.room.proofs.Bools.{and_left}
use Rattle.raw_lists.specs.Raws.{Piece, Run}
use Rattle.elongate.specs.Elongated.{pieces_length, all_tokens}
use Rattle.elongate.proofs.Lengths.{pieces_append}
use Rattle.edit_format.specs.Items.{Item, Keep, Drop, Add, kept, dropped, added, is_keep, items_good, all_points}
use Rattle.edit_format.specs.Records.{size}
use Rattle.edit_format.proofs.ReadBack.{good_rest}
use Rattle.edit_list.specs.Raws.{point_tokens, run_of, runs_of}
use Rattle.edit_list.specs.Steps.{AllSmall}
use Rattle.edit_list.proofs.Back.{Joins, AllJoin}

-- "token of length 0", "token .. outside what was lent": none is so, with n code points lent
unfoldable pub PiecesIn : ℕ → List Piece → Type 0
PiecesIn n [] = Unit
PiecesIn n (p ∷ ps) = (0 < p.length) × ((p.start + p.length ≤ n) × PiecesIn n ps)

pub record GoodRun (n : ℕ) (r : Run) : Type 0 where
  pub known : r.kind ≤ 2
  pub some : 0 < length r.tokens
  pub inside : PiecesIn n r.tokens

unfoldable pub AllRuns : ℕ → List Run → Type 0
AllRuns n [] = Unit
AllRuns n (r ∷ rs) = GoodRun n r × AllRuns n rs

-- the tokens of code points

pub points_length : (a : ℕ) (cs : List ℕ) → length (point_tokens a cs) ≡ length cs
unfolding point_tokens
points_length a [] = refl
points_length a (c ∷ cs) = ap suc (points_length (a + 1) cs)

pub points_size : (a : ℕ) (cs : List ℕ) → pieces_length (point_tokens a cs) ≡ length cs
unfolding point_tokens pieces_length
points_size a [] = refl
points_size a (c ∷ cs) = omega (arith, points_size (a + 1) cs)

points_join : (a : ℕ) (cs : List ℕ) → Joins (point_tokens a cs)
unfolding point_tokens Joins
points_join a [] = tt
points_join a (c ∷ cs) = (refl, points_join (a + 1) cs)

pub points_in : (a n : ℕ) (cs : List ℕ) → a + length cs ≤ n → PiecesIn n (point_tokens a cs)
unfolding point_tokens PiecesIn
points_in a n [] h = tt
points_in a n (c ∷ cs) h = (omega arith, (omega arith, points_in (a + 1) n cs (omega arith)))

-- the runs of items

pub runs_length : (at : ℕ) (is : List Item) → length (runs_of at is) ≡ length is
unfolding runs_of
runs_length at [] = refl
runs_length at (x ∷ is) = ap suc (runs_length (at + size x) is)

pub runs_join : (at : ℕ) (is : List Item) → AllJoin (runs_of at is)
unfolding runs_of run_of AllJoin Joins
runs_join at [] = tt
runs_join at (Keep n ∷ is) = ((refl, tt), runs_join (at + size (Keep n)) is)
runs_join at (Drop n ∷ is) = ((refl, tt), runs_join (at + size (Drop n)) is)
runs_join at (Add cs ∷ is) = (points_join at cs, runs_join (at + size (Add cs)) is)

pub runs_size : (at : ℕ) (is : List Item) → pieces_length (all_tokens (runs_of at is)) ≡ kept is + dropped is + added is
unfolding runs_of run_of all_tokens pieces_length kept dropped added
runs_size at [] = refl
runs_size at (Keep n ∷ is) = omega (arith, runs_size (at + size (Keep n)) is)
runs_size at (Drop n ∷ is) = omega (arith, runs_size (at + size (Drop n)) is)
runs_size at (Add cs ∷ is) =
    omega (arith, runs_size (at + size (Add cs)) is, pieces_append (point_tokens at cs) (all_tokens (runs_of (at + size (Add cs)) is)), points_size at cs)

pub runs_tokens : (at : ℕ) (is : List Item) → length (all_tokens (runs_of at is)) ≤ length is + added is
unfolding runs_of run_of all_tokens added
runs_tokens at [] = omega arith
runs_tokens at (Keep n ∷ is) = omega (arith, runs_tokens (at + size (Keep n)) is)
runs_tokens at (Drop n ∷ is) = omega (arith, runs_tokens (at + size (Drop n)) is)
runs_tokens at (Add cs ∷ is) =
    omega (arith, runs_tokens (at + size (Add cs)) is, length-append (point_tokens at cs) (all_tokens (runs_of (at + size (Add cs)) is)), points_length at cs)

pub runs_good : (n : ℕ) (k : Bool) (at : ℕ) (is : List Item) → items_good k is ≡ true → kept is + dropped is ≤ n → at + added is ≤ n → AllRuns n (runs_of at is)
unfolding runs_of run_of AllRuns PiecesIn is_keep items_good kept dropped added size
runs_good n k at [] g h l = tt
runs_good n k at (Keep m ∷ is) g h l =
    let p : 1 ≤ m = leb-true 1 m (and_left (leb 1 m) (not k) (and_left (leb 1 m && not k) (items_good true is) g)) in (
      record { known = omega arith; some = omega arith; inside = (omega arith, (omega arith, tt)) },
      runs_good n true (at + 0) is (good_rest k (Keep m) is g) (omega arith) (omega arith),
    )
runs_good n k at (Drop m ∷ is) g h l =
    let p : 1 ≤ m = leb-true 1 m (and_left (leb 1 m) (items_good false is) g) in (
      record { known = omega arith; some = omega arith; inside = (omega arith, (omega arith, tt)) },
      runs_good n false (at + 0) is (good_rest k (Drop m) is g) (omega arith) (omega arith),
    )
runs_good n k at (Add cs ∷ is) g h l =
    let p : 1 ≤ length cs = leb-true 1 (length cs)
    (and_left (leb 1 (length cs)) (all_points cs) (and_left (leb 1 (length cs) && all_points cs) (items_good false is) g)) in (
      record { known = omega arith; some = omega (arith, points_length at cs); inside = points_in at n cs (omega arith) },
      runs_good n false (at + length cs) is (good_rest k (Add cs) is g) (omega arith) (omega arith),
    )

pub runs_small : (n : ℕ) (rs : List Run) → AllRuns n rs → pieces_length (all_tokens rs) ≤ 131070 → AllSmall rs
unfolding AllRuns AllSmall all_tokens
runs_small n [] g h = tt
runs_small n (r ∷ rs) g h =
    let e = pieces_append r.tokens (all_tokens rs) in
    (record { known = g.0.known; small = omega (arith, e) }, runs_small n rs g.1 (omega (arith, e)))
