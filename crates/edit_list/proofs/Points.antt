-- Shown: a good text with good code points put into it is good.
-- How: being good is a property of each code point. Assumes nothing.
use mathlib.Core.Path.{◌≡◌, refl}
use mathlib.Core.Bool.{Bool, true, false, not, ◌&&◌}
use mathlib.Core.List.{List, [], ◌∷◌, ◌++◌}
use Prim.Native.Nat.{ℕ, zero, suc, ◌+◌}
use lib.ListN.{length, take, drop}
use lib.Dec.{leb}
use Rattle.room.specs.Placed.{placed}
use Rattle.room.proofs.Bools.{and_left, and_right}
use Rattle.refusal.specs.declared.Refusal.TheVariants.{CodePoint}
use Rattle.numbers.specs.Points.{is_point}
use Rattle.verdict.specs.Points.{points_from}
use Rattle.verdict.proofs.Chains.{went}
use Rattle.edit_format.specs.Items.{Item, Keep, Drop, Add, texts, all_points, items_good}
use Rattle.verdict.specs.Verdicts.{accepted}

unfoldable AllPoints : List ℕ → Type 0
AllPoints [] = Unit
AllPoints (c ∷ cs) = (is_point c ≡ true) × AllPoints cs

told : (cs : List ℕ) (i : ℕ) → points_from cs i ≡ accepted → AllPoints cs
unfolding points_from AllPoints
told [] i h = tt
told (c ∷ cs) i h = let w = went (is_point c) (points_from cs (i + 1)) (CodePoint i) h in (w.0, told cs (i + 1) w.1)

tells : (cs : List ℕ) (i : ℕ) → AllPoints cs → points_from cs i ≡ accepted
unfolding points_from AllPoints
tells [] i h = refl
tells (c ∷ cs) i h = rw (h.0, points_from) (tells cs (i + 1) h.1)

all_append : (cs ds : List ℕ) → AllPoints cs → AllPoints ds → AllPoints (cs ++ ds)
unfolding AllPoints
all_append [] ds h g = g
all_append (c ∷ cs) ds h g = (h.0, all_append cs ds h.1 g)

all_take : (n : ℕ) (cs : List ℕ) → AllPoints cs → AllPoints (take n cs)
unfolding AllPoints
all_take zero cs h = tt
all_take (suc n) [] h = tt
all_take (suc n) (c ∷ cs) h = (h.0, all_take n cs h.1)

all_drop : (n : ℕ) (cs : List ℕ) → AllPoints cs → AllPoints (drop n cs)
unfolding AllPoints
all_drop zero cs h = h
all_drop (suc n) [] h = tt
all_drop (suc n) (c ∷ cs) h = all_drop n cs h.1

all_points_lem : (cs : List ℕ) → all_points cs ≡ true → AllPoints cs
unfolding AllPoints all_points
all_points_lem [] h = tt
all_points_lem (c ∷ cs) h = (and_left (is_point c) (all_points cs) h, all_points_lem cs (and_right (is_point c) (all_points cs) h))

all_texts : (k : Bool) (is : List Item) → items_good k is ≡ true → AllPoints (texts is)
unfolding texts items_good AllPoints
all_texts k [] g = tt
all_texts k (Keep n ∷ is) g = all_texts true is (and_right (leb 1 n && not k) (items_good true is) g)
all_texts k (Drop n ∷ is) g = all_texts false is (and_right (leb 1 n) (items_good false is) g)
all_texts k (Add cs ∷ is) g =
    let h = and_left (leb 1 (length cs) && all_points cs) (items_good false is) g in
    all_append cs (texts is) (all_points_lem cs (and_right (leb 1 (length cs)) (all_points cs) h))
    (all_texts false is (and_right (leb 1 (length cs) && all_points cs) (items_good false is) g))

pub good_text : (d : List ℕ) (at : ℕ) (is : List Item) → points_from d 0 ≡ accepted → items_good false is ≡ true → points_from (placed d at (texts is)) 0 ≡ accepted
unfolding placed
good_text d at is h g =
    let a = told d 0 h in
    tells (take at d ++ texts is ++ drop (at + length (texts is)) d) 0
    (all_append (take at d ++ texts is) (drop (at + length (texts is)) d) (all_append (take at d) (texts is) (all_take at d a) (all_texts false is g))
    (all_drop (at + length (texts is)) d a))
