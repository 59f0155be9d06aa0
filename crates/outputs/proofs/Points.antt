-- Shown: the parts of a text of code points, and what tokens spell over it, are of code points.
-- How: by induction on the text. Assumes nothing.
use Prim.Native.Nat.{ℕ, zero, suc}
use mathlib.Core.Path.{◌≡◌, refl}
use mathlib.Core.Bool.{true}
use mathlib.Core.List.{List, [], ◌∷◌}
use lib.ListN.{take, drop}
use Rattle.room.proofs.Bools.{and_left, and_right}
use Rattle.records.specs.declared.Token.{Token}
use Rattle.records.specs.Tokens.{spell, spelled}
use Rattle.numbers.specs.Points.{is_point}
use Rattle.edit_format.specs.Items.{all_points}
use Rattle.edit_write.proofs.Rewriting.{points_append}

-- the parts of a text
points_range : (s n : ℕ) (t : List ℕ) → all_points t ≡ true → all_points (take n (drop s t)) ≡ true
unfolding all_points
points_range zero zero t h = refl
points_range zero (suc n) [] h = refl
points_range zero (suc n) (c ∷ t) h = rw (and_left (is_point c) (all_points t) h) (points_range zero n t (and_right (is_point c) (all_points t) h))
points_range (suc s) zero t h = refl
points_range (suc s) (suc n) [] h = refl
points_range (suc s) (suc n) (c ∷ t) h = points_range s (suc n) t (and_right (is_point c) (all_points t) h)

-- what tokens spell
pub points_spelled : (text : List ℕ) (ts : List Token) → all_points text ≡ true → all_points (spelled text ts) ≡ true
unfolding spelled all_points
points_spelled text [] h = refl
points_spelled text (t ∷ ts) h = points_append (spell text t) (spelled text ts) (points_range t.start t.length text h) (points_spelled text ts h)
