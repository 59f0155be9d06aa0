-- The items that are left are the next one and the rest, and a text lies within what was lent.
-- Each law is a step of a definition. Assumes nothing.
use mathlib.Core.Path.{◌≡◌, refl, sym, ap}
use mathlib.Core.Bool.{Bool, true, false}
use mathlib.Core.List.{List, [], ◌∷◌}
use Prim.Native.Nat.{ℕ, zero, suc, ◌+◌, ◌-◌, ◌/◌, ◌≤◌, ◌<◌}
use native.Mathlib.Omega.{arith}
use lib.ListN.{length, take, drop}
use lib.IntN.{ℤ, pos, negsuc}
use lib.Dec.{leb}
use borrow.Author.Tests.{leb-true}
use Rattle.room.specs.Choice.{pick}
use Rattle.diff.specs.declared.diff.Item.TheVariants.{Insert, Neither}
use Rattle.diff.specs.Items.{numbered, ranged, item_of, item_at, items_from, items_of}

-- what is left from a place on begins with the item there
pub items_more :
    (xs : List ℤ) (lent i c : ℕ) → i < c
    → items_from xs lent i (c - i) ≡ item_at xs lent i ∷ items_from xs lent (i + 1) (c - (i + 1))
unfolding items_from
items_more xs lent i c h = let e : c - i ≡ suc (c - (i + 1)) = omega arith in rw e

pub items_none : (xs : List ℤ) (lent i c : ℕ) → c ≤ i → items_from xs lent i (c - i) ≡ []
unfolding items_from
items_none xs lent i c h = let e : c - i ≡ 0 = omega arith in rw e

items_from_length : (xs : List ℤ) (lent i k : ℕ) → length (items_from xs lent i k) ≡ k
unfolding items_from
items_from_length xs lent i zero = refl
items_from_length xs lent i (suc k) = ap suc (items_from_length xs lent (i + 1) k)

pub items_length : (xs : List ℤ) (lent : ℕ) → length (items_of xs lent) ≡ length xs / 3
unfolding items_of
items_length xs lent = items_from_length xs lent 0 (length xs / 3)

-- a text that is read out of the slice lies within what was lent
picked : (t : Bool) (a b s n : ℕ) → pick t (Insert a b) Neither ≡ Insert s n → (t ≡ true) × (a + b ≡ s + n)
picked true a b s n e = let f : a ≡ s = cc in let g : b ≡ n = cc in (refl, rw (f, g))
picked false a b s n e = let z : true ≡ false = cc in (sym z, cc)

ranged_within : (a b : ℤ) (lent s n : ℕ) → ranged a b lent ≡ Insert s n → s + n ≤ lent
unfolding ranged
ranged_within (pos a) (pos b) lent s n e =
    let w : (leb (a + b) lent ≡ true) × (a + b ≡ s + n) = picked (leb (a + b) lent) a b s n e in
    omega (arith, leb-true (a + b) lent w.0, w.1)
ranged_within (pos a) (negsuc b) lent s n e = let z : ◌≡◌ {A = ℕ} 0 1 = cc in absurd (omega arith)
ranged_within (negsuc a) b lent s n e = let z : ◌≡◌ {A = ℕ} 0 1 = cc in absurd (omega arith)

item_within : (k a b : ℤ) (lent s n : ℕ) → item_of k a b lent ≡ Insert s n → s + n ≤ lent
unfolding item_of numbered
item_within (pos zero) (pos a) b lent s n e = let z : ◌≡◌ {A = ℕ} 0 1 = cc in absurd (omega arith)
item_within (pos zero) (negsuc a) b lent s n e = let z : ◌≡◌ {A = ℕ} 0 1 = cc in absurd (omega arith)
item_within (pos (suc zero)) a b lent s n e = ranged_within a b lent s n e
item_within (pos (suc (suc k))) a b lent s n e = let z : ◌≡◌ {A = ℕ} 0 1 = cc in absurd (omega arith)
item_within (negsuc k) a b lent s n e = let z : ◌≡◌ {A = ℕ} 0 1 = cc in absurd (omega arith)

pub insert_within : (xs : List ℤ) (lent i : ℕ) {s n : ℕ} → item_at xs lent i ≡ Insert s n → s + n ≤ lent
unfolding item_at
insert_within xs lent i {s} {n} e = item_within _ _ _ lent s n e

-- a range by its start and its end is the range by its start and length
pub range_part : (t : List ℕ) (s n : ℕ) → take (s + n - s) (drop s t) ≡ take n (drop s t)
range_part t s n = let m : s + n - s ≡ n = omega arith in rw (m)
