-- Conjunctions: what a true one says, and what its two sides make it.
-- By the two sides' truth. Assumes nothing.
use mathlib.Core.Path.{◌≡◌, refl}
use mathlib.Core.Bool.{Bool, true, false, ◌&&◌}

pub and_left : (s t : Bool) → s && t ≡ true → s ≡ true
and_left true t h = refl
and_left false t h = h

pub and_right : (s t : Bool) → s && t ≡ true → t ≡ true
and_right true t h = h
and_right false t h = cc

pub first_no : (a b : Bool) → a ≡ false → a && b ≡ false
first_no a b e = rw e

pub second_no : (a b : Bool) → a ≡ true → b ≡ false → a && b ≡ false
second_no a b e f = rw (e, f)

pub both_yes : (a b : Bool) → a ≡ true → b ≡ true → a && b ≡ true
both_yes a b e f = rw (e, f)

pub second_is : (a b r : Bool) → a ≡ true → r ≡ b → r ≡ a && b
second_is a b r e f = rw e f

pub and_true : (t : Bool) → t && true ≡ t
and_true true = refl
and_true false = refl

pub and_false : (t : Bool) → t && false ≡ false
and_false true = refl
and_false false = refl
