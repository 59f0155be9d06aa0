-- Shown: the order rule and stream priority are antisymmetric: exchanged operations, or lists, compare the other way round.
-- How: std's laws of `nat_cmp` and `slice_cmp`, and cases; lists by induction.
use Prim.Native.Nat.{ℕ}
use mathlib.Core.Path.{◌≡◌, refl}
use mathlib.Core.List.{List, [], ◌∷◌, ◌++◌}
use Rattle.std.specs.Ordering.{nat_cmp, ordering_then, ordering_reverse}
use Rattle.std.proofs.lemmas.Cmp.{nat_cmp_total, nat_list_cmp_total, tied_itself}
use Rattle.std.specs.declared.cmp.Ordering.{Ordering}
use Rattle.std.specs.declared.cmp.Ordering.TheVariants.{Less, Equal, Greater}
use Rattle.merging.specs.declared.Op.{Op}
use Rattle.merging.specs.declared.Op.TheVariants.{Delete, Insert, Retain}
use Rattle.merging.specs.Lent.{Lent, spelling_of}
use Rattle.merging.specs.Operations.{order_of, kind_of}
use Rattle.merging.specs.OrderRule.{compare_spelling, content_rule, order_rule, priority_of}

-- "a beginning first"
pub beginning_first : (xs ys : List ℕ) (y : ℕ) → compare_spelling xs (xs ++ (y ∷ ys)) ≡ Less
beginning_first [] ys y = refl
beginning_first (x ∷ xs) ys y = rw (tied_itself nat_cmp_total x) (beginning_first xs ys y)

then_reversed : (x y : Ordering) → ordering_reverse (ordering_then x y) ≡ ordering_then (ordering_reverse x) (ordering_reverse y)
then_reversed Less y = refl
then_reversed Equal y = refl
then_reversed Greater y = refl

numbers_reversed : (a b : ℕ) → nat_cmp b a ≡ ordering_reverse (nat_cmp a b)
numbers_reversed a b = nat_cmp_total.antisymm b a

spelling_reversed : (xs ys : List ℕ) → compare_spelling ys xs ≡ ordering_reverse (compare_spelling xs ys)
spelling_reversed xs ys = nat_list_cmp_total.antisymm ys xs

content_reversed : (lent : Lent) (a b : Op) → content_rule lent b a ≡ ordering_reverse (content_rule lent a b)
unfolding content_rule
content_reversed lent (Delete o l) (Delete o' l') = numbers_reversed l l'
content_reversed lent (Delete o l) (Insert o' f' n') = refl
content_reversed lent (Delete o l) (Retain o' l') = refl
content_reversed lent (Insert o f n) (Delete o' l') = refl
content_reversed lent (Insert o f n) (Insert o' f' n') = spelling_reversed (spelling_of lent f n) (spelling_of lent f' n')
content_reversed lent (Insert o f n) (Retain o' l') = refl
content_reversed lent (Retain o l) (Delete o' l') = refl
content_reversed lent (Retain o l) (Insert o' f' n') = refl
content_reversed lent (Retain o l) (Retain o' l') = numbers_reversed l l'

-- "Order rule": b against a is a against b, reversed
pub order_reversed : (lent : Lent) (a b : Op) → order_rule lent b a ≡ ordering_reverse (order_rule lent a b)
unfolding order_rule
order_reversed lent a b =
    rw (numbers_reversed (order_of a) (order_of b), numbers_reversed (kind_of a) (kind_of b), content_reversed lent a b, then_reversed, then_reversed)

-- "Stream priority": of exchanged lists it is reversed
pub priority_reversed : (lent : Lent) (ls rs : List Op) → priority_of lent rs ls ≡ ordering_reverse (priority_of lent ls rs)
unfolding priority_of
priority_reversed lent [] [] = refl
priority_reversed lent [] (b ∷ rs) = refl
priority_reversed lent (a ∷ ls) [] = refl
priority_reversed lent (a ∷ ls) (b ∷ rs) = rw (order_reversed lent a b, priority_reversed lent ls rs, then_reversed)
