-- Operations under the order rule: each is equal to itself, and two that are equal consume as much of the original.
-- By the cases of the definition. Assumes nothing.
use mathlib.Core.Path.{◌≡◌, refl}
use Prim.Native.Nat.{ℕ}
use native.Mathlib.Omega.{arith}
use Rattle.std.specs.declared.cmp.Ordering.{Ordering}
use Rattle.std.specs.declared.cmp.Ordering.TheVariants.{Less, Equal, Greater}
use Rattle.std.specs.Ordering.{nat_cmp, ordering_then}
use Rattle.std.proofs.lemmas.Bool.Decides.{nat_tests}
use Rattle.std.proofs.lemmas.Cmp.{nat_cmp_total, nat_list_cmp_total, tied_itself}
use Rattle.merging.specs.declared.Op.{Op}
use Rattle.merging.specs.declared.Op.TheVariants.{Delete, Insert, Retain}
use Rattle.merging.specs.Lent.{Lent, spelling_of}
use Rattle.merging.specs.Operations.{order_of, kind_of, span_of}
use Rattle.merging.specs.OrderRule.{content_rule, order_rule}

content_itself : (lent : Lent) (a : Op) → content_rule lent a a ≡ Equal
unfolding content_rule
content_itself lent (Delete o l) = tied_itself nat_cmp_total l
content_itself lent (Insert o f n) = tied_itself nat_list_cmp_total (spelling_of lent f n)
content_itself lent (Retain o l) = tied_itself nat_cmp_total l

pub itself : (lent : Lent) (a : Op) → order_rule lent a a ≡ Equal
unfolding order_rule
itself lent a = rw (tied_itself nat_cmp_total (order_of a), tied_itself nat_cmp_total (kind_of a)) (content_itself lent a)

then_equal : (x y : Ordering) → ordering_then x y ≡ Equal → (x ≡ Equal) × (y ≡ Equal)
then_equal Less y h = cc
then_equal Equal y h = (refl, h)
then_equal Greater y h = cc

same_number : (a b : ℕ) → nat_cmp a b ≡ Equal → a ≡ b
same_number a b h = grind (arith, nat_tests)

by_kind : (lent : Lent) (a b : Op) → nat_cmp (kind_of a) (kind_of b) ≡ Equal → content_rule lent a b ≡ Equal → span_of a ≡ span_of b
unfolding content_rule
by_kind lent (Delete o l) (Delete o' l') k h = same_number l l' h
by_kind lent (Delete o l) (Insert o' f' n') k h = cc
by_kind lent (Delete o l) (Retain o' l') k h = cc
by_kind lent (Insert o f n) (Delete o' l') k h = cc
by_kind lent (Insert o f n) (Insert o' f' n') k h = refl
by_kind lent (Insert o f n) (Retain o' l') k h = cc
by_kind lent (Retain o l) (Delete o' l') k h = cc
by_kind lent (Retain o l) (Insert o' f' n') k h = cc
by_kind lent (Retain o l) (Retain o' l') k h = same_number l l' h

pub equal_spans : (lent : Lent) (a b : Op) → order_rule lent a b ≡ Equal → span_of a ≡ span_of b
unfolding order_rule
equal_spans lent a b h =
    let g = (then_equal (nat_cmp (order_of a) (order_of b)) _ h).1 in
    let k = then_equal (nat_cmp (kind_of a) (kind_of b)) _ g in
    by_kind lent a b k.0 k.1
