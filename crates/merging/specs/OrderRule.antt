-- The order rule and stream priority. Assumes nothing.
use Rattle.std.specs.Prelude.{ℕ, Bool, List, [], ◌∷◌}
use Rattle.std.specs.declared.cmp.Ordering.{Ordering}
use Rattle.std.specs.declared.cmp.Ordering.TheVariants.{Less, Equal, Greater}
use Rattle.std.specs.Ordering.{nat_cmp, ordering_then, is_lt}
use Rattle.std.specs.Cmp.Lexicographic.{slice_cmp}
use Rattle.merging.specs.declared.Op.{Op}
use Rattle.merging.specs.declared.Op.TheVariants.{Delete, Insert, Retain}
use Rattle.merging.specs.Lent.{Lent, spelling_of}
use Rattle.merging.specs.Operations.{order_of, kind_of}

-- "by spelling, code point by code point with a beginning first"
abbrev pub compare_spelling : List ℕ → List ℕ → Ordering
compare_spelling xs ys = slice_cmp nat_cmp xs ys

-- "then inserts by spelling, code point by code point with a beginning first, retains and deletes by shorter length; else equal."
unfoldable pub content_rule : Lent → Op → Op → Ordering
content_rule lent (Delete o l) (Delete o' l') = nat_cmp l l'
content_rule lent (Delete o l) (Insert o' f' n') = Equal
content_rule lent (Delete o l) (Retain o' l') = Equal
content_rule lent (Insert o f n) (Delete o' l') = Equal
content_rule lent (Insert o f n) (Insert o' f' n') = compare_spelling (spelling_of lent f n) (spelling_of lent f' n')
content_rule lent (Insert o f n) (Retain o' l') = Equal
content_rule lent (Retain o l) (Delete o' l') = Equal
content_rule lent (Retain o l) (Insert o' f' n') = Equal
content_rule lent (Retain o l) (Retain o' l') = nat_cmp l l'

-- "Order rule: smaller order first; then delete, insert, retain; then inserts by spelling"
unfoldable pub order_rule : Lent → Op → Op → Ordering
order_rule lent a b = ordering_then (nat_cmp (order_of a) (order_of b)) (ordering_then (nat_cmp (kind_of a) (kind_of b)) (content_rule lent a b))

-- "Stream priority: the first unequal pair under the order rule, else the shorter list first, else equal."
unfoldable pub priority_of : Lent → List Op → List Op → Ordering
priority_of lent [] [] = Equal
priority_of lent [] (b ∷ rs) = Less
priority_of lent (a ∷ ls) [] = Greater
priority_of lent (a ∷ ls) (b ∷ rs) = ordering_then (order_rule lent a b) (priority_of lent ls rs)

-- "Each turn takes the smaller next operation; ties use stream priority; what is not less goes right."
unfoldable pub goes_left : Lent → Ordering → Op → Op → Bool
goes_left lent priority a b = is_lt (ordering_then (order_rule lent a b) priority)
