use Rattle.std.proofs.Common.{◌≡◌, refl, ap, ◌∙◌}
use Rattle.std.specs.Ordering.{nat_cmp}
use Rattle.std.proofs.lemmas.Iterator.Consumers.{YieldsList-from_first}
use Rattle.std.proofs.lemmas.Iterator.Search.{cmp_from_yields_List}
use Rattle.order.specs.Spelling.{left}
use Rattle.order.proofs.spelling.compare_spelling.Goals as goal

pub returns : goal.returns
returns c =
    cmp_from_yields_List (λ x y. y ≡ x) _ nat_cmp _ c.cmp.ensures.ran (YieldsList-from_first (λ x. x) left _ c.read.ensures.all)
    (λ it e. YieldsList-from_first (λ x. x) left _ (ap left e ∙ c.read-2.ensures.all)) (λ x y. refl)
