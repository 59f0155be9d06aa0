use Rattle.refusal.specs.declared.Refusal.TheVariants.{Size}
use Rattle.diff.proofs.Loops.{over_begins, over_on, over_ends, came}
use Rattle.writable.proofs.Checking.{tally_begins, tally_on, tally_over, tally_ends}
use Rattle.std.proofs.lemmas.Result.{err_from_is_err_and}
use Rattle.std.proofs.Common.{◌≡◌, ◌∙◌}
use Rattle.writable.proofs.sum_items.Goals as goal

pub items-init : goal.items-init
items-init c = over_begins _ (c.into_iter-item-iterator.ensures.into_iter_gives ∙ c.each-item-items.ensures) (tally_begins _ _)

pub returns-in_err-sums : goal.returns-in_err-sums
returns-in_err-sums c =
    let p = err_from_is_err_and c.from_residual.result c.from_residual.ensures.1 in
    let v = rw c.in_err-sums.ensures.ok_part at c.in_err-sums.ensures.value in
    let e : c.in_err-sums.field-0.0 ≡ Size = cc in
    rw (p.1, p.2, e)
    (came c.items.invariant c.in-Some.ensures.steps (λ k l f. tally_over k l _ f (rw c.in_err-sums.ensures.ok_part at c.with.ensures)))

pub items-preserved : goal.items-preserved
items-preserved c = over_on c.items.invariant c.in-Some.ensures.steps (λ k l f. tally_on k l _ f (rw c.in_ok-sums.ensures.ok_part at c.with.ensures))

pub returns : goal.returns
returns c = over_ends c.items.invariant c.in-None.ensures.steps tally_ends
