use Rattle.refusal.specs.declared.Refusal.TheVariants.{Record}
use Rattle.diff.proofs.Loops.{counted_begins, counted_on, over_ends, came}
use Rattle.writable.proofs.Checking.{shape_begins, shape_on, shape_bad, shape_ends}
use Rattle.std.proofs.lemmas.Result.{err_from_is_err_and}
use Rattle.std.proofs.Common.{◌≡◌, ◌∙◌}
use Rattle.writable.proofs.first_bad.Goals as goal

pub items-init : goal.items-init
items-init c =
    rw c.into_iter-i-iterator.ensures.into_iter_gives
    (counted_begins _ (c.enumerate-i-items.ensures.source ∙ c.each.ensures) c.enumerate-i-items.ensures.count (shape_begins _ _))

pub returns-in_err-joined : goal.returns-in_err-joined
returns-in_err-joined c =
    let s = c.in-Some.ensures.steps in
    let p = err_from_is_err_and c.from_residual.result c.from_residual.ensures.1 in
    let v = rw c.in_err-joined.ensures.ok_part at c.in_err-joined.ensures.value in
    let e : c.in_err-joined.field-0.0 ≡ Record c.in-Some.i = cc in
    rw (p.1, p.2, e, s.1, c.items.invariant.here)
    (came c.items.invariant.over s.0 (λ k l f. shape_bad k l _ f (rw c.in_err-joined.ensures.ok_part at c.keeps.ensures)))

pub items-preserved : goal.items-preserved
items-preserved c =
    let s = c.in-Some.ensures.steps in
    counted_on c.items.invariant s.0 s.2 (λ k l f. shape_on k l _ f (rw c.in_ok-joined.ensures.ok_part at c.keeps.ensures))

pub returns : goal.returns
returns c = over_ends c.items.invariant.over c.in-None.ensures.steps.0 shape_ends
