use Rattle.diff.proofs.Loops.{over_begins, over_on, over_ends, came}
use Rattle.diff.proofs.Turns.{walk_begins, walk_ends, walk_retain, walk_delete, walk_other, walk_short_retain, walk_short_delete}
use Rattle.std.proofs.lemmas.Result.{err_from_is_err_and}
use Rattle.std.proofs.Common.{◌∙◌}
use Rattle.diff.proofs.diff.Items.walk.Goals as goal

pub items-init : goal.items-init
items-init c = over_begins _ (c.into_iter-item-iterator.ensures.into_iter_gives ∙ c.each-item-items.ensures) (walk_begins _ _ _)

pub returns-in_err-n-in-Retain : goal.returns-in_err-n-in-Retain
returns-in_err-n-in-Retain c =
    let p = err_from_is_err_and c.from_residual.result c.from_residual.ensures.1 in
    let s = c.in_err-n-in-Retain.ensures.short in
    rw (p.1, p.2, s.0) (came c.items.invariant c.in-Some.ensures.steps (λ k l e. walk_short_retain k l (e ∙ c.in-Retain.is) s.1))

pub returns-in_err-n-in-Delete : goal.returns-in_err-n-in-Delete
returns-in_err-n-in-Delete c =
    let p = err_from_is_err_and c.from_residual-in_err-n-in-Delete.result c.from_residual-in_err-n-in-Delete.ensures.1 in
    let s = c.in_err-n-in-Delete.ensures.short in
    rw (p.1, p.2, s.0) (came c.items.invariant c.in-Some.ensures.steps (λ k l e. walk_short_delete k l (e ∙ c.in-Delete.is) s.1))

pub items-preserved-in-Retain : goal.items-preserved-in-Retain
items-preserved-in-Retain c =
    let s = c.in_ok-n-in-Retain.ensures.enough in
    over_on c.items.invariant c.in-Some.ensures.steps (λ k l e. rw s.0 (walk_retain k l (e ∙ c.in-Retain.is) s.1))

pub items-preserved-in-Delete : goal.items-preserved-in-Delete
items-preserved-in-Delete c =
    let s = c.in_ok-n-in-Delete.ensures.enough in
    over_on c.items.invariant c.in-Some.ensures.steps (λ k l e. rw s.0 (walk_delete k l (e ∙ c.in-Delete.is) s.1))

pub items-preserved : goal.items-preserved
items-preserved c = over_on c.items.invariant c.in-Some.ensures.steps (λ k l e. walk_other k l (rw (← e) at c.in-Insert.is))

pub returns : goal.returns
returns c = over_ends c.items.invariant c.in-None.ensures.steps walk_ends
