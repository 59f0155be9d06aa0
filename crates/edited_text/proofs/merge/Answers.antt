-- `merge` answers and leaves its rooms as the definition says.
-- Each way is a law of Answering.
use borrow.Author.Rules.{rules}
use Rattle.std.proofs.lemmas.Result.{err_from_is_err_and}
use mathlib.Core.Path.{sym, ◌∙◌}
use native.Mathlib.Omega.{arith}
use Rattle.sizes.proofs.Fits.{merging_small}
use Rattle.edited_text.proofs.Answering.{refused, half_small, no_room, mergeable, answers}
use Rattle.edited_text.proofs.merge.Goals as goal

pub sum_lists-requires : goal.sum_lists-requires
sum_lists-requires c = merging_small c.merging_limits-limits.ensures

pub overflow_add-half : goal.overflow_add-half
overflow_add-half c = let a = c.args in
    omega (arith, half_small a.lent.original.now a.lent.text.now a.lent.tokens.spans.now a.lent.tokens.keys.now a.left.operations.now a.right.operations.now a.left.cursors.now a.right.cursors.now a.operations.now a.cursors.now a.work.now _ c.merging_limits-limits.ensures _ c.in_ok-claims.ensures)

pub returns-in_err-claims : goal.returns-in_err-claims
returns-in_err-claims c = let a = c.args in
    let p = err_from_is_err_and c.from_residual.result c.from_residual.ensures.1 in
    rw (p.1, p.2) (refused a.lent.original.now a.lent.text.now a.lent.tokens.spans.now a.lent.tokens.keys.now a.left.operations.now a.right.operations.now a.left.cursors.now a.right.cursors.now a.operations.now a.cursors.now a.work.now _ c.merging_limits-limits.ensures _ c.in_err-claims.ensures)

pub returns-then-not-rooms_fit : goal.returns-then-not-rooms_fit
returns-then-not-rooms_fit c = let a = c.args in
    no_room a.lent.original.now a.lent.text.now a.lent.tokens.spans.now a.lent.tokens.keys.now a.left.operations.now a.right.operations.now a.left.cursors.now a.right.cursors.now a.operations.now a.cursors.now a.work.now _ c.merging_limits-limits.ensures _ c.in_ok-claims.ensures
    (sym c.rooms_fit.ensures ∙ c.if-not-rooms_fit.true)

pub merge_accepted-counts-requires : goal.merge_accepted-counts-requires
merge_accepted-counts-requires c = let a = c.args in
    mergeable a.lent.original.now a.lent.text.now a.lent.tokens.spans.now a.lent.tokens.keys.now a.left.operations.now a.right.operations.now a.left.cursors.now a.right.cursors.now a.operations.now a.cursors.now a.work.now _ c.merging_limits-limits.ensures _ c.in_ok-claims.ensures
    (sym c.rooms_fit.ensures ∙ c.if-not-rooms_fit.false)

pub returns : goal.returns
returns c = let a = c.args in
    answers a.lent.original.now a.lent.text.now a.lent.tokens.spans.now a.lent.tokens.keys.now a.left.operations.now a.right.operations.now a.left.cursors.now a.right.cursors.now a.operations.now a.cursors.now a.work.now _ c.merging_limits-limits.ensures _ c.in_ok-claims.ensures
    (sym c.rooms_fit.ensures ∙ c.if-not-rooms_fit.false) _ _ _ _ c.merge_accepted-counts.ensures (search rules)
