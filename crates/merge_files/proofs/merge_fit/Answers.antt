-- `merge_fit` merges two accepted edit files, or refuses them by 2.
-- Counts that do not fit are a law of Unfit; files whose counts fit need no longer room than the original.
use mathlib.Core.Path.{◌∙◌}
use native.Mathlib.Omega.{arith}
use Rattle.merge_files.proofs.Files.{texted}
use Rattle.merge_files.proofs.Unfit.{unfit_files}
use Rattle.merge_files.proofs.merge_fit.Goals as goal

pub returns-then-uses-n : goal.returns-then-uses-n
returns-then-uses-n c = unfit_files c.args.original.now c.args.left.now c.args.right.now c.requires.files c.requires.good c.requires.short (λ x y. c.if-uses-n.true (c.requires.uses_left ∙ x)) c.args.out.now _ _ c.put_refused.ensures

pub returns-then-uses-n-2 : goal.returns-then-uses-n-2
returns-then-uses-n-2 c = unfit_files c.args.original.now c.args.left.now c.args.right.now c.requires.files c.requires.good c.requires.short (λ x y. c.if-uses-n-2.true (c.requires.uses_right ∙ y)) c.args.out.now _ _ c.put_refused-then-uses-n-2.ensures

pub merge_edits-requires : goal.merge_edits-requires
merge_edits-requires c = (c.requires.files, texted c.args.left.now c.args.right.now (omega (arith, c.requires.short, c.requires.uses_left, c.if-uses-n.false)) (omega (arith, c.requires.short, c.requires.uses_right, c.if-uses-n-2.false)))

pub returns : goal.returns
returns c = c.merge_edits.ensures
