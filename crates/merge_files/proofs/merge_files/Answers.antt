-- `merge_files` writes what the definition says, for any three files.
-- Each way is a law of Files.
use mathlib.Core.Path.{refl, sym, ap}
use lib.Seq.{length-take-le}
use Rattle.merge_files.specs.Steps.{by_number}
use Rattle.merge_files.proofs.Files.{number_small, refuses, points_in, fitting, not_refused, result}
use Rattle.merge_files.proofs.merge_files.Goals as goal

pub put_refused-requires : goal.put_refused-requires
put_refused-requires c = rw c.number.ensures (number_small c.args.original.now c.args.left.now c.args.right.now c.check_files.ensures (ap by_number c.in-Err.is))

pub slice_bounds-points-end : goal.slice_bounds-points-end
slice_bounds-points-end c = points_in c.args.original.now c.args.left.now c.args.right.now c.check_files.ensures (ap by_number c.in-Ok.is) _ _ refl c.read.ensures c.in-Ok-read.is

pub slice_bounds-merge_fit-end : goal.slice_bounds-merge_fit-end
slice_bounds-merge_fit-end c = sym (length-take-le _ _ (points_in c.args.original.now c.args.left.now c.args.right.now c.check_files.ensures (ap by_number c.in-Ok.is) _ _ refl c.read.ensures c.in-Ok-read.is))

pub merge_fit-requires : goal.merge_fit-requires
merge_fit-requires c = fitting c.args.original.now c.args.left.now c.args.right.now c.check_files.ensures (ap by_number c.in-Ok.is) _ _ refl c.read.ensures c.in-Ok-read.is

pub returns-in-Err : goal.returns-in-Err
returns-in-Err c = refuses c.args.original.now c.args.left.now c.args.right.now c.check_files.ensures (ap by_number c.in-Err.is) c.args.out.now _ _ (rw c.number.ensures at c.put_refused.ensures)

pub returns-in-Err-read : goal.returns-in-Err-read
returns-in-Err-read c = not_refused c.args.original.now c.args.left.now c.args.right.now c.check_files.ensures (ap by_number c.in-Ok.is) _ _ refl c.read.ensures c.in-Err-read.is

pub returns-in-Ok-read : goal.returns-in-Ok-read
returns-in-Ok-read c = result c.args.original.now c.args.left.now c.args.right.now c.check_files.ensures (ap by_number c.in-Ok.is) _ _ refl c.read.ensures c.in-Ok-read.is c.args.out.now _ _ c.merge_fit.ensures
