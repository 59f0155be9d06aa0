-- `merge_lists` merges two lists and writes the edit file, or the refusal's line.
-- Each way is a law of Merging.
use mathlib.Core.Path.{refl, sym}
use native.Mathlib.Omega.{arith}
use lib.Seq.{length-take-le}
use Rattle.merge_files.proofs.Merging.{number_most, small, in_room, diffable, refuses, merges}
use Rattle.merge_files.proofs.merge_lists.Goals as goal

pub put_refused-requires : goal.put_refused-requires
put_refused-requires c = rw c.number.ensures (number_most c.in-Err.refusal)

pub overflow_mul-merged : goal.overflow_mul-merged
overflow_mul-merged c = let s = c in
    record { fits = omega (arith, small s.args.original.now s.args.text.now s.args.spans.now s.args.keys.now s.args.left.now s.args.right.now s.requires _ _ _ _ _ _ refl refl _ c.merge.ensures c.in-Ok.is) }

pub slice_bounds-merged-end : goal.slice_bounds-merged-end
slice_bounds-merged-end c = let s = c in
    in_room s.args.original.now s.args.text.now s.args.spans.now s.args.keys.now s.args.left.now s.args.right.now s.requires _ _ _ _ _ _ refl refl _ c.merge.ensures c.in-Ok.is

pub slice_bounds-write_merged-end : goal.slice_bounds-write_merged-end
slice_bounds-write_merged-end c = let s = c in
    sym (length-take-le _ _ (in_room s.args.original.now s.args.text.now s.args.spans.now s.args.keys.now s.args.left.now s.args.right.now s.requires _ _ _ _ _ _ refl refl _ c.merge.ensures c.in-Ok.is))

pub write_merged-requires : goal.write_merged-requires
write_merged-requires c = let s = c in
    diffable s.args.original.now s.args.text.now s.args.spans.now s.args.keys.now s.args.left.now s.args.right.now s.requires _ _ _ _ _ _ refl refl _ c.merge.ensures c.in-Ok.is

pub returns-in-Err : goal.returns-in-Err
returns-in-Err c = let s = c in
    refuses s.args.original.now s.args.text.now s.args.spans.now s.args.keys.now s.args.left.now s.args.right.now s.requires _ _ _ _ _ _ refl refl _ _ c.merge.ensures c.in-Err.is c.number.ensures s.args.out.now _ _ c.put_refused.ensures

pub returns-in-Ok : goal.returns-in-Ok
returns-in-Ok c = let s = c in
    merges s.args.original.now s.args.text.now s.args.spans.now s.args.keys.now s.args.left.now s.args.right.now s.requires _ _ _ _ _ _ refl refl _ c.merge.ensures c.in-Ok.is s.args.out.now _ _ c.write_merged.ensures
