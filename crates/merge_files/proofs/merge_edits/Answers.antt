-- `merge_edits` merges two accepted edit files.
-- Each way is a law of Edits.
use mathlib.Core.Path.{refl, sym}
use native.Mathlib.Omega.{arith}
use lib.ListN.{replicate}
use lib.Seq.{length-take-le}
use Rattle.merge_files.proofs.Edits.{rooms, left_listable, right_listable, text_in, spans_in, keys_in, left_in, right_in, mergeable, result}
use Rattle.merge_files.proofs.merge_edits.Goals as goal

pub list_of-l-requires : goal.list_of-l-requires
list_of-l-requires c = left_listable c.args.left.now c.args.right.now c.requires.0 c.args.text.now c.requires.1 _ (replicate 2046 0) _ _ (rooms _ (replicate 2046 0) _ _ refl refl refl refl)

pub list_of-r-requires : goal.list_of-r-requires
list_of-r-requires c = right_listable c.args.left.now c.args.right.now c.requires.0 c.args.text.now c.requires.1 _ _ _ _ (rooms _ _ _ _ refl refl refl refl) c.list_of-l.ensures

pub overflow_add-points : goal.overflow_add-points
overflow_add-points c = record { fits = omega (arith, c.list_of-l.ensures.points_most, c.list_of-r.ensures.points_most) }

pub overflow_add-tokens : goal.overflow_add-tokens
overflow_add-tokens c = record { fits = omega (arith, c.list_of-l.ensures.tokens_most, c.list_of-r.ensures.tokens_most) }

pub slice_bounds-merge_lists-end : goal.slice_bounds-merge_lists-end
slice_bounds-merge_lists-end c = text_in c.args.left.now c.args.right.now c.requires.0 c.args.text.now c.requires.1 _ _ _ _ (rooms _ _ _ _ refl refl refl refl) c.list_of-l.ensures c.list_of-r.ensures

pub slice_bounds-merge_lists-end-2 : goal.slice_bounds-merge_lists-end-2
slice_bounds-merge_lists-end-2 c = sym (length-take-le _ _ (text_in c.args.left.now c.args.right.now c.requires.0 c.args.text.now c.requires.1 _ _ _ _ (rooms _ _ _ _ refl refl refl refl) c.list_of-l.ensures c.list_of-r.ensures))

pub overflow_mul-spans : goal.overflow_mul-spans
overflow_mul-spans c = record { fits = omega (arith, c.list_of-l.ensures.tokens_most, c.list_of-r.ensures.tokens_most) }

pub slice_bounds-spans-end : goal.slice_bounds-spans-end
slice_bounds-spans-end c = spans_in c.args.left.now c.args.right.now c.requires.0 c.args.text.now c.requires.1 _ _ _ _ (rooms _ _ _ _ refl refl refl refl) c.list_of-l.ensures c.list_of-r.ensures

pub slice_bounds-merge_lists-end-3 : goal.slice_bounds-merge_lists-end-3
slice_bounds-merge_lists-end-3 c = sym (length-take-le _ _ (spans_in c.args.left.now c.args.right.now c.requires.0 c.args.text.now c.requires.1 _ _ _ _ (rooms _ _ _ _ refl refl refl refl) c.list_of-l.ensures c.list_of-r.ensures))

pub slice_bounds-keys-end : goal.slice_bounds-keys-end
slice_bounds-keys-end c = keys_in c.args.left.now c.args.right.now c.requires.0 c.args.text.now c.requires.1 _ _ _ _ (rooms _ _ _ _ refl refl refl refl) c.list_of-l.ensures c.list_of-r.ensures

pub slice_bounds-merge_lists-end-4 : goal.slice_bounds-merge_lists-end-4
slice_bounds-merge_lists-end-4 c = sym (length-take-le _ _ (keys_in c.args.left.now c.args.right.now c.requires.0 c.args.text.now c.requires.1 _ _ _ _ (rooms _ _ _ _ refl refl refl refl) c.list_of-l.ensures c.list_of-r.ensures))

pub overflow_mul-lefts : goal.overflow_mul-lefts
overflow_mul-lefts c = record { fits = omega (arith, c.list_of-l.ensures.operations_most) }

pub slice_bounds-lefts-end : goal.slice_bounds-lefts-end
slice_bounds-lefts-end c = left_in c.args.left.now c.args.right.now c.requires.0 c.args.text.now c.requires.1 _ _ _ _ (rooms _ _ _ _ refl refl refl refl) c.list_of-l.ensures c.list_of-r.ensures

pub slice_bounds-merge_lists-end-5 : goal.slice_bounds-merge_lists-end-5
slice_bounds-merge_lists-end-5 c = sym (length-take-le _ _ (left_in c.args.left.now c.args.right.now c.requires.0 c.args.text.now c.requires.1 _ _ _ _ (rooms _ _ _ _ refl refl refl refl) c.list_of-l.ensures c.list_of-r.ensures))

pub overflow_mul-rights : goal.overflow_mul-rights
overflow_mul-rights c = record { fits = omega (arith, c.list_of-r.ensures.operations_most) }

pub slice_bounds-rights-end : goal.slice_bounds-rights-end
slice_bounds-rights-end c = right_in c.args.left.now c.args.right.now c.requires.0 c.args.text.now c.requires.1 _ _ _ _ (rooms _ _ _ _ refl refl refl refl) c.list_of-l.ensures c.list_of-r.ensures

pub slice_bounds-merge_lists-end-6 : goal.slice_bounds-merge_lists-end-6
slice_bounds-merge_lists-end-6 c = sym (length-take-le _ _ (right_in c.args.left.now c.args.right.now c.requires.0 c.args.text.now c.requires.1 _ _ _ _ (rooms _ _ _ _ refl refl refl refl) c.list_of-l.ensures c.list_of-r.ensures))

pub merge_lists-requires : goal.merge_lists-requires
merge_lists-requires c = mergeable c.args.left.now c.args.right.now c.requires.0 c.args.text.now c.requires.1 _ _ _ _ (rooms _ _ _ _ refl refl refl refl) c.list_of-l.ensures c.list_of-r.ensures _

pub shape_of-text : goal.shape_of-text
shape_of-text c = omega (arith, c.list_of-l.auto.text, c.list_of-r.auto.text)

pub returns : goal.returns
returns c = result c.args.left.now c.args.right.now c.requires.0 c.args.text.now c.requires.1 _ _ _ _ (rooms _ _ _ _ refl refl refl refl) c.list_of-l.ensures c.list_of-r.ensures c.args.original.now c.args.out.now _ _ c.merge_lists.ensures
