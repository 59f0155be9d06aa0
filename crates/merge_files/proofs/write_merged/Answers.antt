-- `write_merged` writes the edit file of a merged list.
-- Each way is a law of Diffing.
use mathlib.Core.Path.{refl, sym}
use native.Mathlib.Omega.{arith}
use lib.Seq.{length-take-le}
use Rattle.merge_files.proofs.Diffing.{not_refused, items_small, items_in, text_in, writes, no_room}
use Rattle.merge_files.proofs.write_merged.Goals as goal

pub overflow_mul-items : goal.overflow_mul-items
overflow_mul-items c = let s = c in
    record { fits = omega (arith, items_small s.args.lent.original.now s.args.lent.text.now s.args.lent.tokens.spans.now s.args.lent.tokens.keys.now s.args.operations.now s.requires _ _ refl refl c.to_diff.ensures c.in-Ok.is) }

pub slice_bounds-items-end : goal.slice_bounds-items-end
slice_bounds-items-end c = let s = c in
    items_in s.args.lent.original.now s.args.lent.text.now s.args.lent.tokens.spans.now s.args.lent.tokens.keys.now s.args.operations.now s.requires _ _ refl refl c.to_diff.ensures c.in-Ok.is

pub slice_bounds-write-end : goal.slice_bounds-write-end
slice_bounds-write-end c = let s = c in
    sym (length-take-le _ _ (items_in s.args.lent.original.now s.args.lent.text.now s.args.lent.tokens.spans.now s.args.lent.tokens.keys.now s.args.operations.now s.requires _ _ refl refl c.to_diff.ensures c.in-Ok.is))

pub slice_bounds-added-end : goal.slice_bounds-added-end
slice_bounds-added-end c = let s = c in
    text_in s.args.lent.original.now s.args.lent.text.now s.args.lent.tokens.spans.now s.args.lent.tokens.keys.now s.args.operations.now s.requires _ _ refl refl c.to_diff.ensures c.in-Ok.is

pub slice_bounds-write-end-in-Ok : goal.slice_bounds-write-end-in-Ok
slice_bounds-write-end-in-Ok c = let s = c in
    sym (length-take-le _ _ (text_in s.args.lent.original.now s.args.lent.text.now s.args.lent.tokens.spans.now s.args.lent.tokens.keys.now s.args.operations.now s.requires _ _ refl refl c.to_diff.ensures c.in-Ok.is))

pub returns-in-Err : goal.returns-in-Err
returns-in-Err c = let s = c in
    not_refused s.args.lent.original.now s.args.lent.text.now s.args.lent.tokens.spans.now s.args.lent.tokens.keys.now s.args.operations.now s.requires _ _ refl refl c.to_diff.ensures c.in-Err.is

pub returns-in-Err-write : goal.returns-in-Err-write
returns-in-Err-write c = let s = c in
    no_room s.args.lent.original.now s.args.lent.text.now s.args.lent.tokens.spans.now s.args.lent.tokens.keys.now s.args.operations.now s.requires _ _ refl refl c.to_diff.ensures c.in-Ok.is s.args.out.now _ _ c.write.ensures c.in-Err-write.is

pub returns-in-Ok-write : goal.returns-in-Ok-write
returns-in-Ok-write c = let s = c in
    writes s.args.lent.original.now s.args.lent.text.now s.args.lent.tokens.spans.now s.args.lent.tokens.keys.now s.args.operations.now s.requires _ _ refl refl c.to_diff.ensures c.in-Ok.is s.args.out.now _ _ c.write.ensures c.in-Ok-write.is
