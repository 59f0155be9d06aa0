use Rattle.to_diff.proofs.Writing.{take_begins, take_first, take_none, take_again, place_most, delete_fits, delete_closes, delete_puts, delete_written, insert_fits, insert_closes, insert_puts, insert_written, retain_small, retain_held, end_fits, end_written}
use Rattle.records.proofs.EachLaws.{reads_from, comes_more, comes_is, comes_on, all_came}
use Rattle.std.proofs.Common.{refl, arith, ◌∙◌}
use Rattle.to_diff.proofs.write.Goals as goal

pub operations-init : goal.operations-init
operations-init c =
    rw (c.into_iter-o-iterator.ensures.into_iter_gives ∙ c.each-o-items.ensures)
    record { reads = reads_from _ _ _ _ refl; takes = take_begins c.requires.0 c.requires.1 }

pub put_kept-place-requires : goal.put_kept-place-requires
put_kept-place-requires c =
    let i = c.operations.invariant in
    let s = c.in-Some.ensures.steps in
    insert_fits i.takes.few i.takes.fits (take_first i.takes c.in-Some.o (comes_more i.reads s) (comes_is i.reads s)) c.if-o-eq-INSERT.true

pub put_insert-at-requires : goal.put_insert-at-requires
put_insert-at-requires c =
    let i = c.operations.invariant in
    let s = c.in-Some.ensures.steps in
    insert_puts i.takes.few i.takes.fits (insert_closes i.takes.few i.takes.fits (take_first i.takes c.in-Some.o (comes_more i.reads s) (comes_is i.reads s)) c.if-o-eq-INSERT.true c.put_kept-place.ensures) c.if-o-eq-INSERT.true

pub overflow_add-place : goal.overflow_add-place
overflow_add-place c =
    let i = c.operations.invariant in
    let s = c.in-Some.ensures.steps in
    omega (arith, i.takes.many, place_most i.takes.fits (insert_closes i.takes.few i.takes.fits (take_first i.takes c.in-Some.o (comes_more i.reads s) (comes_is i.reads s)) c.if-o-eq-INSERT.true c.put_kept-place.ensures))

pub operations-preserved-then-o-eq-INSERT : goal.operations-preserved-then-o-eq-INSERT
operations-preserved-then-o-eq-INSERT c =
    let i = c.operations.invariant in
    let s = c.in-Some.ensures.steps in
    record {
      reads = comes_on i.reads s;
      takes = rw s.on (take_again i.takes (comes_more i.reads s) (insert_written i.takes.few i.takes.fits (insert_closes i.takes.few i.takes.fits (take_first i.takes c.in-Some.o (comes_more i.reads s) (comes_is i.reads s)) c.if-o-eq-INSERT.true c.put_kept-place.ensures) c.if-o-eq-INSERT.true c.put_insert-at.ensures));
    }

pub put_kept-place-requires-then-o-eq-DELETE : goal.put_kept-place-requires-then-o-eq-DELETE
put_kept-place-requires-then-o-eq-DELETE c =
    let i = c.operations.invariant in
    let s = c.in-Some.ensures.steps in
    delete_fits i.takes.few i.takes.fits (take_first i.takes c.in-Some.o (comes_more i.reads s) (comes_is i.reads s)) c.if-o-eq-DELETE.true

pub put_dropped-requires : goal.put_dropped-requires
put_dropped-requires c =
    let i = c.operations.invariant in
    let s = c.in-Some.ensures.steps in
    delete_puts i.takes.few i.takes.fits (delete_closes i.takes.few i.takes.fits (take_first i.takes c.in-Some.o (comes_more i.reads s) (comes_is i.reads s)) c.if-o-eq-DELETE.true c.put_kept-place-then-o-eq-DELETE.ensures) c.if-o-eq-DELETE.true

pub overflow_add-place-then-o-eq-DELETE : goal.overflow_add-place-then-o-eq-DELETE
overflow_add-place-then-o-eq-DELETE c =
    let i = c.operations.invariant in
    let s = c.in-Some.ensures.steps in
    omega (arith, i.takes.many, place_most i.takes.fits (delete_closes i.takes.few i.takes.fits (take_first i.takes c.in-Some.o (comes_more i.reads s) (comes_is i.reads s)) c.if-o-eq-DELETE.true c.put_kept-place-then-o-eq-DELETE.ensures))

pub operations-preserved-then-o-eq-DELETE : goal.operations-preserved-then-o-eq-DELETE
operations-preserved-then-o-eq-DELETE c =
    let i = c.operations.invariant in
    let s = c.in-Some.ensures.steps in
    record {
      reads = comes_on i.reads s;
      takes = rw s.on (take_again i.takes (comes_more i.reads s) (delete_written i.takes.few i.takes.fits (delete_closes i.takes.few i.takes.fits (take_first i.takes c.in-Some.o (comes_more i.reads s) (comes_is i.reads s)) c.if-o-eq-DELETE.true c.put_kept-place-then-o-eq-DELETE.ensures) c.if-o-eq-DELETE.true c.put_dropped.ensures));
    }

pub overflow_add-kept : goal.overflow_add-kept
overflow_add-kept c =
    let i = c.operations.invariant in
    let s = c.in-Some.ensures.steps in
    omega (arith, retain_small i.takes.few i.takes.fits (take_first i.takes c.in-Some.o (comes_more i.reads s) (comes_is i.reads s)) c.if-o-eq-INSERT.false c.if-o-eq-DELETE.false)

pub operations-preserved : goal.operations-preserved
operations-preserved c =
    let i = c.operations.invariant in
    let s = c.in-Some.ensures.steps in
    record {
      reads = comes_on i.reads s;
      takes = rw s.on (take_again i.takes (comes_more i.reads s) (retain_held i.takes.few i.takes.fits (take_first i.takes c.in-Some.o (comes_more i.reads s) (comes_is i.reads s)) c.if-o-eq-INSERT.false c.if-o-eq-DELETE.false));
    }

pub put_kept-items-requires : goal.put_kept-items-requires
put_kept-items-requires c = let i = c.operations.invariant in end_fits i.takes.few i.takes.fits (take_none i.takes (all_came i.reads c.in-None.ensures.steps))

pub returns : goal.returns
returns c = let i = c.operations.invariant in end_written i.takes.few i.takes.fits (take_none i.takes (all_came i.reads c.in-None.ensures.steps)) c.put_kept-items.ensures
