use Rattle.cursor_position.proofs.Going.{moving_none, moving_more, moving_all, moving_out}
use Rattle.records.proofs.EachLaws.{reads_from, comes_more, comes_is, comes_on, all_came}
use Rattle.std.proofs.Common.{refl, sym, arith}
use Rattle.cursor_position.proofs.put_on.Goals as goal

pub going-init : goal.going-init
going-init g c =
    rw (c.into_iter-c-iterator.ensures.into_iter_gives, c.between-c-items.ensures, c.count.ensures)
    record { reads = reads_from _ _ _ _ refl; same = refl; space = refl; moves = λ f m. moving_none f _ _ _ _ _ }

pub returns-in_default : goal.returns-in_default
returns-in_default g c =
    let i = c.going.invariant in
    let s = c.in-Some.ensures.steps in
    λ f m. moving_out (i.moves f m) c.in-Some.c refl (rw (sym i.same) at (comes_more i.reads s)) (rw (sym i.same) at (comes_is i.reads s)) (m _ _ c.in_default.ensures)

pub going-preserved : goal.going-preserved
going-preserved g c =
    let i = c.going.invariant in
    let s = c.in-Some.ensures.steps in
    let l = rw (sym i.same) at (comes_more i.reads s) in
    record {
      reads = comes_on i.reads s;
      same = omega (arith, i.same, s.on);
      space = omega (arith, i.space, l);
      moves = λ f m.
          moving_more (i.moves f m) c.in-Some.c c.with_index.result c.in-Some-place.index _ c.requires.spacious l (rw (sym i.same) at (comes_is i.reads s))
          (m _ _ c.in-Some-place.ensures) c.with_index.ensures c.put_cursor.ensures;
    }

pub returns : goal.returns
returns g c =
    let i = c.going.invariant in
    λ f m. moving_all (i.moves f m) refl (rw (sym i.same) at (all_came i.reads c.in-None.ensures.steps))
