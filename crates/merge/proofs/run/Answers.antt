use mathlib.Core.Path.{refl}
use Rattle.turns.specs.Looking.{list_from}
use Rattle.merge.proofs.Ends.{first_fits, next_readable, started, finished}
use Rattle.merge.proofs.Taking.{none_taken, seat_turnable, seat_less, seat_step}
use Rattle.merge.proofs.run.Goals as goal

pub ahead_of-requires : goal.ahead_of-requires
ahead_of-requires c = first_fits _ _ c.requires.original_most c.requires.left.tiled

pub ahead_of-requires-2 : goal.ahead_of-requires-2
ahead_of-requires-2 c = first_fits _ _ c.requires.original_most c.requires.right.tiled

pub turns-init : goal.turns-init
turns-init c = rw (c.start-left_side.ensures, c.start-right_side.ensures) (started c.requires _ _ c.ahead_of.ensures c.ahead_of-2.ensures)

pub choose-requires : goal.choose-requires
choose-requires c = let t = c.turns in (
  next_readable _ _ _ t.left_side.ahead.next (list_from c.args.left.operations.now t.left_side.ahead.behind t.left_side.ahead.at) t.invariant.sound.inserts_left,
  next_readable _ _ _ t.right_side.ahead.next (list_from c.args.right.operations.now t.right_side.ahead.behind t.right_side.ahead.at) t.invariant.sound.inserts_right,
)

pub turn-t-requires : goal.turn-t-requires
turn-t-requires c = let t = c.turns in
    rw c.number.ensures
    (seat_turnable _ t.invariant c.in-Some.choice c.in-Some.ensures refl refl
    c.side_of.ensures c.side_of-in-Some.ensures)

pub turns-smaller : goal.turns-smaller
turns-smaller c = let t = c.turns in
    seat_less _ t.invariant c.in-Some.choice c.in-Some.ensures refl refl
    c.side_of.ensures c.side_of-in-Some.ensures (rw c.number.ensures at c.turn-t.ensures) c.side_of-left_side.ensures c.side_of-right_side.ensures

pub turns-preserved : goal.turns-preserved
turns-preserved c = let t = c.turns in
    seat_step _ t.invariant c.in-Some.choice c.in-Some.ensures refl refl
    c.side_of.ensures c.side_of-in-Some.ensures (rw c.number.ensures at c.turn-t.ensures) c.side_of-left_side.ensures c.side_of-right_side.ensures
    c.turn-t.auto.out c.turn-t.auto.moved

pub returns : goal.returns
returns c = let t = c.turns in
    finished t.invariant (none_taken _ t.invariant c.in_default.ensures) c.end_cursors-first.ensures c.end_cursors-second.ensures
