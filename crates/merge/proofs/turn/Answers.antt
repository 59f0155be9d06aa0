-- Shown: `turn` meets its contract.
-- How: each way through it is a law of proofs/Turning.antt.
use Rattle.std.specs.Prelude.{Option}
use Rattle.merge.proofs.Turning.{Parts, facing, taken_sound, end_most, removed_most, length_most, awaits_shift, shift_fits, rememberable, emittable, span_most, assembled}
use Rattle.merge.specs.Meetings.{Meets}
use Rattle.merge.specs.declared.Totals.{Totals}
use Rattle.merge.specs.declared.Side.{Side}
use Rattle.merge.specs.declared.Meeting.{Meeting}
use Rattle.cursor_position.specs.declared.Progress.{Progress}
use Rattle.operation.specs.declared.Memory.{Memory}
use Rattle.turns.specs.declared.Ahead.{Ahead}
use Rattle.operation.specs.Views.{of_spans}
use Rattle.operation.specs.declared.Last.{Last}
use Rattle.merging.specs.Operations.{length_of, span_of}
use Rattle.merging.specs.declared.Op.{Op}
use mathlib.Core.Bool.{Bool}
use mathlib.Core.List.{List}
use mathlib.Core.Path.{◌≡◌, ap, ◌∙◌}
use Prim.Native.Nat.{ℕ}
use native.Mathlib.Omega.{arith}
use Rattle.merge.proofs.turn.Goals as goal

-- what was ensured of the front that the split gave, said of what is taken
of-taken :
    {spans keys w w' : List ℕ} {half fill table : ℕ} {x y : Op} {last : Last} {awaited : Bool} {seen merged : ℕ} {r : Meeting} → x ≡ y
    → Meets spans keys w w' half fill table x last awaited seen merged r → Meets spans keys w w' half fill table y last awaited seen merged r
of-taken e m = rw e at m

at-taken :
    {spans keys ops cs w w₁ w₂ : List ℕ} {half : ℕ} {own other : Side} {totals : Totals} {number : ℕ} {out out' moved moved' : List ℕ} {x y : Op} {tail : Option Op}
    {awaited : Bool} {r : Meeting} {p : Progress} {m : Op} {kept : Memory} {place span : ℕ} {coming : Ahead} → x ≡ y
    → Parts spans keys ops cs w w₁ w₂ half own other totals number out out' moved moved' x tail awaited r p m kept place span coming
    → Parts spans keys ops cs w w₁ w₂ half own other totals number out out' moved moved' y tail awaited r p m kept place span coming
at-taken e q = rw e at q

pub split_retain_before-split-requires : goal.split_retain_before-split-requires
split_retain_before-split-requires c = let k = c.requires in (k.sound.reaches, k.next)

pub length_of-length-requires : goal.length_of-length-requires
length_of-length-requires c = rw c.split_retain_before-split.ensures.0 (taken_sound c.requires).lies

pub overflow_add-own : goal.overflow_add-own
overflow_add-own c = omega (arith, c.length_of-length.ensures, ap (length_of (of_spans c.args.tokens.spans.now)) c.split_retain_before-split.ensures.0, end_most c.requires)

pub meet-meeting-requires : goal.meet-meeting-requires
meet-meeting-requires c = (rw c.split_retain_before-split.ensures.0 (facing c.requires), c.length_of-length.ensures)

pub move_side-progress-requires : goal.move_side-progress-requires
move_side-progress-requires c = let e = c.split_retain_before-split.ensures.0 in
    let m = of-taken e c.meet-meeting.ensures in
    (shift_fits c.requires m, c.requires.space, awaits_shift c.requires m _ (c.length_of-length.ensures ∙ ap (length_of (of_spans c.args.tokens.spans.now)) e) c.is_side_awaited-awaited.ensures)

pub shortened-result-requires : goal.shortened-result-requires
shortened-result-requires c = (rw c.split_retain_before-split.ensures.0 (taken_sound c.requires).reaches, c.meet-meeting.ensures.most)

pub remember_operation-kept-requires : goal.remember_operation-kept-requires
remember_operation-kept-requires c = let e = c.split_retain_before-split.ensures.0 in
    let m = of-taken e c.meet-meeting.ensures in
    rw (c.shortened-result.ensures, e) (rememberable c.requires m)

pub overflow_sub-text : goal.overflow_sub-text
overflow_sub-text c = removed_most c.requires (of-taken c.split_retain_before-split.ensures.0 c.meet-meeting.ensures)

pub emit-place-requires : goal.emit-place-requires
emit-place-requires c = let e = c.split_retain_before-split.ensures.0 in
    let m = of-taken e c.meet-meeting.ensures in
    rw (c.shortened-result.ensures, e) (emittable c.requires m)

pub advance_side-coming-requires : goal.advance_side-coming-requires
advance_side-coming-requires c = c.requires.first

pub overflow_add-result : goal.overflow_add-result
overflow_add-result c = omega (arith, length_most c.requires (of-taken c.split_retain_before-split.ensures.0 c.meet-meeting.ensures), c.requires.seen)

pub overflow_add-result-2 : goal.overflow_add-result-2
overflow_add-result-2 c = omega (arith, length_most c.requires (of-taken c.split_retain_before-split.ensures.0 c.meet-meeting.ensures), c.requires.merged)

pub overflow_add-result-3 : goal.overflow_add-result-3
overflow_add-result-3 c = let e = c.split_retain_before-split.ensures.0 in
    let m = of-taken e c.meet-meeting.ensures in
    omega (arith, c.span.ensures, ap span_of (rw e at c.shortened-result.ensures), span_most c.requires m, c.requires.consumed)

pub shape_of-work : goal.shape_of-work
shape_of-work c = c.remember_operation-kept.ensures.kept.same ∙ c.meet-meeting.ensures.scratched.same

pub shape_of-moved : goal.shape_of-moved
shape_of-moved c = c.move_side-progress.auto.out

pub returns : goal.returns
returns c = assembled c.requires
    (at-taken c.split_retain_before-split.ensures.0
    (record {
      awaits = rw c.length_of-length.ensures at c.is_side_awaited-awaited.ensures;
      meets = c.meet-meeting.ensures;
      went = c.move_side-progress.ensures;
      rest = c.shortened-result.ensures;
      remembers = c.remember_operation-kept.ensures;
      emits = c.emit-place.ensures;
      looks = c.advance_side-coming.ensures;
      spans_is = c.span.ensures;
    }))
    c.split_retain_before-split.ensures.1
