use Rattle.std.proofs.Common.{◌≡◌, true, false, sym, ◌∙◌, arith}
use Rattle.room.specs.Choice.{pick}
use Rattle.room.proofs.Choices.{no_way}
use Rattle.edit_read.proofs.ItemLines.{part_off, part_joined, part_none, part_over, part_fits}
use Rattle.edit_read.proofs.part_line.Goals.{else-keep-via-then-keep+else-s, else-keep-via-else-keep, then-value-lt1-via-then-value-lt1, then-value-lt1-via-else-value-lt1+then-s-value, then-keep-2, else-keep-2}
use Rattle.edit_read.proofs.part_line.Goals as goal

pub returns-in_err-value : goal.returns-in_err-value
returns-in_err-value c = rw c.from_residual.ensures (part_off _ _ _ (rw c.part_key.ensures at (sym c.in_err-value.ensures)))

pub returns-then-s : goal.returns-then-s
returns-then-s c = part_joined _ _ _ (rw c.part_key.ensures at (sym c.in_ok-value.ensures)) c.if-keep.true c.if-s.true

pub returns-then-value-lt1 : goal.returns-then-value-lt1
returns-then-value-lt1 c = elim c.then-value-lt1.branch [
  | then-value-lt1-via-then-value-lt1 w ↦ part_none _ _ _ (rw c.part_key.ensures at (sym c.in_ok-value.ensures)) w.if-value-lt1.true
  | then-value-lt1-via-else-value-lt1+then-s-value w ↦ part_over _ _ _ (rw c.part_key.ensures at (sym c.in_ok-value.ensures)) (omega (arith, w.if-s-value.true, c.requires.used))
]

pub returns : goal.returns
returns c =
    let f : c.args.keep ≡ true → c.args.s.joined ≡ false =
    λ t. elim c.else-keep.branch [ else-keep-via-then-keep+else-s w ↦ w.if-s.false | else-keep-via-else-keep w ↦ no_way (sym w.if-keep.false ∙ t) ]
    in
    let k : c.if-keep-2.kept ≡ pick c.args.keep c.in_ok-value.field-0.value 0 =
    elim c.if-keep-2.branch [ then-keep-2 w ↦ rw w.if-keep-2.true w.kept-is | else-keep-2 w ↦ rw w.if-keep-2.false w.kept-is ]
    in
    part_fits _ _ _ c.requires (rw c.part_key.ensures at (sym c.in_ok-value.ensures)) f (omega arith) (omega (arith, c.requires.used)) k
