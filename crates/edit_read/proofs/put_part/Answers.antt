use Rattle.std.proofs.Common.{◌≡◌, ◌∙◌, sym, pos, neg_ℤ, w64, arith}
use mir.Facts.{to_z-of_z}
use Rattle.room.specs.Choice.{pick}
use Rattle.edit_lines.proofs.Lines.{starts}
use Rattle.edit_read.proofs.Filling.{part_put}
use Rattle.edit_read.proofs.put_part.Goals.{then-keep, else-keep}
use Rattle.edit_read.proofs.put_part.Goals as goal

pub overflow_add-from : goal.overflow_add-from
overflow_add-from c = omega (arith, starts c.requires.1.number)

pub judged_line-line-requires : goal.judged_line-line-requires
judged_line-line-requires c = c.requires.1.number

pub returns : goal.returns
returns c =
    let n : c.if-keep.number ≡ pick c.args.keep (pos c.judged_line-line.result.value) (neg_ℤ (pos c.judged_line-line.result.value)) =
    elim c.if-keep.branch [
      | then-keep w ↦ rw w.if-keep.true (sym c.if-keep.number-is ∙ w.number-is ∙ to_z-of_z {w = w64} {z = w.plain_number-number.result} (record { sfits = w.plain_number-number.type_inv }) ∙ w.plain_number-number.ensures)
      | else-keep w ↦ rw w.if-keep.false (sym c.if-keep.number-is ∙ w.number-is ∙ to_z-of_z {w = w64} {z = w.dropped_number-number.result} (record { sfits = w.dropped_number-number.type_inv }) ∙ w.dropped_number-number.ensures)
    ]
    in
    part_put _ _ _ _ _ _ c.requires.1 c.judged_line-line.ensures n (c.put_record.ensures ∙ rw c.if-keep.number-is)
