-- Shown: `to_diff` answers and leaves its rooms as the definition says.
-- How: each way is a law of proofs/Answering.antt.
use Rattle.checks.proofs.Telling.{says_yes}
use Rattle.to_diff.proofs.Answering.{ready, refuses, ample_fits, items_short, text_short, room_enough, writes}
use Rattle.merging.specs.Lent.{lent_in}
use Rattle.records.specs.Operations.{operations_of}
use Rattle.to_diff.specs.Answers.{verdict_on}
use mathlib.Core.Path.{sym}
use Rattle.std.proofs.lemmas.Result.{err_from_is_err_and}
use Rattle.to_diff.proofs.to_diff.Goals as goal
use Rattle.to_diff.proofs.to_diff.Goals.{then-room-counts-via-then-room-counts, then-room-counts-via-else-room-counts+then-out-counts, then-room-count+else-room-counts+else-out-counts, else-room-count+else-out-lengths}
use Rattle.to_diff.specs.Writes.{items, Fits}

pub returns-in_err-lengths : goal.returns-in_err-lengths
returns-in_err-lengths c =
    let p = err_from_is_err_and c.from_residual.result c.from_residual.ensures.1 in
    rw (p.1, p.2) (refuses _ _ _ _ _ _ _ _ c.in_err-lengths.ensures)

pub measure-counts-requires : goal.measure-counts-requires
measure-counts-requires c = let a = c.args in
    let h = says_yes (verdict_on (lent_in a.lent) (operations_of a.operations.now)) _ _ (sym c.in_ok-lengths.ensures) in
    ready a.lent.original.now _ _ _ _ h

pub returns-then-room-counts : goal.returns-then-room-counts
returns-then-room-counts c = let a = c.args in
    let h = says_yes (verdict_on (lent_in a.lent) (operations_of a.operations.now)) _ _ (sym c.in_ok-lengths.ensures) in
    elim c.then-room-counts.branch [
      | then-room-counts-via-then-room-counts w ↦ items_short _ _ _ _ _ h c.measure-counts.result c.measure-counts.ensures _ _ w.if-room-counts.true
      | then-room-counts-via-else-room-counts+then-out-counts w ↦
          text_short _ _ _ _ _ h c.measure-counts.result c.measure-counts.ensures _ _ w.if-room-counts.false w.if-out-counts.true
    ]

pub write-requires : goal.write-requires
write-requires c = let a = c.args in
    let h = says_yes (verdict_on (lent_in a.lent) (operations_of a.operations.now)) _ _ (sym c.in_ok-lengths.ensures) in (
      ready a.lent.original.now _ _ _ _ h,
      elim c.if-room-count.branch [
        | then-room-count+else-room-counts+else-out-counts w ↦
            room_enough a.lent.original.now _ _ _ _ h w.measure-counts.result w.measure-counts.ensures _ _ w.if-room-counts.false w.if-out-counts.false
        | else-room-count+else-out-lengths w ↦
            ample_fits a.lent.original.now _ _ _ a.operations.now _ _ _ c.in_ok-lengths.ensures (rw c.count.ensures at w.if-room-count.false) w.if-out-lengths.false
      ],
    )

pub returns : goal.returns
returns c = let a = c.args in
    let h = says_yes (verdict_on (lent_in a.lent) (operations_of a.operations.now)) _ _ (sym c.in_ok-lengths.ensures) in
    let f : Fits (items a.lent.text.now a.lent.tokens.spans.now a.lent.tokens.keys.now (operations_of a.operations.now)) a.room.now a.out.now =
    elim c.if-room-count.branch [
      | then-room-count+else-room-counts+else-out-counts w ↦
          room_enough a.lent.original.now _ _ _ _ h w.measure-counts.result w.measure-counts.ensures _ _ w.if-room-counts.false w.if-out-counts.false
      | else-room-count+else-out-lengths w ↦
          ample_fits a.lent.original.now _ _ _ a.operations.now _ _ _ c.in_ok-lengths.ensures (rw c.count.ensures at w.if-room-count.false) w.if-out-lengths.false
    ] in
    writes a.lent.original.now _ _ _ _ h f c.write.ensures
