-- Shown: `meet` meets its contract.
-- How: each way through it is a law of proofs/Meetings.antt.
use Rattle.merge.proofs.Meetings.{meetable, lost_most, reaches, placeable, meets}
use Rattle.operation.specs.Views.{Reaches, size}
use Rattle.operation.specs.declared.Met.{Met}
use mathlib.Core.Path.{sym, subst}
use Prim.Native.Nat.{◌≤◌}
use Rattle.merge.proofs.meet.Goals as goal

pub merge_operations_consuming_insert-met-requires : goal.merge_operations_consuming_insert-met-requires
merge_operations_consuming_insert-met-requires c = meetable _ _ c.requires.0

pub shift_of-requires : goal.shift_of-requires
shift_of-requires c = let f = c.requires.0 in
    let m = c.merge_operations_consuming_insert-met.ensures in
    let b = c.args.a.op in
    let v = c.args.memory.last in
    (f.lies, subst (λ (x : Met). x.lost ≤ size b) (sym m.value) (lost_most _ _ _ b v f.keyed), placeable b v f m.scratched _ m.value)

pub used_up-requires : goal.used_up-requires
used_up-requires c = let m = c.merge_operations_consuming_insert-met.ensures in
    let v = c.args.memory in
    subst (λ (x : Met). Reaches v.last x v.fill) (sym m.value) (reaches c.args.a.op v.last c.requires.0)

pub returns : goal.returns
returns c = let m = c.merge_operations_consuming_insert-met.ensures in
    meets c.args.a.op c.args.memory.last c.requires.0 m.scratched _ _ _ _ _ _ _ c.requires.1 m.value c.shift_of.ensures c.used_up.ensures
