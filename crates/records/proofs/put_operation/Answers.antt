-- `put_operation` stores the record's numbers at its place. Each store stays in the room, since a store keeps the room's length.
use native.Mathlib.Omega.{arith}
use lib.ListN.{length-set}
use Rattle.records.proofs.put_operation.Goals as goal

pub bounds-out-b-2 : goal.bounds-out-b-2
bounds-out-b-2 c = simp length-set (omega arith)

pub bounds-out-b-3 : goal.bounds-out-b-3
bounds-out-b-3 c = simp length-set (omega arith)

pub bounds-out-b-4 : goal.bounds-out-b-4
bounds-out-b-4 c = simp length-set (omega arith)

pub bounds-out-b-5 : goal.bounds-out-b-5
bounds-out-b-5 c = simp length-set (omega arith)

pub bounds-out-b-6 : goal.bounds-out-b-6
bounds-out-b-6 c = simp length-set (omega arith)
