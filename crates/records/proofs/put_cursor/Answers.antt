-- `put_cursor` stores the record's numbers at its place. Each store stays in the room, since a store keeps the room's length.
use native.Mathlib.Omega.{arith}
use lib.ListN.{length-set}
use Rattle.records.proofs.put_cursor.Goals as goal

pub bounds-out-b-2 : goal.bounds-out-b-2
bounds-out-b-2 c = simp length-set (omega arith)
