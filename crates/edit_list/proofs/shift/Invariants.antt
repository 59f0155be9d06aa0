-- Shown: `shift` moves the first tokens of the operations on.
-- How: the loop keeps `Shifting`.
use Rattle.edit_list.proofs.Shifting.{Shifting}
use Rattle.edit_list.proofs.shift.Given as goal

abbrev pub invariant-shift : goal.invariant-shift
invariant-shift l = Shifting l.initial.operations l.count l.by l.operations l.i
