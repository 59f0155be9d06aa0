-- Shown: `fill` meets its contract.
-- How: loop `items` keeps `Filling`, and each way through it is a law of proofs/Filled.antt.
use Rattle.edit_read.proofs.Filled.{Filling}
use Rattle.edit_read.proofs.fill.Given as goal

abbrev pub invariant-items : goal.invariant-items
invariant-items l = Filling l.bytes l.fn.file.items l.initial.items l.initial.text l.items l.text l.spot.next l.spot.start l.i
