-- Shown: `judge_items` meets its contract.
-- How: loop `items` keeps `Judging`, and each way through it is a law of proofs/Judging.antt.
use Rattle.edit_read.specs.Judged.{Judging}
use Rattle.edit_read.proofs.judge_items.Given as goal

abbrev pub invariant-items : goal.invariant-items
invariant-items l = Judging l.bytes l.h l.s l.i
