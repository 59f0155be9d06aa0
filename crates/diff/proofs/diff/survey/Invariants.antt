-- `survey` finds too much text, the first item that is neither, or what is used. Its turns are those of Placing (Turns).
use Rattle.diff.proofs.Turns.{Placing}
use Rattle.diff.proofs.diff.survey.Given as goal

abbrev pub invariant-items : goal.invariant-items
invariant-items l = Placing l.items l.lent l.i l.sum l.bad
