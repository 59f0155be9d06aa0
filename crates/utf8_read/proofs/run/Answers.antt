use Rattle.utf8_read.proofs.Judging.{stretch-calm}
use Rattle.utf8_read.proofs.run.Goals as goal

pub run-preserved-then-calm_window : goal.run-preserved-then-calm_window
run-preserved-then-calm_window c =
    let a = c.ascii_end-e.ensures in
    stretch-calm _ c.run.invariant (c.calm_window.ensures c.if-calm_window.true) a.0 a.1 (λ k l h. a.2 k 0 l h)
