-- `calm_end` goes on by blocks of ASCII bytes.
-- One block, then as many as come four at a time.
use Prim.Native.Nat.{◌-◌, ◌≤◌}
use lib.ListN.{length}
use Rattle.utf8_read.specs.Window.{Ascii}
use Rattle.utf8_points.proofs.calm_end.Given as goal

abbrev pub invariant-calm : goal.invariant-calm
invariant-calm l = (l.at ≤ l.end) × (l.end ≤ length l.bytes) × Ascii l.bytes l.at l.end

abbrev pub decreases-calm : goal.decreases-calm
decreases-calm l = length l.bytes - l.end
