-- Shown: `number_at` answers `scan`.
-- How: by the invariant of its loop, below, and the laws of proofs/Leaves.antt.
use lib.ListN.{length, drop}
use mathlib.Core.Path.{◌≡◌}
use Prim.Native.Nat.{◌≤◌}
use Rattle.edit_lines.specs.Scan.{scan, more}
use Rattle.edit_lines.proofs.number_at.Given as goal

abbrev pub invariant-digits : goal.invariant-digits
invariant-digits l = (l.i ≤ length l.bytes) × (l.n ≤ 2000000) × (scan l.base l.at (drop l.at l.bytes) ≡ more l.base l.n l.i (drop l.i l.bytes))
