-- `write` writes the first n bytes of a buffer that has them.
-- The test before it says that it has.
use mathlib.Core.Path.{sym}
use lib.Seq.{length-take-le}
use Rattle.fleecelatch.proofs.write.Goals as goal

pub slice_bounds-write_all-end : goal.slice_bounds-write_all-end
slice_bounds-write_all-end c = sym (length-take-le _ _ c.if-n-out.true)
