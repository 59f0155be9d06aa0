-- `write` writes all operations and tokens.
-- The loop keeps `Walking`; each way through a turn is a law of that file.
use Rattle.raw_lists.specs.Raws.{raws_of}
use Rattle.elongate.proofs.Walking.{Walking}
use Rattle.elongate.specs.Places.{kind_of, left, work, Lies}
use Rattle.elongate.specs.Elongated.{arranged}
use lib.ListN.{length}
use Prim.Native.Nat.{◌/◌}
use Rattle.elongate.proofs.write.Given as goal

abbrev pub invariant-walk : goal.invariant-walk
invariant-walk l = Lies (length l.raw / 3) l.place × Walking l.lent.tokens.spans.now l.lent.tokens.keys.now l.lent.joins.now l.n (arranged kind_of (raws_of l.raw)) l.initial.operations l.initial.spanned l.initial.keyed l.initial.joined (left l.raw l.place) l.current l.written l.operations l.spanned l.keyed l.joined

abbrev pub decreases-walk : goal.decreases-walk
decreases-walk l = work (length l.raw / 3) l.place
