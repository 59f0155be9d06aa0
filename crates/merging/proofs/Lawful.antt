-- The paper's overlap keeps the law that the merge's laws ask of an overlap.
-- It is no longer than new. Assumes nothing.
use Rattle.overlap.proofs.Overlaps.{overlaps}
use Rattle.merging.specs.Lent.{Lent, rules_of, Lawful}

pub lawful : (lent : Lent) → Lawful (rules_of lent)
lawful lent = record { short = λ old new. (overlaps old new).fits }
