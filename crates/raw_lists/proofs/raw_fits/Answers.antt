-- `raw_fits` tells whether a raw list keeps its sizes.
-- The others are by the laws that the function names.
use Rattle.raw_lists.proofs.Checking.{size_used}
use Rattle.raw_lists.proofs.raw_fits.Goals as goal

pub returns-then-claimed-le16384 : goal.returns-then-claimed-le16384
returns-then-claimed-le16384 c = size_used _ _ _ _ _ c.if-n-gt131070.false (rw c.count.ensures at c.if-count-gt8192.false) _ c.claimed.ensures c.if-claimed-le16384.true _ c.used_text.ensures
