-- Shown: `check` gives refusals 3, 4, 1 and 2 of a list, or the lengths of its texts.
-- How: the check of lists, with the sizes for diffs and no cursors.
use Rattle.sizes.proofs.Fits.{other_small}
use Rattle.to_diff.proofs.Answering.{checked}
use Rattle.to_diff.proofs.check.Goals as goal

pub sum_list-requires : goal.sum_list-requires
sum_list-requires c = other_small c.other_limits.ensures

pub returns : goal.returns
returns c = checked _ _ _ _ _ _ _ c.other_limits.ensures c.sum_list.ensures
