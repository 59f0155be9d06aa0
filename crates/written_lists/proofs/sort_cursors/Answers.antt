-- `sort_cursors` puts the whole cursors of a slice, sorted.
-- They are those of its even part, by Sorting.
use Rattle.written_lists.proofs.Sorting.{of_take, even_part, even_fits}
use mathlib.Core.Path.{sym}
use Rattle.written_lists.proofs.sort_cursors.Goals as goal

pub slice_bounds-sort_into-end : goal.slice_bounds-sort_into-end
slice_bounds-sort_into-end c = rw c.count-whole.ensures (sym (even_part c.args.cursors.now))

pub sort_into-requires : goal.sort_into-requires
sort_into-requires c = rw c.count-whole.ensures (even_fits c.args.cursors.now c.args.moved.now c.requires)

pub returns : goal.returns
returns c = rw (c.count-whole.ensures, of_take _) at c.sort_into.ensures
