-- `list_fits` tells whether a list keeps its sizes.
-- One law of Fits for each test.
use Rattle.sizes.proofs.Fits.{fits_operations, fits_cursors, fits_tokens, fits_text}
use Rattle.sizes.proofs.list_fits.Goals as goal

pub returns-then-limits-count : goal.returns-then-limits-count
returns-then-limits-count c = fits_operations c.args.limits c.args.n c.args.tokens.spans.now c.args.tokens.keys.now c.args.list.operations.now c.args.list.cursors.now (rw c.count.ensures at c.if-limits-count.true)

pub returns-then-limits-count-2 : goal.returns-then-limits-count-2
returns-then-limits-count-2 c = fits_cursors c.args.limits c.args.n c.args.tokens.spans.now c.args.tokens.keys.now c.args.list.operations.now c.args.list.cursors.now
    (rw c.count.ensures at c.if-limits-count.false) (rw c.count-2.ensures at c.if-limits-count-2.true)

pub returns-then-limits-claimed : goal.returns-then-limits-claimed
returns-then-limits-claimed c = fits_tokens c.args.limits c.args.n c.args.tokens.spans.now c.args.tokens.keys.now c.args.list.operations.now
    c.args.list.cursors.now (rw c.count.ensures at c.if-limits-count.false) (rw c.count-2.ensures at c.if-limits-count-2.false) c.claimed.result c.claimed.ensures c.requires c.if-limits-claimed.true

pub returns : goal.returns
returns c = fits_text c.args.limits c.args.n c.args.tokens.spans.now c.args.tokens.keys.now c.args.list.operations.now
    c.args.list.cursors.now (rw c.count.ensures at c.if-limits-count.false) (rw c.count-2.ensures at c.if-limits-count-2.false) c.claimed.result c.claimed.ensures c.requires c.if-limits-claimed.false
    c.inserted.result c.inserted.ensures
