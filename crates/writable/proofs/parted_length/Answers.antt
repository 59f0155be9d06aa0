-- `parted_length` answers the length of all code points with a byte beside each, held up to the cap.
-- Each way through it is a law of proofs/Looking.antt.
use mathlib.Core.Path.{sym}
use borrow.Author.Tests.{eqb-true, eqb-false}
use Rattle.writable.proofs.Looking.{no_text, parted}
use Rattle.writable.proofs.parted_length.Goals as goal

pub returns-then-is_empty : goal.returns-then-is_empty
returns-then-is_empty c = no_text _ (eqb-true _ _ (sym c.if-is_empty.ensures))

pub returns : goal.returns
returns c = parted _ (eqb-false _ _ (sym c.if-is_empty.ensures)) c.points_length.ensures c.plus.ensures
