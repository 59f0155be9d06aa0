-- Shown: `put_item` puts the run of an item.
-- How: each kind of item is a law of proofs/Writing.antt.
use native.Mathlib.Omega.{arith}
use mathlib.Core.Path.{sym, ◌∙◌}
use Rattle.edit_list.proofs.Writing.{retain_run, delete_run, no_run, insert_in, insert_fits, insert_puts}
use Rattle.edit_list.proofs.RawRooms.put_item.Goals as goal

pub item_at-requires : goal.item_at-requires
item_at-requires c = omega (arith, c.requires.0.items_fit)

pub put_part-requires : goal.put_part-requires
put_part-requires c = rw (retain_run _ _ _ _ (sym c.item_at.ensures ∙ c.in-Retain.is)) at c.requires.1

pub put_part-requires-in-Delete : goal.put_part-requires-in-Delete
put_part-requires-in-Delete c = rw (delete_run _ _ _ _ (sym c.item_at.ensures ∙ c.in-Delete.is)) at c.requires.1

pub overflow_add-at : goal.overflow_add-at
overflow_add-at c = record { fits = omega (arith, insert_in _ _ _ _ _ _ _ _ _ _ _ c.requires.0 c.requires.1 (sym c.item_at.ensures ∙ c.in-Insert.is), c.requires.0.most) }

pub put_points-requires : goal.put_points-requires
put_points-requires c = insert_fits _ _ _ _ _ _ _ _ _ _ _ c.requires.0 c.requires.1 (sym c.item_at.ensures ∙ c.in-Insert.is)

pub returns-in-Retain-clause-run : goal.returns-in-Retain-clause-run
returns-in-Retain-clause-run c = rw (retain_run _ _ _ _ (sym c.item_at.ensures ∙ c.in-Retain.is)) c.put_part.ensures.run

pub returns-in-Delete-clause-run : goal.returns-in-Delete-clause-run
returns-in-Delete-clause-run c = rw (delete_run _ _ _ _ (sym c.item_at.ensures ∙ c.in-Delete.is)) c.put_part-in-Delete.ensures.run

pub returns-in-Insert-clause-run : goal.returns-in-Insert-clause-run
returns-in-Insert-clause-run c = insert_puts _ _ _ _ _ _ _ _ _ _ _ c.requires.0 c.requires.1 (sym c.item_at.ensures ∙ c.in-Insert.is) (c.put_points.ensures.raw ∙ c.put.ensures.stands) c.put_points.ensures.tokens

pub returns-in-Neither : goal.returns-in-Neither
returns-in-Neither c = absurd (no_run _ _ _ _ _ _ _ _ (sym c.item_at.ensures ∙ c.in-Neither.is) c.requires.1)

pub overflow_add-result : goal.overflow_add-result
overflow_add-result c = record { fits = omega (arith, (insert_fits _ _ _ _ _ _ _ _ _ _ _ c.requires.0 c.requires.1 (sym c.item_at.ensures ∙ c.in-Insert.is)).in_keys) }
