-- Shown: `put_on` puts what goes into the room and leaves what stays.
-- How: `Moving` of Going.antt is the loop's invariant, whatever the closure is known to give; one of its laws answers each way through a turn.
use Rattle.std.proofs.Common.{◌≡◌, ℕ, ◌+◌, ◌-◌, ◌/◌, Option, length}
use Rattle.records.proofs.EachLaws.{ReadsCursors}
use Rattle.cursor_position.specs.Moves.{Places}
use Rattle.cursor_position.proofs.Going.{Moving}
use Rattle.cursor_position.proofs.put_on.Given as goal

abbrev pub invariant-going : goal.invariant-going
invariant-going g l = record {
  reads : ReadsCursors l.cursors l.c-iterator;
  same : l.gone.next ≡ l.c-iterator.next;
  space : l.gone.count + (length l.cursors / 2 - l.gone.next) ≡ l.initial.gone.count + (length l.cursors / 2 - l.initial.gone.next);
  moves : (f : ℕ → Option ℕ) → Places (λ m i r. g.F.Fn.post m (i, tt) r) l.place f
      → Moving f l.cursors (length l.cursors / 2) l.initial.out l.initial.gone.next l.initial.gone.count l.out l.gone.next l.gone.count;
}
