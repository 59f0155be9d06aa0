-- A turn of one side, in the code's terms and the definition's. Assumes nothing.
use Rattle.std.specs.Prelude.{ℕ, ◌+◌, ◌-◌, ◌*◌, ◌/◌, ◌≤◌, ◌≡◌, List, [], ◌++◌, length}
use Rattle.room.specs.Placed.{answered}
use Rattle.records.specs.declared.Cursor.{Cursor}
use Rattle.records.specs.Cursors.{cursors_from, flat_cursors}
use Rattle.records.specs.Operations.{flat_operations}
use Rattle.merging.specs.declared.Op.{Op}
use Rattle.merging.specs.declared.Shift.{Shift}
use Rattle.merging.specs.Lent.{Lent, rules_of}
use Rattle.merging.specs.Operations.{Out, length_of, span_of, records_of}
use Rattle.merging.specs.Meeting.{Remembered, front_of, met_of, other_of, remember_of}
use Rattle.merging.specs.Cursors.{shift_of, moved_by, behind_of}
use Rattle.merging.specs.Turn.{emitted}
use Rattle.numbers.specs.Sizes.{most}
use Rattle.operation.specs.Views.{heads, last_of, reach, tokens, of_spans, NextFits, LastFits, Lies, Keyed, Away}
use Rattle.operation.specs.Meets.{tail_by}
use Rattle.operation.specs.declared.Memory.{Memory}
use Rattle.turns.specs.Looking.{list_from, FirstFits, Looks}
use Rattle.turns.specs.Remembering.{Began, Since}
use Rattle.merge.specs.declared.Side.{Side}
use Rattle.merge.specs.declared.Totals.{Totals}
use Rattle.merge.specs.declared.Sides.{Sides}

-- the tokens of an operation are lent, and its numbers do not wrap
pub record Sound (spans keys : List ℕ) (a : Op) : Type 0 where
  pub reaches : reach a ≤ most
  pub lies : Lies spans a
  pub keyed : Keyed keys a
  pub few : tokens a ≤ 8192

-- what is remembered of a side
abbrev pub memory_of : List ℕ → ℕ → Memory → Remembered
memory_of w half m = last_of w half m.fill m.last

-- the cursors of a side that have not moved
abbrev pub cursors_left : List ℕ → ℕ → List Cursor
cursors_left xs i = cursors_from xs i (length xs / 2 - i)

-- "A taken retain is cut": what is taken, and what is met with
abbrev pub taken : Op → Side → Op
taken a other = front_of a (heads other.ahead.next [])

-- "Meet rule": what is left of what is taken
abbrev pub result : Lent → List ℕ → ℕ → Op → Side → Op
result lent w half a other = met_of (rules_of lent) (taken a other) (memory_of w half other.memory)

-- how the cursors of the side move
abbrev pub shift_by : Lent → List ℕ → ℕ → Op → Side → Side → ℕ → Shift
shift_by lent w half a own other merged = shift_of (rules_of lent) (taken a other) (memory_of w half other.memory) own.seen merged

-- what a turn of the side `own`, which takes a, needs
pub record Turnable (spans keys ops cs w : List ℕ) (half : ℕ) (a : Op) (own other : Side) (totals : Totals) (number : ℕ) (out moved : List ℕ) : Type 0 where
  pub sound : Sound spans keys a
  pub next : NextFits other.ahead.next
  pub last : LastFits other.memory.last
  pub away : Away other.memory.last other.memory.fill own.memory.fill (tokens a)
  pub began : Began own.memory.last own.memory.fill
  pub place : own.memory.fill + tokens a ≤ half
  pub filled : other.memory.fill ≤ half
  pub small : half ≤ 65536
  pub halves : half + half ≤ length w
  pub seen : own.seen + length_of (of_spans spans) a ≤ most
  pub merged : totals.merged + length_of (of_spans spans) a ≤ most
  pub consumed : totals.consumed + span_of a ≤ most
  pub first : FirstFits own.ahead.at (list_from ops own.ahead.behind own.ahead.at)
  pub space : (totals.cursors + (length cs / 2 - own.cursor)) * 2 ≤ length moved
  pub room : (lent : Lent) → lent.spans ≡ spans → lent.keys ≡ keys
      → (totals.operations + length (emitted number totals.consumed (result lent w half a other))) * 6 ≤ length out

-- what a turn of the side `own` makes: each value is the definition's, whatever else was lent
pub record Made (lent : Lent) (cs w w' : List ℕ) (half : ℕ) (a : Op) (own other : Side) (totals : Totals) (number : ℕ) (out out' moved moved' : List ℕ) (r : Sides) : Type 0 where
  pub last : memory_of w' half r.own.memory ≡ remember_of lent (memory_of w half own.memory) (result lent w half a other)
  pub heard : memory_of w' half r.other.memory ≡ other_of (rules_of lent) (taken a other) (memory_of w half other.memory)
  pub seen : r.own.seen ≡ own.seen + length_of lent (taken a other)
  pub cursors : cursors_left cs r.own.cursor ≡ behind_of (taken a other) (shift_by lent w half a own other totals.merged) (cursors_left cs own.cursor)
  pub merged : r.totals.merged ≡ totals.merged + length_of lent (result lent w half a other)
  pub consumed : r.totals.consumed ≡ totals.consumed + span_of (result lent w half a other)
  pub operations : r.totals.operations ≡ totals.operations + length (emitted number totals.consumed (result lent w half a other))
  pub out_grows : (outs : List Out) (d : List ℕ) → totals.operations ≡ length outs → out ≡ answered (flat_operations (records_of lent outs)) d
      → out' ≡ answered (flat_operations (records_of lent (outs ++ emitted number totals.consumed (result lent w half a other)))) d
  pub moved_count : r.totals.cursors ≡ totals.cursors + length (moved_by (taken a other) (shift_by lent w half a own other totals.merged) (cursors_left cs own.cursor))
  pub moved_grows : (ms : List Cursor) (d : List ℕ) → totals.cursors ≡ length ms → moved ≡ answered (flat_cursors ms) d
      → moved' ≡ answered (flat_cursors (ms ++ moved_by (taken a other) (shift_by lent w half a own other totals.merged) (cursors_left cs own.cursor))) d

-- the statement of a turn: what is made, what is next, and the bounds that the next turn needs
pub record Turns (spans keys ops cs w w' : List ℕ) (half : ℕ) (a : Op) (own other : Side) (totals : Totals) (number : ℕ) (out out' moved moved' : List ℕ) (r : Sides) : Type 0 where
  pub looks : Looks ops (tail_by a (heads other.ahead.next [])) own.ahead.behind own.ahead.at r.own.ahead
  pub made : (lent : Lent) → lent.spans ≡ spans → lent.keys ≡ keys → Made lent cs w w' half a own other totals number out out' moved moved' r
  pub ahead : r.other.ahead ≡ other.ahead
  pub waited : r.other.seen ≡ other.seen
  pub stood : r.other.cursor ≡ other.cursor
  pub fits : LastFits r.other.memory.last
  pub own_fits : LastFits r.own.memory.last
  pub filled : r.own.memory.fill ≤ own.memory.fill + tokens a
  pub grown : own.memory.fill ≤ r.own.memory.fill
  pub heard_fill : r.other.memory.fill ≡ other.memory.fill
  pub since : (base : ℕ) → Since other.memory.last base other.memory.fill → Since r.other.memory.last base r.other.memory.fill
  pub own_since : (base : ℕ) → base ≤ own.memory.fill → Since own.memory.last base own.memory.fill → Since r.own.memory.last base r.own.memory.fill
  pub space : r.totals.cursors + (length cs / 2 - r.own.cursor) ≡ totals.cursors + (length cs / 2 - own.cursor)
  pub same : length w' ≡ length w
