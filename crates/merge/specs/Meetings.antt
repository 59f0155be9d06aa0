-- What a taken operation meets, from the code's values to the merge's definition. Assumes nothing.
use Rattle.std.specs.Prelude.{ℕ, ◌+◌, ◌≤◌, ◌≡◌, Bool, List, length}
use Rattle.room.specs.Choice.{pick}
use Rattle.merging.specs.declared.Op.{Op}
use Rattle.merging.specs.declared.Shift.{Shift}
use Rattle.merging.specs.Lent.{Lent, rules_of}
use Rattle.merging.specs.Meeting.{lost_of, other_of}
use Rattle.merging.specs.Cursors.{shift_of, removed_of}
use Rattle.operation.specs.declared.Last.{Last}
use Rattle.operation.specs.declared.Met.{Met}
use Rattle.operation.specs.Views.{LastFits, Lies, Keyed, Away, Scratched, tokens, size, of_spans, last_of}
use Rattle.operation.specs.Meets.{place_by}
use Rattle.turns.specs.Remembering.{Since}
use Rattle.merge.specs.declared.Meeting.{Meeting}

-- a shift whose place is left out where no cursor waits for it
abbrev pub placed_if : Bool → Shift → Shift
placed_if b t =
    record {
      seen = t.seen;
      length = t.length;
      removed = t.removed;
      start = pick b t.start t.merged;
      shared = pick b t.shared 0;
      merged = t.merged;
    }

-- the shift in the code's own terms
pub record Shifted (spans w : List ℕ) (half fill : ℕ) (a : Op) (last : Last) (m : Met) (awaited : Bool) (seen own merged : ℕ) (r : Shift) : Type 0 where
  pub seen_is : r.seen ≡ seen
  pub length_is : r.length ≡ own
  pub removed_is : r.removed ≡ removed_of (rules_of (of_spans spans)) a m.lost
  pub start_is : r.start ≡ pick awaited (place_by w half fill a last m merged).start merged
  pub shared_is : r.shared ≡ pick awaited (place_by w half fill a last m merged).shared 0
  pub merged_is : r.merged ≡ merged

-- what an operation needs to meet what is remembered of the other side: its tokens are lent, and the work room, two halves, has place
-- for its table in the first, beside what is remembered
pub record Facing (spans keys w : List ℕ) (half fill table : ℕ) (a : Op) (last : Last) : Type 0 where
  pub fits : LastFits last
  pub lies : Lies spans a
  pub keyed : Keyed keys a
  pub few : tokens a ≤ 8192
  pub place : table + tokens a ≤ half
  pub filled : fill ≤ half
  pub small : half ≤ 65536
  pub room : half + half ≤ length w
  pub away : Away last fill table (tokens a)

-- what was met is the definition's, whatever else was lent
pub record Meets (spans keys w w' : List ℕ) (half fill table : ℕ) (a : Op) (last : Last) (awaited : Bool) (seen merged : ℕ) (r : Meeting) : Type 0 where
  pub lost : (lent : Lent) → lent.spans ≡ spans → lent.keys ≡ keys → r.lost ≡ lost_of (rules_of lent) a (last_of w half fill last)
  pub most : r.lost ≤ size a
  pub shift : (lent : Lent) → lent.spans ≡ spans → lent.keys ≡ keys → r.shift ≡ placed_if awaited (shift_of (rules_of lent) a (last_of w half fill last) seen merged)
  pub start : r.shift.start ≤ merged
  pub stays : (lent : Lent) → lent.spans ≡ spans → lent.keys ≡ keys → last_of w' half fill r.last ≡ other_of (rules_of lent) a (last_of w half fill last)
  pub fits : LastFits r.last
  pub since : (base : ℕ) → Since last base fill → Since r.last base fill
  pub scratched : Scratched w w' table (tokens a)
