-- What the writer's passes find: sums, and the first item that cannot be written. Assumes nothing.
use Rattle.std.specs.Prelude.{◌≡◌, Bool, true, false, not, ◌&&◌, ℕ, ◌+◌, List, length, leb, ltb, Option, Some, None, Result, Ok}
use Rattle.room.specs.Choice.{pick}
use Rattle.refusal.specs.declared.Refusal.{Refusal}
use Rattle.refusal.specs.declared.Refusal.TheVariants.{Size}
use Rattle.diff.specs.declared.diff.Item.{Item as Lent}
use Rattle.diff.specs.declared.diff.Item.TheVariants.{Retain, Delete, Insert, Neither}
use Rattle.diff.specs.Checks.{refuse_if}
use Rattle.edit_format.specs.Items.{Item, kept, dropped, added}
use Rattle.edit_format.specs.Written.{item_lines}
use Rattle.written_lines.specs.Lengths.{cap}
use Rattle.writable.specs.Writable.{shapes}
use Rattle.writable.specs.declared.Sums.{Sums}
use Rattle.writable.specs.declared.Checked.{Checked}
use Rattle.verdict.specs.Verdicts.{and_then, Verdict, accepted}

-- "Keep plus drop is original, keep plus added is result": the sums of some items
abbrev pub sums_of : List Item → Sums
sums_of is = record { kept = kept is; used = kept is + dropped is; added = added is }

-- 3: the sums with one item more, unless that passes its size
unfoldable pub sums_with : Sums → Lent → Option Sums
sums_with s (Retain n) = pick (leb (s.used + n) 65535) (Some (record { kept = s.kept + n; used = s.used + n; added = s.added })) None
sums_with s (Delete n) = pick (leb (s.used + n) 65535) (Some (record { kept = s.kept; used = s.used + n; added = s.added })) None
sums_with s (Insert at n) = pick (leb (s.added + n) 131070) (Some (record { kept = s.kept; used = s.used; added = s.added + n })) None
sums_with s Neither = Some s

-- 1: whether an item is a keep, unless no line can say it, behind a keep or not
unfoldable pub keeps : Bool → Lent → Option Bool
keeps k (Retain n) = pick (leb 1 n && not k) (Some true) None
keeps k (Delete n) = pick (leb 1 n) (Some false) None
keeps k (Insert at n) = pick (leb 1 n) (Some false) None
keeps k Neither = None

-- 3: the sums, unless one passes its size
unfoldable pub tally_of : List Item → Result Sums Refusal
tally_of is = and_then (and_then (refuse_if (ltb 131070 (added is)) Size) (refuse_if (ltb 65535 (kept is + dropped is)) Size)) (Ok (sums_of is))

-- the sums and the length of the lines, where nothing is refused
abbrev pub checked_by : Verdict → List Item → Result Checked Refusal
checked_by v is = and_then v (Ok (record { sums = sums_of is; lines = cap (length (item_lines is)) }))

-- neither sizes nor shapes refuse items with these sums and this length of their lines
pub record Sound (is : List Item) (s : Sums) (n : ℕ) : Type 0 where
  pub fits : Ok s ≡ tally_of is
  pub good : accepted ≡ shapes false 0 is
  pub lines : n ≡ cap (length (item_lines is))
