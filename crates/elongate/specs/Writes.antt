-- What the walk asks and leaves. The lists are given in the order of the walk. Assumes nothing.
use Rattle.std.specs.Prelude.{ℕ, ◌+◌, ◌*◌, ◌≤◌, ◌≡◌, List, length}
use Rattle.room.specs.Placed.{placed, answered}
use Rattle.records.specs.Operations.{flat_operations}
use Rattle.raw_lists.specs.declared.Raw.{Raw}
use Rattle.raw_lists.specs.Raws.{Piece, flat_spans, flat_keys, flat_joins, pieces_lent, runs_of}
use Rattle.raw_lists.specs.Good.{AllGood, counts}
use Rattle.elongate.specs.declared.Current.{Current}
use Rattle.elongate.specs.declared.Written.{Written}
use Rattle.elongate.specs.Elongated.{pieces_length, all_tokens}
use Rattle.elongate.specs.Currents.{none, closed, cooked_on}

-- a raw operation's tokens are lent, and the rooms reach as far as they would
pub record Fits (spans keys joins : List ℕ) (r : Raw) (s k j : List ℕ) (at : ℕ) : Type 0 where
  pub lent : r.first + r.count ≤ pieces_lent spans keys joins
  pub in_spans : (at + r.count) * 2 ≤ length s
  pub in_keys : at + r.count ≤ length k
  pub in_joins : at + r.count ≤ length j

-- tokens put at a place of their three rooms
pub record Appended (ps : List Piece) (at : ℕ) (s k j s' k' j' : List ℕ) : Type 0 where
  pub in_spans : s' ≡ placed s (at * 2) (flat_spans ps)
  pub in_keys : k' ≡ placed k at (flat_keys ps)
  pub in_joins : j' ≡ placed j at (flat_joins ps)

-- the current operation, put at a place of its room where there is one
pub record Closed (c : Current) (at : ℕ) (o o' : List ℕ) (r : ℕ) : Type 0 where
  pub next : r ≡ at + length (closed c)
  pub stands : o' ≡ placed o (at * 6) (flat_operations (closed c))

-- what the walk asks: good operations, sums that do not wrap, rooms that reach as far as the answer
pub record Ready (spans keys joins : List ℕ) (n : ℕ) (rs : List Raw) (o s k j : List ℕ) : Type 0 where
  pub good : AllGood n spans keys joins rs
  pub small : pieces_length (all_tokens (runs_of spans keys joins rs)) ≤ 900000
  pub few : counts rs ≤ 900000
  pub operations : length (cooked_on none (runs_of spans keys joins rs)) * 6 ≤ length o
  pub in_spans : counts rs * 2 ≤ length s
  pub in_keys : counts rs ≤ length k
  pub in_joins : counts rs ≤ length j

-- what it leaves in its four rooms, and counts
pub record Wrote (spans keys joins : List ℕ) (rs : List Raw) (o s k j o' s' k' j' : List ℕ) (r : Written) : Type 0 where
  pub operations : r.operations ≡ length (cooked_on none (runs_of spans keys joins rs))
  pub tokens : r.tokens ≡ counts rs
  pub stand : o' ≡ answered (flat_operations (cooked_on none (runs_of spans keys joins rs))) o
  pub in_spans : s' ≡ answered (flat_spans (all_tokens (runs_of spans keys joins rs))) s
  pub in_keys : k' ≡ answered (flat_keys (all_tokens (runs_of spans keys joins rs))) k
  pub in_joins : j' ≡ answered (flat_joins (all_tokens (runs_of spans keys joins rs))) j
