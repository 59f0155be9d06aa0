-- What the values of the code stand for in the terms of the merge's definition. Assumes nothing.
use Rattle.std.specs.Prelude.{ℕ, ◌+◌, ◌*◌, ◌≤◌, ◌≡◌, List, Option, Some, None, [], ◌∷◌, ◌⊎◌, length, take, drop}
use Rattle.operation.specs.declared.Met.{Met}
use Rattle.std.proofs.Math.Seq.{slice}
use Rattle.numbers.specs.Sizes.{most}
use Rattle.merging.specs.declared.Op.{Op}
use Rattle.merging.specs.declared.Op.TheVariants.{Delete, Insert, Retain}
use Rattle.merging.specs.Lent.{Lent}
use Rattle.merging.specs.Meeting.{Remembered, nothing, deleted, retained, inserted}
use Rattle.operation.specs.declared.Last.{Last}
use Rattle.operation.specs.declared.Last.TheVariants.{Nothing, Deleted, Retained, Inserted}

-- what is next on a side, in front of what stands behind it
abbrev pub heads : Option Op → List Op → List Op
heads (Some a) ls = a ∷ ls
heads None ls = ls

-- what is remembered: of an insert the keys and the lengths that stand in the work room w, the lengths `half` after the keys
abbrev pub last_of : List ℕ → ℕ → ℕ → Last → Remembered
last_of w half fill Nothing = nothing
last_of w half fill (Deleted o l) = deleted o l
last_of w half fill (Retained o l) = retained o l
last_of w half fill (Inserted o from) = inserted o (slice from fill w) (slice (half + from) (half + fill) w)

-- how far the numbers of an operation reach: within the original, or within the tokens
abbrev pub reach : Op → ℕ
reach (Delete o l) = o + l
reach (Insert o f n) = f + n
reach (Retain o l) = o + l

-- "Sums are exact": the numbers of what is next do not wrap
abbrev pub NextFits : Option Op → Type 0
NextFits (Some a) = reach a ≤ most
NextFits None = Unit {0}

-- "Sums are exact": nor do those of what is remembered
abbrev pub LastFits : Last → Type 0
LastFits Nothing = Unit {0}
LastFits (Deleted o l) = o + l ≤ most
LastFits (Retained o l) = o + l ≤ most
LastFits (Inserted o from) = Unit {0}

-- how much an operation can lose: code points, or an insert tokens
abbrev pub size : Op → ℕ
size (Delete o l) = l
size (Insert o f n) = n
size (Retain o l) = l

-- the keys of an insert's tokens are lent
abbrev pub Keyed : List ℕ → Op → Type 0
Keyed keys (Delete o l) = Unit {0}
Keyed keys (Insert o f n) = f + n ≤ length keys
Keyed keys (Retain o l) = Unit {0}

-- the spans of an insert's tokens are lent
abbrev pub Lies : List ℕ → Op → Type 0
Lies spans (Delete o l) = Unit {0}
Lies spans (Insert o f n) = ((f + n) * 2 ≤ length spans) × (n ≤ 65536)
Lies spans (Retain o l) = Unit {0}

-- the part of what was lent that a function sees
abbrev pub of_spans : List ℕ → Lent
of_spans spans = record { original = []; inserted = []; spans = spans; keys = [] }

-- the work room after n of its numbers from a place on were used
pub record Scratched (w w' : List ℕ) (at n : ℕ) : Type 0 where
  pub same : length w' ≡ length w
  pub front : take at w' ≡ take at w
  pub back : drop (at + n) w' ≡ drop (at + n) w

-- the tokens of an operation
abbrev pub tokens : Op → ℕ
tokens (Delete o l) = 0
tokens (Insert o f n) = n
tokens (Retain o l) = 0

-- a remembered range of the work room, and the numbers used from a place on, do not touch
abbrev pub Apart : ℕ → ℕ → ℕ → ℕ → Type 0
Apart from fill table n = (fill ≤ table) ⊎ (table + n ≤ from)

-- what is remembered and a table do not touch
abbrev pub Away : Last → ℕ → ℕ → ℕ → Type 0
Away Nothing fill table n = Unit {0}
Away (Deleted o l) fill table n = Unit {0}
Away (Retained o l) fill table n = Unit {0}
Away (Inserted o from) fill table n = (from ≤ fill) × Apart from fill table n

-- the overlap lies in what is remembered
abbrev pub Reaches : Last → Met → ℕ → Type 0
Reaches Nothing m fill = Unit {0}
Reaches (Deleted o l) m fill = Unit {0}
Reaches (Retained o l) m fill = Unit {0}
Reaches (Inserted o from) m fill = (from + m.overlap.end ≤ fill) × (m.overlap.start ≤ m.overlap.end)

-- and so do its lengths in the work room
pub record Placeable (w : List ℕ) (half fill : ℕ) (last : Last) (m : Met) : Type 0 where
  pub reaches : Reaches last m fill
  pub within : half + fill ≤ length w
  pub few : fill ≤ 65536

-- the tokens of an operation are lent, and the work room has place for their table beside what is remembered
pub record Meetable (keys w : List ℕ) (a : Op) (last : Last) (fill table : ℕ) : Type 0 where
  pub lent : Keyed keys a
  pub few : tokens a ≤ 8192
  pub place : table + tokens a ≤ length w
  pub filled : fill ≤ length w
  pub apart : Away last fill table (tokens a)
