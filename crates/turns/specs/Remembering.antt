-- What is remembered of a side, in the work room: keys at its fill, lengths `half` after them. Assumes nothing.
use Rattle.std.specs.Prelude.{ℕ, ◌+◌, ◌*◌, ◌≤◌, ◌≡◌, true, false, List, ◌++◌, eqb, length}
use Rattle.std.proofs.Math.Seq.{slice}
use Rattle.room.specs.Placed.{placed}
use Rattle.merging.specs.declared.Op.{Op}
use Rattle.merging.specs.Lent.{Lent, lengths_of}
use Rattle.merging.specs.Meeting.{remember_of}
use Rattle.operation.specs.declared.Last.{Last}
use Rattle.operation.specs.declared.Last.TheVariants.{Nothing, Deleted, Retained, Inserted}
use Rattle.numbers.specs.Sizes.{most}
use Rattle.operation.specs.Views.{last_of, reach, LastFits, Keyed, Lies, tokens, of_spans}
use Rattle.operation.specs.declared.Memory.{Memory}

-- the tokens are lent, and the work room has place for their keys in its first half and for their lengths in its second
pub record Writable (ss ks w : List ℕ) (first count fill half : ℕ) : Type 0 where
  pub spans : (first + count) * 2 ≤ length ss
  pub keys : first + count ≤ length ks
  pub apart : fill + count ≤ half
  pub place : half + fill + count ≤ length w

-- the ranges of the work room off n numbers at a place and n `half` after it hold what they held
pub record Kept (w w' : List ℕ) (half at n : ℕ) : Type 0 where
  pub same : length w' ≡ length w
  pub front : (a b : ℕ) → b ≤ at → slice a b w' ≡ slice a b w
  pub middle : (a b : ℕ) → at + n ≤ a → b ≤ half + at → slice a b w' ≡ slice a b w
  pub back : (a b : ℕ) → half + at + n ≤ a → slice a b w' ≡ slice a b w

-- "joined inserts copy tokens into lent room": the work room with the tokens in it, and its ranges that end where they do
pub record Written (ss ks w w' : List ℕ) (first count fill half : ℕ) : Type 0 where
  pub stands : w' ≡ placed (placed w fill (slice first (first + count) ks)) (half + fill) (lengths_of (of_spans ss) first count)
  pub keys : (a : ℕ) → a ≤ fill → slice a (fill + count) w' ≡ slice a fill w ++ slice first (first + count) ks
  pub lengths : (a : ℕ) → a ≤ fill
      → slice (half + a) (half + (fill + count)) w' ≡ slice (half + a) (half + fill) w ++ lengths_of (of_spans ss) first count
  pub kept : Kept w w' half fill count

-- "an insert after a remembered insert of the same order on its own side is appended": where its side's tokens start
abbrev pub kept_from : Last → ℕ → ℕ → ℕ
kept_from Nothing order fill = fill
kept_from (Deleted o l) order fill = fill
kept_from (Retained o l) order fill = fill
kept_from (Inserted o from) order fill = elim (eqb o order) [ true ↦ from | false ↦ fill ]

-- the remembered tokens start no later than they end
abbrev pub Began : Last → ℕ → Type 0
Began Nothing fill = Unit {0}
Began (Deleted o l) fill = Unit {0}
Began (Retained o l) fill = Unit {0}
Began (Inserted o from) fill = from ≤ fill

-- the remembered tokens start no earlier than the side's part of the work room
abbrev pub Since : Last → ℕ → ℕ → Type 0
Since Nothing base fill = Unit {0}
Since (Deleted o l) base fill = Unit {0}
Since (Retained o l) base fill = Unit {0}
Since (Inserted o from) base fill = (base ≤ from) × (from ≤ fill)

-- the tokens of an operation are lent, and the work room has place for them
pub record Rememberable (ss ks w : List ℕ) (half : ℕ) (m : Memory) (a : Op) : Type 0 where
  pub began : Began m.last m.fill
  pub spans : Lies ss a
  pub keys : Keyed ks a
  pub apart : m.fill + tokens a ≤ half
  pub place : half + m.fill + tokens a ≤ length w

-- "The result is remembered, even when empty": what is remembered after it, whatever else was lent
pub record Remembers (ss ks w w' : List ℕ) (half : ℕ) (m : Memory) (a : Op) (r : Memory) : Type 0 where
  pub fill : r.fill ≡ m.fill + tokens a
  pub last : (lent : Lent) → lent.spans ≡ ss → lent.keys ≡ ks
      → last_of w' half r.fill r.last ≡ remember_of lent (last_of w half m.fill m.last) a
  pub kept : Kept w w' half m.fill (tokens a)
  pub fits : reach a ≤ most → LastFits r.last
  pub since : (base : ℕ) → base ≤ m.fill → Since m.last base m.fill → Since r.last base r.fill
