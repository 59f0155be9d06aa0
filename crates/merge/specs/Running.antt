-- The run of all turns, from the code's values to the merge's definition. Assumes nothing.
use Rattle.std.specs.Prelude.{ℕ, ◌+◌, ◌*◌, ◌/◌, ◌≤◌, ◌≡◌, List, length}
use Rattle.room.specs.Placed.{answered}
use Rattle.records.specs.Operations.{operations_of, flat_operations}
use Rattle.records.specs.Cursors.{cursors_of, flat_cursors}
use Rattle.merging.specs.declared.Op.{Op}
use Rattle.std.specs.declared.cmp.Ordering.{Ordering}
use Rattle.merging.specs.Lent.{Lent, rules_of, lent_of}
use Rattle.merging.specs.Operations.{ops_from, length_of, records_of}
use Rattle.merging.specs.Meeting.{nothing}
use Rattle.merging.specs.Turn.{State}
use Rattle.merging.specs.Merge.{Outcome, run, work}
use Rattle.merging.specs.Tiling.{Tiled, total_of, tokens_of, Inserts}
use Rattle.numbers.specs.Sizes.{most}
use Rattle.order.specs.Readable.{Run}
use Rattle.operation.specs.declared.Last.TheVariants.{Nothing}
use Rattle.turns.specs.declared.Ahead.{Ahead}
use Rattle.merge.specs.declared.Side.{Side}
use Rattle.merge.specs.declared.Totals.{Totals}

-- "An insert's order is the original text consumed before it": the operations of a lent list
abbrev pub list_of : List ℕ → List Op
list_of ops = ops_from 0 (operations_of ops)

-- a side of the code before the first turn, which fills the work room from a place on
abbrev pub starting : Ahead → ℕ → Side
starting h fill = record { ahead = h; memory = record { last = Nothing; fill = fill }; seen = 0; cursor = 0 }

-- the sides before the first turn, cursors sorted
abbrev pub begin : List ℕ → List ℕ → List ℕ → List ℕ → State
begin lops rops lcs rcs =
    record {
      left = record { next = list_of lops; last = nothing; seen = 0; cursors = cursors_of lcs };
      right = record { next = list_of rops; last = nothing; seen = 0; cursors = cursors_of rcs };
      merged = 0;
      consumed = 0;
    }

-- what comes out of all turns
abbrev pub outcome : Lent → Ordering → List ℕ → List ℕ → List ℕ → List ℕ → Outcome
outcome lent priority lops rops lcs rcs = run (rules_of lent) priority (work (list_of lops) + work (list_of rops)) (begin lops rops lcs rcs)

-- a list that was checked
pub record Listed (original text spans keys ops : List ℕ) : Type 0 where
  pub tiled : Tiled (list_of ops) 0 (length original)
  pub inserts : Inserts (Run text spans keys) (list_of ops)
  pub tokens : tokens_of (list_of ops) ≤ 8192
  pub text_most : total_of (length_of (lent_of original text spans keys)) (list_of ops) ≤ 131070

-- what the turns need: two checked lists, and rooms as asked
pub record Runnable (original text spans keys lops rops lcs rcs : List ℕ) (priority : Ordering) (w : List ℕ) (mid half : ℕ) (out moved : List ℕ) : Type 0 where
  pub original_most : length original ≤ 65535
  pub left : Listed original text spans keys lops
  pub right : Listed original text spans keys rops
  pub mid_is : mid ≡ tokens_of (list_of lops)
  pub half_is : half ≡ mid + tokens_of (list_of rops)
  pub halves : half + half ≤ length w
  pub room : length (outcome (lent_of original text spans keys) priority lops rops lcs rcs).outs * 6 ≤ length out
  pub space : (length lcs / 2 + length rcs / 2) * 2 ≤ length moved
  pub spans_fit : length spans / 2 ≤ most

-- what they leave in the rooms
pub record Ran (original text spans keys lops rops lcs rcs : List ℕ) (priority : Ordering) (out out' moved moved' : List ℕ) (r : Totals) : Type 0 where
  pub operations : r.operations ≡ length (outcome (lent_of original text spans keys) priority lops rops lcs rcs).outs
  pub out_is : out' ≡ answered (flat_operations (records_of (lent_of original text spans keys) (outcome (lent_of original text spans keys) priority lops rops lcs rcs).outs)) out
  pub cursors : r.cursors ≡ length (outcome (lent_of original text spans keys) priority lops rops lcs rcs).cursors
  pub moved_is : moved' ≡ answered (flat_cursors (outcome (lent_of original text spans keys) priority lops rops lcs rcs).cursors) moved
