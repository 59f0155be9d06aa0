-- What a walk over operation structs holds after each. Assumes nothing.
use Rattle.std.specs.Prelude.{ℕ, ◌+◌, min, true, false, ◌&&◌, List, fold, eqb, leb, Err}
use Rattle.refusal.specs.declared.Refusal.TheVariants as R
use Rattle.room.specs.Choice.{pick}
use Rattle.records.specs.declared.Operation.{Operation}
use Rattle.sizes.specs.Texts.{retained_by, inserted_by}
use Rattle.operations.specs.declared.Tile.{Tile}
use Rattle.verdict.specs.Verdicts.{Verdict, accepted}

-- an operation that does not stop a walk: `a` code points are consumed with it
abbrev pub moved_to : Tile → ℕ → Tile
moved_to t a = record { n = t.n; index = min 18446744073709551615 (t.index + 1); at = a; good = true }

-- an operation that stops a walk: its index stands
abbrev pub stopped_at : Tile → Tile
stopped_at t = record { n = t.n; index = t.index; at = t.at; good = false }

-- "index of first whose order isn't the length consumed before it or that passes the end": one operation more
abbrev pub tile_step : Tile → Operation → Tile
tile_step t o =
    pick t.good
    (pick (eqb o.kind 1) (moved_to t t.at)
    (pick (eqb o.order t.at && leb (t.at + o.length) t.n) (moved_to t (t.at + o.length)) (stopped_at t)))
    t

-- the steps of a whole list
abbrev pub tile_all : List Operation → Tile → Tile
tile_all os t = fold tile_step t os

-- "else the list's length"
abbrev pub tile_end : Tile → Verdict
tile_end t = pick (t.good && eqb t.at t.n) accepted (Err (R.Tiling t.index))

-- "retained original and insert tokens' spelling": what one operation adds to its list's text
abbrev pub text_by : ℕ → List ℕ → List ℕ → Operation → ℕ
text_by n spans keys o = retained_by o + inserted_by n spans keys o

-- a sum that stops at 1,000,000, over a list
abbrev pub text_all : ℕ → List ℕ → List ℕ → List Operation → ℕ → ℕ
text_all n spans keys os s = fold (λ t o. min 1000000 (t + text_by n spans keys o)) s os
