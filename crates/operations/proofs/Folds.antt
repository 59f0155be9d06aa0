-- The fold over operation structs is the definition of the tiling.
-- By induction on the list. Assumes nothing.
use mathlib.Core.Path.{◌≡◌, refl, ap, ◌∙◌}
use mathlib.Core.Bool.{Bool, true, false, ◌&&◌}
use mathlib.Core.List.{List, [], ◌∷◌}
use Prim.Native.Nat.{ℕ, ◌+◌, ◌≤◌}
use native.Mathlib.Omega.{arith}
use lib.Dec.{eqb, leb}
use lib.ListN.{length}
use Rattle.refusal.specs.declared.Refusal.TheVariants as R
use Rattle.room.specs.Choice.{pick}
use Rattle.records.specs.declared.Operation.{Operation}
use Rattle.shapes.specs.Tiling.{tiling_from}
use Rattle.operations.specs.declared.Tile.{Tile}
use Rattle.operations.specs.Folds.{moved_to, tile_all, tile_end}
use Rattle.std.specs.Prelude.{Err}
use Rattle.verdict.specs.Verdicts.{accepted}

abbrev pub going : ℕ → ℕ → ℕ → Tile
going n i a = record { n = n; index = i; at = a; good = true }

abbrev stop : ℕ → ℕ → ℕ → Tile
stop n i a = record { n = n; index = i; at = a; good = false }

-- a walk that stopped stays where it is
stays : (ys : List Operation) (n i a : ℕ) → tile_end (tile_all ys (stop n i a)) ≡ Err (R.Tiling i)
stays [] n i a = refl
stays (y ∷ ys) n i a = stays ys n i a

ended : (i : ℕ) (b : Bool) → pick (true && b) accepted (Err (R.Tiling i)) ≡ elim b [ true ↦ accepted | false ↦ Err (R.Tiling i) ]
ended i true = refl
ended i false = refl

-- the verdict at the end is that of the definition, from any place on
pub tiles : (ys : List Operation) (n i a : ℕ) → i + length ys ≤ 18446744073709551615 → tile_end (tile_all ys (going n i a)) ≡ tiling_from n ys i a
unfolding tiling_from
tiles [] n i a h = ended i (eqb a n)
tiles (y ∷ ys) n i a h = turn (λ b. tiles ys n (i + 1) b (omega arith)) (eqb y.kind 1) (eqb y.order a && leb (a + y.length) n)
  where
    turn : ((b : ℕ) → tile_end (tile_all ys (going n (i + 1) b)) ≡ tiling_from n ys (i + 1) b) → (k m : Bool)
        → tile_end (tile_all ys (pick k (moved_to (going n i a) a) (pick m (moved_to (going n i a) (a + y.length)) (stop n i a))))
        ≡ elim k [ true ↦ tiling_from n ys (i + 1) a | false ↦ elim m [ true ↦ tiling_from n ys (i + 1) (a + y.length) | false ↦ Err (R.Tiling i) ] ]
    turn go true m = ap (λ (k : ℕ). tile_end (tile_all ys (going n k a))) (omega arith) ∙ go a
    turn go false true = ap (λ (k : ℕ). tile_end (tile_all ys (going n k (a + y.length)))) (omega arith) ∙ go (a + y.length)
    turn go false false = stays ys n i a
