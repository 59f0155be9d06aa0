-- A chain of checks: where one refuses, and where all before have passed.
-- By the definition of `and_then`. Assumes nothing.
use mathlib.Core.Path.{◌≡◌, refl}
use mathlib.Core.Bool.{Bool, true, false}
use Prim.Native.Nat.{ℕ}
use native.Mathlib.Omega.{arith}
use Rattle.refusal.specs.declared.Refusal.{Refusal}
use Rattle.refusal.specs.declared.Refusal.TheVariants.{Size, Room}
use Rattle.verdict.specs.Verdicts.{and_then, sized, roomed, Verdict, accepted}
use Rattle.std.specs.Prelude.{Result, Ok, Err}

pub stops : {A : Type 0} (a : Verdict) (w : Result A Refusal) (r : Refusal) → a ≡ Err r → Err r ≡ and_then a w
stops a w r e = rw e

pub goes_on : {A : Type 0} (a : Verdict) (w v : Result A Refusal) → a ≡ accepted → v ≡ w → v ≡ and_then a w
goes_on a w v e f = rw e f

pub too_big : (b : Bool) (w : Verdict) → b ≡ false → Err Size ≡ and_then (sized b) w
too_big b w e = rw e

pub fits : (b : Bool) (w v : Verdict) → b ≡ true → v ≡ w → v ≡ and_then (sized b) w
fits b w v e f = rw e f

-- the check of rooms, after all others

pub has_room : (v : Verdict) (b : Bool) → v ≡ accepted → b ≡ true → and_then v (roomed b) ≡ accepted
has_room v b e f = rw (e, f)

pub lacks_room : (v : Verdict) (b : Bool) → v ≡ accepted → b ≡ false → and_then v (roomed b) ≡ Err Room
lacks_room v b e f = rw (e, f)

-- what an accepted chain says

pub never : {A : Type 0} {r : Refusal} → Err r ≡ accepted → A
never h = let z : ◌≡◌ {A = ℕ} 0 1 = cc in absurd (omega arith)

-- a choice between going on and a refusal was accepted: the test held, and what follows is accepted
pub went : (b : Bool) (v : Verdict) (r : Refusal) → elim b [ true ↦ v | false ↦ Err r ] ≡ accepted → (b ≡ true) × (v ≡ accepted)
went true v r h = (refl, h)
went false v r h = never h

pub first_passed : (a w : Verdict) → and_then a w ≡ accepted → a ≡ accepted
first_passed (Ok u) w h = refl
first_passed (Err r) w h = h

pub rest_passed : (a w : Verdict) → and_then a w ≡ accepted → w ≡ accepted
rest_passed (Ok u) w h = h
rest_passed (Err r) w h = cc

pub size_passed : (b : Bool) → sized b ≡ accepted → b ≡ true
size_passed true h = refl
size_passed false h = cc
