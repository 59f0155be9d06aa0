-- Tests: none is both true and false, and a choice by one.
-- By cases on the test. Assumes nothing.
use mathlib.Core.Path.{◌≡◌, refl, sym, subst}
use mathlib.Core.Bool.{Bool, true, false}
use lib.Dec.{T}
use Rattle.room.specs.Choice.{pick}

pub never : {A : Type 0} → true ≡ false → A
never e = absurd (subst T e tt)

pub no_way : {A : Type 0} → false ≡ true → A
no_way e = never (sym e)

-- a statement of a choice, by the two ways it can come out
pub pick_elim : {A : Type 0} (P : A → Type 0) (t : Bool) {a b : A} → (t ≡ true → P a) → (t ≡ false → P b) → P (pick t a b)
pick_elim P true f g = f refl
pick_elim P false f g = g refl
