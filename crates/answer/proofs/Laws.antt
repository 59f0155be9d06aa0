-- Shown: no refusal is told as accepted, refusals that are told alike are one, and an export allows one outcome where its call does.
-- How: a refusal is read back from what is told; tellings of equal answers are equal.
use Prim.Native.Nat.{ℕ, ◌≤◌}
use native.Mathlib.Omega.{arith}
use mathlib.Core.Path.{◌≡◌, refl, sym, ap, ◌∙◌}
use lib.Dec.{eqb}
use Rattle.room.specs.Choice.{pick}
use Rattle.refusal.specs.declared.Refusal.{Refusal}
use Rattle.refusal.specs.declared.Refusal.TheVariants.{Record, Tiling, Size, CodePoint, Cursor, Short, Room, Line, Unmentioned, Utf8}
use Rattle.answer.specs.declared.Answer.{Answer}
use Rattle.answer.specs.Tellings.{tell_refusal, ToldBy}

-- the refusal with a number and its values
abbrev back_of : ℕ → ℕ → ℕ → ℕ → Refusal
back_of n a b c =
    pick (eqb n 1) (Record a)
    (pick (eqb n 2) (Tiling a)
    (pick (eqb n 3) Size
    (pick (eqb n 4) (CodePoint a)
    (pick (eqb n 5) (Cursor a)
    (pick (eqb n 6) (Short a b c) (pick (eqb n 7) Room (pick (eqb n 8) (Line a) (pick (eqb n 9) (Unmentioned a) (Utf8 a)))))))))

abbrev back : Answer → Refusal
back t = back_of t.refusal t.first t.second t.third

back_told : (why : Refusal) → back (tell_refusal why) ≡ why
back_told (Record i) = refl
back_told (Tiling i) = refl
back_told Size = refl
back_told (CodePoint i) = refl
back_told (Cursor p) = refl
back_told (Short p r a) = refl
back_told Room = refl
back_told (Line l) = refl
back_told (Unmentioned n) = refl
back_told (Utf8 o) = refl

pub told_apart : (why other : Refusal) → tell_refusal why ≡ tell_refusal other → why ≡ other
told_apart why other e = sym (back_told why) ∙ (ap back e ∙ back_told other)

pub refused_told : (why : Refusal) → 1 ≤ (tell_refusal why).refusal
refused_told (Record i) = omega arith
refused_told (Tiling i) = omega arith
refused_told Size = omega arith
refused_told (CodePoint i) = omega arith
refused_told (Cursor p) = omega arith
refused_told (Short p r a) = omega arith
refused_told Room = omega arith
refused_told (Line l) = omega arith
refused_told (Unmentioned n) = omega arith
refused_told (Utf8 o) = omega arith

-- "Any two outcomes it allows are shown equal": of two runs, with what a law of the call says besides, as of their rooms
pub only_told : {A : Type 0} {tell : A → Answer} {S T : A → Type 0} {r s : Answer} (P : A → Type 0)
    → ((a b : A) → S a → T b → (a ≡ b) × P a) → (x : ToldBy tell S r) → ToldBy tell T s → (r ≡ s) × P x.answer
only_told {A} {tell} P only x y =
    let o = only x.answer y.answer x.states y.states in (x.is ∙ (ap tell o.0 ∙ sym y.is), o.1)
