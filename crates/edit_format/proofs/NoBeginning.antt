-- No proper beginning of an accepted file is accepted.
-- The state past the end refuses every byte. Assumes nothing.
use mathlib.Core.Path.{◌≡◌, refl, sym, ap, ◌∙◌}
use mathlib.Core.List.{List, [], ◌∷◌, ◌++◌}
use Prim.Native.Nat.{ℕ, ◌+◌}
use native.Mathlib.Omega.{arith}
use lib.ListN.{length}
use Rattle.edit_format.specs.Items.{Item}
use Rattle.edit_format.specs.Reading.{State, bad, key, gap, num, open', after, form, step, run, Found, Accepted, Refused, finish, read_file}

pub run_append : (s : State) (p q : List ℕ) → run s (p ++ q) ≡ run (run s p) q
unfolding run
run_append s [] q = refl
run_append s (b ∷ p) q = run_append (step s b) p q

pub run_bad : (l : ℕ) (q : List ℕ) → run (bad l) q ≡ bad l
unfolding run step
run_bad l [] = refl
run_bad l (b ∷ q) = run_bad l q

pub never : {l : ℕ} {is : List Item} → ◌≡◌ {A = Found} (Refused l) (Accepted is) → ⊥
never p = let z : ◌≡◌ {A = ℕ} 0 1 = cc in omega arith

-- a reader that accepts where it stands is past the end line, and refuses any byte more, at the line after
more : (s : State) {is : List Item} (b : ℕ) (q : List ℕ) → finish s ≡ Accepted is → (l : ℕ) × (finish (run s (b ∷ q)) ≡ Refused l)
unfolding finish run step
more (bad l) b q e = absurd (never e)
more (key l i) b q e = absurd (never e)
more (gap l cs) b q e = absurd (never e)
more (num l cs n) b q e = absurd (never e)
more (open' h is) b q e = absurd (never e)
more (after h is) b q e = (length is + 6, rw (run_bad (length is + 6) q))

pub no_beginning : (p : List ℕ) (b : ℕ) (q : List ℕ) {is js : List Item} → read_file p ≡ Accepted is → read_file (p ++ b ∷ q) ≡ Accepted js → ⊥
unfolding read_file
no_beginning p b q e f =
    let m = more (run (key form 0) p) b q e in
    never (sym m.1 ∙ ap finish (sym (run_append (key form 0) p (b ∷ q))) ∙ f)
