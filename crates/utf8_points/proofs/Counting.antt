-- Bytes that are no tails, counted by blocks and one by one.
-- The count of two runs is the sum of their counts. Assumes nothing.
use mathlib.Core.Path.{◌≡◌, refl, sym, ap, ◌∙◌}
use mathlib.Core.Bool.{Bool, true, false}
use mathlib.Core.List.{List, [], ◌∷◌, ◌++◌}
use Prim.Native.Nat.{ℕ, suc, ◌+◌, ◌≤◌, ◌<◌}
use native.Mathlib.Omega.{arith}
use native.Mathlib.Numerals.{add-one}
use lib.ListN.{length, get_or, take}
use lib.Seq.{take-suc}
use Rattle.room.specs.Choice.{pick}
use Rattle.utf8_read.specs.Grammar.{tail}
use Rattle.utf8_read.specs.Window.{starts}
use Rattle.room.proofs.Choices.{pick_elim}

pub none : 0 ≡ starts []
unfolding starts
none = refl

pub at_most : (s : List ℕ) → starts s ≤ length s
unfolding starts
at_most [] = omega arith
at_most (b ∷ s) =
    let h = at_most s in
    pick_elim (λ (n : ℕ). n ≤ suc (length s)) (tail b) (λ _. omega arith) (λ _. omega arith)

both : (s t : List ℕ) → starts (s ++ t) ≡ starts s + starts t
unfolding starts
both [] t = omega arith
both (b ∷ s) t = go (tail b) refl (both s t)
  where
    go : (y : Bool) → tail b ≡ y → starts (s ++ t) ≡ starts s + starts t → pick (tail b) (starts (s ++ t)) (suc (starts (s ++ t))) ≡ pick (tail b)
        (starts s) (suc (starts s)) + starts t
    go true e h = rw e h
    go false e h = rw e (omega arith)

-- one byte more
pub one_more : (s : List ℕ) (k n m : ℕ) → k < length s → n ≡ starts (take k s) → m ≡ starts (get_or s k 0 ∷ []) → n + m ≡ starts (take (k + 1) s)
one_more s k n m h e g = rw (add-one k, take-suc s k 0 h, both (take k s) (get_or s k 0 ∷ []), e, g)

-- a block more
pub block_more : (s b r : List ℕ) → s ≡ b ++ r → starts s ≡ starts b + starts r
block_more s b r e = ap starts e ∙ both b r

pub none_left : (s : List ℕ) → length s ≡ 0 → starts s ≡ 0
none_left [] h = sym none
none_left (b ∷ s) h = absurd (omega arith)
