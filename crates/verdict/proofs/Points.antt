-- Refusal 4 of a text, by how far its numbers are code points.
-- It goes on at a code point and stops at the first number that is none. Assumes nothing.
use Prim.Native.Nat.{ℕ, ◌+◌, ◌≤◌, ◌<◌}
use mathlib.Core.Path.{◌≡◌, refl}
use mathlib.Core.Bool.{true, false}
use mathlib.Core.List.{List, [], ◌∷◌}
use lib.ListN.{length}
use Rattle.refusal.specs.declared.Refusal.TheVariants.{CodePoint}
use Rattle.numbers.specs.Points.{is_point, scalars}
use Rattle.numbers.proofs.Scalar.{all_good, one_bad}
use Rattle.verdict.specs.Points.{points_from}
use Rattle.std.specs.Prelude.{Ok, Err}
use Rattle.verdict.specs.Verdicts.{accepted}

ends : (i : ℕ) → points_from [] i ≡ accepted
unfolding points_from
ends i = refl

on : (i c : ℕ) (cs : List ℕ) → is_point c ≡ true → points_from (c ∷ cs) i ≡ points_from cs (i + 1)
unfolding points_from
on i c cs e = rw (e, points_from)

stops : (i c : ℕ) (cs : List ℕ) → is_point c ≡ false → points_from (c ∷ cs) i ≡ Err (CodePoint i)
unfolding points_from
stops i c cs e = rw (e, points_from)

module _ (s : List ℕ) (n : ℕ) (e : n ≡ scalars s) where
  pub accepts : length s ≤ n → accepted ≡ points_from s 0
  accepts = all_good (λ (i : ℕ) (cs : List ℕ). points_from cs i) accepted (λ (i : ℕ). Err (CodePoint i)) ends on stops s n e

  pub refuses : n < length s → Err (CodePoint n) ≡ points_from s 0
  refuses = one_bad (λ (i : ℕ) (cs : List ℕ). points_from cs i) accepted (λ (i : ℕ). Err (CodePoint i)) ends on stops s n e
