-- Sums of lengths, one number at a turn: what is summed so far and what is left give the whole; no sum passes 2^32 a number.
-- By the definition's own recursion. Assumes nothing.
use Prim.Native.Nat.{ℕ, zero, suc, ◌+◌, ◌-◌, ◌*◌, ◌≤◌, ◌<◌}
use mathlib.Core.Path.{◌≡◌, refl, ap}
use mathlib.Core.List.{List}
use Rattle.std.specs.Prelude.{sum as total}
use Rattle.std.proofs.lemmas.List.Recursion.{is_sum_by}
use native.Mathlib.Omega.{arith}
use lib.ListN.{get_or}
use Rattle.records.specs.declared.each.Each.{Each}
use Rattle.records.proofs.EachLaws.{Reads}
use Rattle.merging.specs.Lent.{Lent, lengths_of, sum}
use Rattle.operation.specs.declared.Lengths.{Lengths}

-- the sum of a list is the kit's
pub sum_is : (xs : List ℕ) → sum xs ≡ total xs
unfolding sum
sum_is xs = is_sum_by sum (λ (x : ℕ). x) refl (λ _ _. refl) xs

-- over the lengths of tokens
abbrev pub ReadsLengths : List ℕ → ℕ → Each Lengths → Type 0
ReadsLengths spans = Reads (λ s i. get_or s.0.now (i * 2 + 1) 0) (λ i. get_or spans (i * 2 + 1) 0)

-- the sum of the lengths of tokens from first on, as far as place `at`
pub record Counting (L : Lent) (first count total at : ℕ) : Type 0 where
  pub whole : total + sum (lengths_of L at (first + count - at)) ≡ sum (lengths_of L first count)
  pub small : total ≤ (at - first) * 4294967296

pub counting : (L : Lent) (first count : ℕ) → Counting L first count 0 first
counting L first count =
    let d : first + count - first ≡ count = omega arith in
    record { whole = omega (arith, ap (λ (n : ℕ). sum (lengths_of L first n)) d); small = omega arith }

pub counted :
    (L : Lent) (first count total at : ℕ) → Counting L first count total at → first ≤ at → at < first + count
    → get_or L.spans (at * 2 + 1) 0 < 4294967296
    → Counting L first count (total + get_or L.spans (at * 2 + 1) 0) (at + 1)
unfolding sum lengths_of
counted L first count total at s l h f =
    let k : first + count - at ≡ suc (first + count - (at + 1)) = omega arith in
    record {
      whole = omega (arith, s.whole, ap (λ (n : ℕ). sum (lengths_of L at n)) k);
      small = omega (arith, s.small);
    }

pub all_counted : (L : Lent) (first count total at : ℕ) → Counting L first count total at → first + count ≤ at → total ≡ sum (lengths_of L first count)
unfolding sum lengths_of
all_counted L first count total at s e =
    let k : first + count - at ≡ zero = omega arith in
    omega (arith, s.whole, ap (λ (n : ℕ). sum (lengths_of L at n)) k)
