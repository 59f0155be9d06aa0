-- The operations of a raw list from a place on: the first and the others, none, and how many; and as a view reads them.
-- By their number. Assumes nothing.
use Prim.Native.Nat.{ℕ, zero, suc, ◌+◌, ◌-◌, ◌/◌, ◌≤◌, ◌<◌}
use mathlib.Core.Path.{◌≡◌, refl, ap}
use mathlib.Core.List.{List, [], ◌∷◌}
use native.Mathlib.Omega.{arith}
use lib.ListN.{length}
use Rattle.records.specs.declared.each.Each.{Each}
use Rattle.records.specs.Each.{listed_from, listed}
use Rattle.records.proofs.EachLaws.{Reads}
use Rattle.sizes.specs.Texts.{total as total_of}
use Rattle.raw_lists.specs.declared.Raw.{Raw}
use Rattle.raw_lists.specs.declared.RawOperations.{RawOperations}
use Rattle.raw_lists.specs.Raws.{raw_at, raws_from, raws_of}
use Rattle.raw_lists.specs.Checks.{total}

pub from_more : (xs : List ℕ) (i n : ℕ) → i < n → raws_from xs i (n - i) ≡ raw_at xs i ∷ raws_from xs (i + 1) (n - (i + 1))
unfolding raws_from
from_more xs i n h = let e : n - i ≡ suc (n - (i + 1)) = omega arith in rw e

pub from_none : (xs : List ℕ) (i n : ℕ) → n ≤ i → raws_from xs i (n - i) ≡ []
unfolding raws_from
from_none xs i n h = let e : n - i ≡ 0 = omega arith in rw e

length_from : (xs : List ℕ) (i k : ℕ) → length (raws_from xs i k) ≡ k
unfolding raws_from
length_from xs i zero = refl
length_from xs i (suc k) = ap suc (length_from xs (i + 1) k)

pub length_raws : (xs : List ℕ) → length (raws_of xs) ≡ length xs / 3
unfolding raws_of
length_raws xs = length_from xs 0 (length xs / 3)

-- an iterator over raw operations
abbrev pub ReadsRaws : List ℕ → Each RawOperations → Type 0
ReadsRaws xs = Reads (λ r i. raw_at r.0.now i) (raw_at xs) (length xs / 3)

-- the sum over the places of a raw list is that over its operations
total_listed_from : (f : Raw → ℕ) (xs : List ℕ) (i n : ℕ) → total_of f (listed_from (raw_at xs) i n) ≡ total f (raws_from xs i n)
unfolding total_of listed_from total raws_from
total_listed_from f xs i zero = refl
total_listed_from f xs i (suc n) = ap (λ s. f (raw_at xs i) + s) (total_listed_from f xs (i + 1) n)

pub total_listed : (f : Raw → ℕ) (xs : List ℕ) → total_of f (listed (raw_at xs) (length xs / 3)) ≡ total f (raws_of xs)
unfolding raws_of
total_listed f xs = total_listed_from f xs 0 (length xs / 3)
