-- The copy of a run into a room, one value at a turn: the loop's invariant and its three ways, for values of any type.
-- `paste` of the kit says what j turns have copied. Assumes nothing.
use mathlib.Core.Path.{◌≡◌, refl}
use mathlib.Core.List.{List}
use Prim.Native.Nat.{ℕ, ◌+◌, ◌≤◌, ◌<◌, zero-le}
use native.Mathlib.Numerals.{add-one}
use native.Mathlib.Omega.{arith}
use lib.ListN.{length, set, get_or, length-set}
use lib.Seq.{paste, paste-zero, paste-suc, take-length}
use Rattle.room.specs.Placed.{placed, Put}

pub record Copying {A : Type 0} (s d : List A) (at : ℕ) (o : List A) (j : ℕ) : Type 0 where
  pub most : j ≤ length s
  pub copied : o ≡ paste d at s j
  pub kept : length o ≡ length d

pub begins : {A : Type 0} (s d : List A) (at : ℕ) → Copying s d at d 0
begins s d at = record { most = zero-le; copied = paste-zero d at s; kept = refl }

pub goes_on :
    {A : Type 0} (z : A) {s d o : List A} {at j : ℕ} → Copying s d at o j → at + length s ≤ length d → j < length s
    → Copying s d at (set o (at + j) (get_or s j z)) (j + 1)
goes_on z {s} {d} {o} {at} {j} h f l = record {
  most = omega arith;
  copied = rw (h.copied, add-one) (paste-suc d at s j z (omega arith) l);
  kept = rw (length-set) h.kept;
}

pub ends : {A : Type 0} {s d o : List A} {at j : ℕ} → Copying s d at o j → j ≡ length s → Put s d at o (at + j)
unfolding placed
ends h e = record { next = rw (e); stands = rw (h.copied, e, take-length) }
