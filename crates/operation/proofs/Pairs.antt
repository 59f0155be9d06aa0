-- What an insert meets, where an insert is remembered.
-- Each is a clause of the definition, under equations that a match gives. Assumes nothing.
use Prim.Native.Nat.{ℕ, ◌+◌, ◌-◌, ◌≤◌}
use mathlib.Core.Path.{◌≡◌, sym, ap, ◌∙◌, subst}
use mathlib.Core.List.{List}
use native.Mathlib.Omega.{arith}
use lib.ListN.{length}
use lib.Seq.{slice}
use borrow.Rule.Slice.PartMut.{mid_of}
use Rattle.overlap.specs.declared.Range.{Range}
use Rattle.overlap.specs.Overlap.{overlap_of}
use Rattle.overlap.proofs.Overlaps.{overlaps}
use Rattle.merging.specs.declared.Op.{Op}
use Rattle.merging.specs.declared.Op.TheVariants.{Insert}
use Rattle.operation.specs.declared.Last.{Last}
use Rattle.operation.specs.declared.Last.TheVariants.{Inserted}
use Rattle.operation.specs.Views.{Meetable}
use Rattle.operation.specs.Meets.{met_in, met_by}
use Rattle.operation.proofs.Scratch.{part_is}

-- an overlap ends no earlier than it starts
pub low_of : {r : Range} (old new : List ℕ) → r ≡ overlap_of old new → r.start ≤ r.end
low_of {r} old new e = subst (λ (x : Range). x.start ≤ x.end) (sym e) (overlaps old new).low

-- what is asked, once the operation and the remembered one are found to be inserts
pub meets_insert :
    {keys w : List ℕ} {a : Op} {v : Last} {o f n o' from fill table : ℕ} → a ≡ Insert o f n → v ≡ Inserted o' from
    → Meetable keys w a v fill table → Meetable keys w (Insert o f n) (Inserted o' from) fill table
meets_insert e d m = rw (e, d) at m

pub met-inserts :
    (keys w : List ℕ) (fill : ℕ) (a : Op) (v : Last) (o f n o' from : ℕ) (r : Range) → a ≡ Insert o f n → v ≡ Inserted o' from
    → f + n ≤ length keys → r ≡ overlap_of (slice from fill w) (mid_of f (f + n - f) keys) → met_in r ≡ met_by keys w fill a v
unfolding met_by
met-inserts keys w fill a v o f n o' from r e d l q =
    let p : mid_of f (f + n - f) keys ≡ slice f (f + n) keys = part_is f (f + n) keys (omega arith) (omega arith) in
    rw (e, d, met_by) (ap met_in (q ∙ ap (overlap_of (slice from fill w)) p))
