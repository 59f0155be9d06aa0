-- The tail of a cut retain, by the test that decides it.
-- Each is a case of the definition's tests. Assumes nothing.
use Prim.Native.Nat.{ℕ, ◌+◌, ◌-◌, ◌≤◌, ◌<◌}
use mathlib.Core.Path.{◌≡◌, sym, ap, ◌∙◌}
use mathlib.Core.Bool.{true, false}
use lib.Dec.{ltb}
use mathlib.Core.List.{List}
use borrow.Author.Tests.{lt-ltb, le-ltb}
use Rattle.merging.specs.declared.Op.{Op}
use Rattle.merging.specs.declared.Op.TheVariants.{Retain}
use Rattle.merging.specs.Meeting.{kept_length}
use Rattle.std.specs.Prelude.{Some, None}
use Rattle.operation.specs.Meets.{tail_by}

pub tail_cut :
    (o l k : ℕ) (rs : List Op) → k ≡ kept_length o l rs → k < l → tail_by (Retain o l) rs ≡ Some (Retain (o + k) (l - k))
unfolding tail_by
tail_cut o l k rs e h = ap (λ (j : ℕ). elim (ltb j l) [ true ↦ Some (Retain (o + j) (l - j)) | false ↦ None ]) (sym e) ∙ rw (lt-ltb _ _ h)

pub tail_whole : (o l k : ℕ) (rs : List Op) → k ≡ kept_length o l rs → l ≤ k → tail_by (Retain o l) rs ≡ None
unfolding tail_by
tail_whole o l k rs e h = rw (sym e, le-ltb _ _ h, tail_by)
