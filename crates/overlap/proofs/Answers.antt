-- Refusal 3 of the call: a side with more than 8,192 keys.
-- Each is the definition, rewritten by what its tests say. Assumes nothing.
use Prim.Native.Nat.{ℕ, ◌≤◌, ◌<◌}
use mathlib.Core.Path.{◌≡◌}
use mathlib.Core.List.{List}
use lib.ListN.{length}
use borrow.Author.Tests.{lt-ltb, le-ltb}
use Rattle.std.specs.Prelude.{Err}
use Rattle.refusal.specs.declared.Refusal.TheVariants.{Size}
use Rattle.overlap.specs.Overlap.{answer_of}

module _ (old new : List ℕ) (work : ℕ) where
  pub old_long : 8192 < length old → Err Size ≡ answer_of old new work
  unfolding answer_of
  old_long h = rw (lt-ltb 8192 (length old) h)

  pub new_long : length old ≤ 8192 → 8192 < length new → Err Size ≡ answer_of old new work
  unfolding answer_of
  new_long h k = rw (le-ltb 8192 (length old) h, lt-ltb 8192 (length new) k)
