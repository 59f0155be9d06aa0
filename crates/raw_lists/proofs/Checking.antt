-- The checks of a raw list: its operations one after another, and sums that stop at a cap.
-- What is left, from where a loop stands, gives the answer of the whole. Assumes nothing.
use Prim.Native.Nat.{ℕ, ◌+◌, ◌-◌, ◌/◌, ◌≤◌, ◌<◌, min, zero-le}
use mathlib.Core.Path.{◌≡◌}
use mathlib.Core.Bool.{true, false}
use mathlib.Core.List.{List, ◌∷◌}
use native.Mathlib.Omega.{arith}
use native.Mathlib.Nat.{sub-zero}
use lib.ListN.{length}
use lib.Dec.{leb}
use borrow.Author.Tests.{le-leb, lt-leb}
use Rattle.refusal.specs.declared.Refusal.TheVariants as R
use Rattle.sizes.proofs.Sums.{cap, cap_test}
use Rattle.raw_lists.specs.declared.Raw.{Raw}
use Rattle.raw_lists.specs.Raws.{raw_at, raws_from, raws_of}
use Rattle.raw_lists.specs.Checks.{total, claimed_by, text_by, raw_fits, is_raw, shapes_from}
use Rattle.raw_lists.proofs.Lists.{from_more, from_none, length_raws}
use Rattle.std.specs.Prelude.{Err}
use Rattle.verdict.specs.Verdicts.{accepted}

-- shapes

pub record Shaping (n : ℕ) (spans keys joins xs : List ℕ) (count i : ℕ) : Type 0 where
  pub most : i ≤ count
  pub rest : shapes_from n spans keys joins (raws_from xs i (count - i)) i ≡ shapes_from n spans keys joins (raws_of xs) 0

pub shaping_begins : (n : ℕ) (spans keys joins xs : List ℕ) (count : ℕ) → count ≡ length xs / 3 → Shaping n spans keys joins xs count 0
unfolding raws_of
shaping_begins n spans keys joins xs count e = record { most = zero-le; rest = rw (sub-zero, e) }

module _ {n : ℕ} {spans keys joins xs : List ℕ} {count i : ℕ} (h : Shaping n spans keys joins xs count i) where
  module _ (r : Raw) (l : i < count) (e : r ≡ raw_at xs i) where
    whole : shapes_from n spans keys joins (r ∷ raws_from xs (i + 1) (count - (i + 1))) i ≡ shapes_from n spans keys joins (raws_of xs) 0
    whole = rw e (rw (from_more xs i count l) at h.rest)

    pub shaping_on : is_raw n spans keys joins r ≡ true → Shaping n spans keys joins xs count (i + 1)
    unfolding shapes_from
    shaping_on b = record { most = omega arith; rest = rw (b, shapes_from) at whole }

    pub shaping_bad : is_raw n spans keys joins r ≡ false → Err (R.Record i) ≡ shapes_from n spans keys joins (raws_of xs) 0
    unfolding shapes_from
    shaping_bad b = rw (b, shapes_from) at whole

  pub shaping_ends : count ≤ i → accepted ≡ shapes_from n spans keys joins (raws_of xs) 0
  unfolding shapes_from
  shaping_ends l = rw (from_none xs i count l) at h.rest

-- sizes

module _ (n : ℕ) (spans keys joins xs : List ℕ) where
  pub size_text : 131070 < n → false ≡ raw_fits n spans keys joins (raws_of xs)
  size_text h = rw (lt-leb n 131070 h)

  module _ (a : n ≤ 131070) where
    pub size_operations : 8192 < length xs / 3 → false ≡ raw_fits n spans keys joins (raws_of xs)
    size_operations h = rw (le-leb n 131070 a, lt-leb (length (raws_of xs)) 8192 (omega (arith, length_raws xs)))

    module _ (b : length xs / 3 ≤ 8192) (t : ℕ) (et : t ≡ min cap (total claimed_by (raws_of xs))) where
      few : leb (length (raws_of xs)) 8192 ≡ true
      few = le-leb (length (raws_of xs)) 8192 (omega (arith, length_raws xs))

      tokens : leb t 16384 ≡ leb (total claimed_by (raws_of xs)) 16384
      tokens = cap_test (total claimed_by (raws_of xs)) t 16384 et (omega arith)

      pub size_tokens : 16384 < t → false ≡ raw_fits n spans keys joins (raws_of xs)
      size_tokens h = rw (le-leb n 131070 a, few, ← tokens, lt-leb t 16384 h)

      pub size_used : t ≤ 16384 → (u : ℕ) → u ≡ min cap (total (text_by n spans keys joins) (raws_of xs)) → leb u 131070 ≡ raw_fits n spans keys joins (raws_of xs)
      size_used h u eu =
          rw (le-leb n 131070 a, few, ← tokens, le-leb t 16384 h) (cap_test (total (text_by n spans keys joins) (raws_of xs)) u 131070 eu (omega arith))
