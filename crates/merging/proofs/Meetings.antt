-- Shown: what meeting an insert leaves, by whether all of the later insert was lost; what is remembered of inserts that follow each other, by whether their orders are the same; and the overlap's place, by whether there is one.
-- How: each is a case of the definition's test.
use Prim.Native.Nat.{ℕ, ◌-◌, ◌<◌}
use mathlib.Core.Path.{◌≡◌}
use mathlib.Core.List.{List, [], ◌++◌}
use native.Mathlib.Omega.{arith}
use lib.ListN.{drop}
use lib.Seq.{slice}
use borrow.Author.Tests.{eq-eqb, ne_eqb}
use Rattle.overlap.specs.declared.Range.{Range}
use Rattle.merging.specs.Lent.{sum}
use Rattle.merging.specs.Meeting.{inserted, width_of, used_up, appended}
use Rattle.merging.specs.Cursors.{overlap_place}

module _ (r : Range) where
  pub place_none : (ls : List ℕ) (m : ℕ) → width_of r ≡ 0 → overlap_place r ls m ≡ record { start = m; shared = 0 }
  unfolding overlap_place
  place_none ls m h = rw (eq-eqb (width_of r) 0 h, overlap_place)

  pub place_some : (ls : List ℕ) (m : ℕ) → 0 < width_of r
      → overlap_place r ls m ≡ record { start = m - sum (drop r.start ls); shared = sum (slice r.start r.end ls) }
  unfolding overlap_place
  place_some ls m h = rw (ne_eqb (width_of r) 0 (λ e. omega arith), overlap_place)

  pub used_all : (n o : ℕ) (ks ls : List ℕ) → width_of r ≡ n → used_up r n o ks ls ≡ inserted o (drop r.end ks) (drop r.end ls)
  unfolding used_up
  used_all n o ks ls h = rw (eq-eqb (width_of r) n h, used_up)

  pub used_rest : (n o : ℕ) (ks ls : List ℕ) → (width_of r ≡ n → ⊥) → used_up r n o ks ls ≡ inserted o [] []
  unfolding used_up
  used_rest n o ks ls h = rw (ne_eqb (width_of r) n h, used_up)

module _ (o' : ℕ) (ks' ls' : List ℕ) (o : ℕ) (ks ls : List ℕ) where
  pub appended_same : o' ≡ o → appended o' ks' ls' o ks ls ≡ inserted o' (ks' ++ ks) (ls' ++ ls)
  unfolding appended
  appended_same h = rw (eq-eqb o' o h, appended)

  pub appended_new : (o' ≡ o → ⊥) → appended o' ks' ls' o ks ls ≡ inserted o ks ls
  unfolding appended
  appended_new h = rw (ne_eqb o' o h, appended)
