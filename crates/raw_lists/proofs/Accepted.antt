-- An accepted raw list is good, and claims the tokens that it has.
-- The checks say it of each operation. Assumes nothing.
use Prim.Native.Nat.{ℕ, ◌+◌}
use mathlib.Core.Path.{◌≡◌, refl}
use mathlib.Core.Bool.{Bool, true, ◌&&◌}
use mathlib.Core.List.{List, [], ◌∷◌}
use lib.Dec.{leb, ltb}
use borrow.Author.Tests.{le-leb, leb-true, ltb-true}
use Rattle.refusal.specs.declared.Refusal.TheVariants as R
use Rattle.records.specs.Tokens.{tokens_from}
use Rattle.shapes.specs.Shapes.{run_good}
use Rattle.shapes.proofs.Accepted.{all_in}
use Rattle.room.proofs.Bools.{and_left, and_right}
use Rattle.verdict.proofs.Chains.{went}
use Rattle.raw_lists.specs.declared.Raw.{Raw}
use Rattle.raw_lists.specs.Raws.{pieces_lent}
use Rattle.raw_lists.specs.Good.{GoodRaw, AllGood, counts}
use Rattle.raw_lists.specs.Checks.{total, claimed_by, run_lent, is_raw, shapes_from}
use Rattle.verdict.specs.Verdicts.{accepted}

module _ (n : ℕ) (spans keys joins : List ℕ) where
  good_raw : (r : Raw) → is_raw n spans keys joins r ≡ true → GoodRaw n spans keys joins r
  good_raw r h =
      let g : Bool = run_good n (tokens_from spans keys r.first r.count) in
      let l : Bool = run_lent spans keys joins r in
      let a = and_right (leb r.kind 2) (ltb 0 r.count && (l && g)) h in
      let b = and_right (ltb 0 r.count) (l && g) a in
      record {
        known = leb-true r.kind 2 (and_left (leb r.kind 2) (ltb 0 r.count && (l && g)) h);
        some = ltb-true 0 r.count (and_left (ltb 0 r.count) (l && g) a);
        lent = leb-true (r.first + r.count) (pieces_lent spans keys joins) (and_left l g b);
        tokens = all_in n (tokens_from spans keys r.first r.count) (and_right l g b);
      }

  pub all_good : (rs : List Raw) (i : ℕ) → shapes_from n spans keys joins rs i ≡ accepted → AllGood n spans keys joins rs
  unfolding shapes_from AllGood
  all_good [] i h = tt
  all_good (r ∷ rs) i h =
      let w = went (is_raw n spans keys joins r) (shapes_from n spans keys joins rs (i + 1)) (R.Record i) h in
      (good_raw r w.0, all_good rs (i + 1) w.1)

  -- its counts are those that were checked
  pub claimed_all : (rs : List Raw) → AllGood n spans keys joins rs → total claimed_by rs ≡ counts rs
  unfolding total counts AllGood
  claimed_all [] g = refl
  claimed_all (r ∷ rs) g = rw (le-leb r.kind 2 g.0.known, claimed_all rs g.1)
