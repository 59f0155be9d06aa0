-- Shown: a raw list whose runs are good, within the sizes and with room, is not refused.
-- How: each check of the raw list, over what its runs are read as. Assumes nothing.
use mathlib.Core.Path.{◌≡◌, refl}
use mathlib.Core.Bool.{Bool, true, false, ◌&&◌}
use mathlib.Core.List.{List, [], ◌∷◌}
use Prim.Native.Nat.{ℕ, zero, suc, ◌+◌, ◌*◌, ◌≤◌, ◌<◌}
use native.Mathlib.Omega.{arith}
use lib.ListN.{length, length-append}
use lib.Dec.{leb}
use borrow.Author.Tests.{le-leb, lt-ltb}
use Rattle.room.specs.Choice.{pick}
use Rattle.records.specs.declared.Token.{Token}
use Rattle.records.specs.Tokens.{tokens_from, tokens_length}
use Rattle.verdict.specs.Verdicts.{accepted}
use Rattle.verdict.specs.Points.{points_from}
use Rattle.sizes.specs.Texts.{in_text, run_text}
use Rattle.shapes.specs.Shapes.{run_good}
use Rattle.room.proofs.Bools.{both_yes}
use Rattle.raw_lists.specs.declared.Raw.{Raw}
use Rattle.raw_lists.specs.Raws.{Run, pieces_lent, pieces_from, runs_of as runsLent}
use Rattle.raw_lists.specs.Good.{counts}
use Rattle.raw_lists.specs.Checks.{total, claimed_by, run_lent, text_by, raw_fits, is_raw, shapes_from}
use Rattle.raw_lists.proofs.Pieces.{length_pieces}
use Rattle.elongate.specs.Elongated.{pieces_length, all_tokens}
use Rattle.elongate.specs.Verdicts.{rooms_fit, raw_verdict}
use Rattle.elongate.proofs.Lengths.{pieces_length_lem}
use Rattle.elongate.proofs.Arranging.{lengths_total}
use Rattle.room.proofs.Choices.{pick_elim}
use Rattle.edit_list.proofs.Back.{raw_list}
use Rattle.edit_list.proofs.Runs.{PiecesIn, GoodRun, AllRuns}

-- every operation's range of tokens lies in the first `lent`
unfoldable pub AllLent : ℕ → List Raw → Type 0
AllLent lent [] = Unit
AllLent lent (r ∷ rs) = (r.first + r.count ≤ lent) × AllLent lent rs

pub list_lent : (lent f : ℕ) (rs : List Run) → f + length (all_tokens rs) ≤ lent → AllLent lent (raw_list f rs)
unfolding AllLent raw_list all_tokens
list_lent lent f [] h = tt
list_lent lent f (r ∷ rs) h =
    let l = length-append r.tokens (all_tokens rs) in
    (omega (arith, l), list_lent lent (f + length r.tokens) rs (omega (arith, l)))

-- sums

claimed_most : (rs : List Raw) → total claimed_by rs ≤ counts rs
unfolding total counts
claimed_most [] = omega arith
claimed_most (r ∷ rs) =
    let m : claimed_by r ≤ r.count = pick_elim (λ (n : ℕ). n ≤ r.count) (leb r.kind 2) (λ e. omega arith) (λ e. omega arith) in
    omega (arith, m, claimed_most rs)

text_most : (n : ℕ) (ts : List Token) → run_text n ts ≤ tokens_length ts
unfolding run_text tokens_length
text_most n [] = omega arith
text_most n (t ∷ ts) =
    let m : pick (in_text n t) t.length 0 ≤ t.length = pick_elim (λ (x : ℕ). x ≤ t.length) (in_text n t) (λ e. omega arith) (λ e. omega arith) in
    omega (arith, m, text_most n ts)

chosen_most : (b : Bool) (x y : ℕ) → x ≤ y → elim b [ true ↦ x | false ↦ 0 ] ≤ y
chosen_most true x y h = h
chosen_most false x y h = omega arith

module _ (n : ℕ) (s k j : List ℕ) where
  used_most : (rs : List Raw) → total (text_by n s k j) rs ≤ total (λ r. pieces_length (pieces_from s k j r.first r.count)) rs
  unfolding total
  used_most [] = omega arith
  used_most (r ∷ rs) =
      let m : text_by n s k j r ≤ tokens_length (tokens_from s k r.first r.count) =
      chosen_most (leb r.kind 2 && run_lent s k j r) (run_text n (tokens_from s k r.first r.count)) (tokens_length (tokens_from s k r.first r.count))
      (text_most n (tokens_from s k r.first r.count)) in
      omega (arith, m, pieces_length_lem s k j r.first r.count, used_most rs)

  -- shapes

  run_fine : (i c : ℕ) → PiecesIn n (pieces_from s k j i c) → run_good n (tokens_from s k i c) ≡ true
  unfolding pieces_from tokens_from run_good PiecesIn
  run_fine i zero h = refl
  run_fine i (suc c) h = rw (lt-ltb _ _ h.0, le-leb _ _ h.1.0) (run_fine (i + 1) c h.1.1)

  raw_fine : (r : Raw) → GoodRun n (record { kind = r.kind; tokens = pieces_from s k j r.first r.count }) → r.first + r.count ≤ pieces_lent s k j
      → is_raw n s k j r ≡ true
  raw_fine r g l =
      let some : 0 < r.count = rw (length_pieces s k j r.first r.count) at g.some in
      both_yes _ _ (le-leb r.kind 2 g.known)
      (both_yes _ _ (lt-ltb 0 r.count some) (both_yes _ _ (le-leb (r.first + r.count) (pieces_lent s k j) l) (run_fine r.first r.count g.inside)))

  shapes_fine : (rs : List Raw) (i : ℕ) → AllRuns n (runsLent s k j rs) → AllLent (pieces_lent s k j) rs → shapes_from n s k j rs i ≡ accepted
  unfolding shapes_from AllRuns AllLent runsLent
  shapes_fine [] i g l = refl
  shapes_fine (r ∷ rs) i g l = rw (raw_fine r g.0 l.0, shapes_from) (shapes_fine rs (i + 1) g.1 l.1)

-- the sizes and the rooms that a raw list and its answer need
pub record Sized (rs : List Raw) (s k j text : List ℕ) (o s' k' j' : ℕ) : Type 0 where
  pub text_most : length text ≤ 131070
  pub few : length rs ≤ 8192
  pub tokens : counts rs ≤ 16384
  pub used : pieces_length (all_tokens (runsLent s k j rs)) ≤ 131070
  pub lent : AllLent (pieces_lent s k j) rs
  pub in_operations : length rs * 6 ≤ o
  pub in_spans : counts rs * 2 ≤ s'
  pub in_keys : counts rs ≤ k'
  pub in_joins : counts rs ≤ j'

pub passes : (rs : List Raw) (s k j text : List ℕ) (o s' k' j' : ℕ) → Sized rs s k j text o s' k' j' → points_from text 0 ≡ accepted
    → AllRuns (length text) (runsLent s k j rs) → raw_verdict text s k j rs o s' k' j' ≡ accepted
unfolding raw_verdict
passes rs s k j text o s' k' j' z p g =
    let u : total (text_by (length text) s k j) rs ≤ 131070 = omega (arith, used_most (length text) s k j rs, lengths_total s k j rs, z.used) in
    let e1 : raw_fits (length text) s k j rs ≡ true =
    both_yes _ _ (le-leb _ _ z.text_most)
    (both_yes _ _ (le-leb _ _ z.few) (both_yes _ _ (le-leb (total claimed_by rs) 16384 (omega (arith, claimed_most rs, z.tokens))) (le-leb _ _ u))) in
    let e2 = shapes_fine (length text) s k j rs 0 g z.lent in
    let e3 : rooms_fit rs o s' k' j' ≡ true =
    both_yes _ _ (le-leb _ _ z.in_operations) (both_yes _ _ (le-leb _ _ z.in_spans) (both_yes _ _ (le-leb _ _ z.in_keys) (le-leb _ _ z.in_joins))) in
    rw (e1, p, e2, e3)
