-- Lists that were accepted keep the facts of an accepted list; a list that keeps them, over texts of code points, is accepted.
-- The checks of the chain, one by one. Assumes nothing.
use Prim.Native.Nat.{ℕ, min}
use mathlib.Core.Path.{◌≡◌}
use mathlib.Core.Bool.{Bool, true, ◌&&◌}
use mathlib.Core.List.{List}
use native.Mathlib.Omega.{arith}
use lib.ListN.{length}
use borrow.Author.Tests.{le-leb}
use Rattle.records.specs.declared.Operation.{Operation}
use Rattle.records.specs.declared.Cursor.{Cursor}
use Rattle.verdict.specs.Verdicts.{and_then, sized, Verdict, accepted}
use Rattle.verdict.specs.Points.{points_verdict}
use Rattle.room.proofs.Bools.{and_left, and_right}
use Rattle.verdict.proofs.Chains.{first_passed, rest_passed, size_passed}
use Rattle.sizes.specs.declared.Limits.{Limits}
use Rattle.sizes.specs.Texts.{total, claimed_by, inserted_by, text_length}
use Rattle.sizes.specs.Sizes.{Small, lent_fits, list_fits}
use Rattle.sizes.proofs.Sums.{cap}
use Rattle.shapes.specs.Shapes.{records_from}
use Rattle.shapes.specs.Tiling.{tiling_of, within_from}
use Rattle.shapes.specs.Accepted.{AcceptedList}
use Rattle.shapes.proofs.Accepted.{list_facts, text_most, records_yes, tiling_yes, within_yes}
use Rattle.checks.specs.Lists.{list_verdict, lists_verdict}

module _ (l : Limits) (original text spans keys : List ℕ) (os : List Operation) (cs : List Cursor) where
  pub accepted_list : list_verdict l original text spans keys os cs ≡ accepted → AcceptedList l original text spans keys os cs
  unfolding list_verdict
  accepted_list h =
      let m : ℕ = length text in
      let fit : Bool = lent_fits original text && list_fits l m spans keys os cs in
      let points : Verdict = points_verdict original text in
      let records : Verdict = records_from m spans keys os 0 in
      let tiling : Verdict = tiling_of (length original) os in
      let within : Verdict = within_from (text_length m spans keys os) cs 0 in
      let s = size_passed fit (first_passed (sized fit) (and_then points (and_then records (and_then tiling within))) h) in
      let o = rest_passed (sized fit) (and_then points (and_then records (and_then tiling within))) h in
      let p = rest_passed points (and_then records (and_then tiling within)) o in
      let q = rest_passed records (and_then tiling within) p in
      list_facts l original text spans keys os cs (and_left (lent_fits original text) (list_fits l m spans keys os cs) s)
      (and_right (lent_fits original text) (list_fits l m spans keys os cs) s)
      (first_passed records (and_then tiling within) p) (first_passed tiling within q) (rest_passed tiling within q)

  -- the lengths of an accepted list's texts are below the cap
  pub inserted_known : (x : ℕ) → Small l → list_verdict l original text spans keys os cs ≡ accepted → x ≡ min cap (total (inserted_by (length text) spans keys) os)
      → x ≡ total (inserted_by (length text) spans keys) os
  inserted_known x s h e = omega (arith, (accepted_list h).inserted_most, s.text)

  pub text_known : (x : ℕ) → Small l → list_verdict l original text spans keys os cs ≡ accepted → x ≡ min cap (text_length (length text) spans keys os)
      → x ≡ text_length (length text) spans keys os
  text_known x s h e = omega (arith, s.text, text_most l original text spans keys os cs (accepted_list h))

  pub verdict_yes : AcceptedList l original text spans keys os cs → points_verdict original text ≡ accepted
      → list_verdict l original text spans keys os cs ≡ accepted
  unfolding list_verdict
  verdict_yes a p =
      rw (
        le-leb (length original) 65535 a.original_most,
        le-leb (length text) 131070 a.text_most,
        le-leb (length os) l.operations a.operations_most,
        le-leb (length cs) l.cursors a.cursors_most,
        le-leb (total claimed_by os) l.tokens a.tokens_most,
        le-leb (total (inserted_by (length text) spans keys) os) l.text a.inserted_most,
        p,
        records_yes (length text) spans keys os 0 a.shapes,
        tiling_yes (length original) os 0 0 a.tiles,
      )
      (within_yes (text_length (length text) spans keys os) cs 0 a.within)

module _ (l : Limits) (original text spans keys : List ℕ) (ls rs : List Operation) (lcs rcs : List Cursor)
    (h : lists_verdict l original text spans keys ls rs lcs rcs ≡ accepted) where
  m : ℕ
  m = length text

  fit : Bool
  fit = lent_fits original text && (list_fits l m spans keys ls lcs && list_fits l m spans keys rs rcs)

  points : Verdict
  points = points_verdict original text

  lefts : Verdict
  lefts = records_from m spans keys ls 0

  rights : Verdict
  rights = records_from m spans keys rs 0

  left_tiling : Verdict
  left_tiling = tiling_of (length original) ls

  right_tiling : Verdict
  right_tiling = tiling_of (length original) rs

  left_within : Verdict
  left_within = within_from (text_length m spans keys ls) lcs 0

  right_within : Verdict
  right_within = within_from (text_length m spans keys rs) rcs 0

  within : Verdict
  within = and_then left_within right_within

  tilings : Verdict
  tilings = and_then (and_then left_tiling right_tiling) within

  chain : and_then (sized fit) (and_then points (and_then (and_then lefts rights) tilings)) ≡ accepted
  unfolding lists_verdict fit points lefts rights left_tiling right_tiling left_within right_within within tilings m
  chain = h

  sizes : fit ≡ true
  sizes = size_passed fit (first_passed (sized fit) (and_then points (and_then (and_then lefts rights) tilings)) chain)

  lent : lent_fits original text ≡ true
  unfolding fit m
  lent = and_left (lent_fits original text) (list_fits l (length text) spans keys ls lcs && list_fits l (length text) spans keys rs rcs) sizes

  both : list_fits l (length text) spans keys ls lcs && list_fits l (length text) spans keys rs rcs ≡ true
  unfolding fit m
  both = and_right (lent_fits original text) (list_fits l (length text) spans keys ls lcs && list_fits l (length text) spans keys rs rcs) sizes

  behind_points : and_then (and_then lefts rights) tilings ≡ accepted
  behind_points =
      rest_passed points (and_then (and_then lefts rights) tilings) (rest_passed (sized fit) (and_then points (and_then (and_then lefts rights) tilings)) chain)

  both_records : and_then lefts rights ≡ accepted
  both_records = first_passed (and_then lefts rights) tilings behind_points

  both_tilings : and_then left_tiling right_tiling ≡ accepted
  unfolding tilings
  both_tilings = first_passed (and_then left_tiling right_tiling) within (rest_passed (and_then lefts rights) tilings behind_points)

  both_within : and_then left_within right_within ≡ accepted
  unfolding tilings within
  both_within = rest_passed (and_then left_tiling right_tiling) within (rest_passed (and_then lefts rights) tilings behind_points)

  pub accepted_left : AcceptedList l original text spans keys ls lcs
  unfolding m lefts rights left_tiling right_tiling left_within right_within
  accepted_left =
      list_facts l original text spans keys ls lcs lent (and_left (list_fits l (length text) spans keys ls lcs) (list_fits l (length text) spans keys rs rcs) both)
      (first_passed lefts rights both_records) (first_passed left_tiling right_tiling both_tilings) (first_passed left_within right_within both_within)

  pub accepted_right : AcceptedList l original text spans keys rs rcs
  unfolding m lefts rights left_tiling right_tiling left_within right_within
  accepted_right =
      list_facts l original text spans keys rs rcs lent (and_right (list_fits l (length text) spans keys ls lcs) (list_fits l (length text) spans keys rs rcs) both)
      (rest_passed lefts rights both_records) (rest_passed left_tiling right_tiling both_tilings) (rest_passed left_within right_within both_within)

  -- the tokens that accepted lists insert are below the cap
  pub left_claims : (x : ℕ) → Small l → x ≡ min cap (total claimed_by ls) → x ≡ total claimed_by ls
  left_claims x s e = omega (arith, accepted_left.tokens_most, s.tokens)

  pub right_claims : (x : ℕ) → Small l → x ≡ min cap (total claimed_by rs) → x ≡ total claimed_by rs
  right_claims x s e = omega (arith, accepted_right.tokens_most, s.tokens)
