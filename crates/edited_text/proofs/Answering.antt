-- Shown: the call: lists that the checks accept and rooms as asked are ready to be merged, and what was merged is the answer; a refusal leaves every room.
-- How: the verdict, check by check.
use Prim.Native.Nat.{ℕ, ◌+◌, ◌*◌, ◌/◌, ◌≤◌}
use mathlib.Core.Path.{◌≡◌, refl, sym, ap, ◌∙◌}
use mathlib.Core.Bool.{Bool, true, false, ◌&&◌}
use mathlib.Core.List.{List}
use native.Mathlib.Omega.{arith}
use lib.ListN.{length}
use lib.Dec.{leb}
use borrow.Author.Tests.{leb-true}
use Rattle.refusal.specs.declared.Refusal.{Refusal}
use Rattle.refusal.specs.declared.Refusal.TheVariants as R
use Rattle.records.specs.Operations.{operations_of}
use Rattle.records.specs.Cursors.{cursors_of}
use Rattle.records.proofs.OperationLaws.{length_of_lem as operations-of}
use Rattle.records.proofs.CursorLaws.{length_of_lem as cursors-of}
use Rattle.sizes.specs.declared.Limits.{Limits}
use Rattle.sizes.specs.Texts.{total, claimed_by}
use Rattle.sizes.specs.Sizes.{merging}
use Rattle.checks.specs.declared.Claims.{Claims}
use Rattle.checks.specs.Lists.{lists_verdict, claims_on}
use Rattle.shapes.specs.Accepted.{AcceptedList}
use Rattle.room.proofs.Bools.{and_left, and_right}
use Rattle.verdict.proofs.Chains.{stops, has_room, lacks_room}
use Rattle.checks.proofs.Accepted.{accepted_left, accepted_right}
use Rattle.checks.proofs.Telling.{says_no, says_yes, says_what}
use Rattle.edited_text.specs.declared.Counts.{Counts}
use Rattle.edited_text.specs.Merging.{rooms_fit, merge_verdict, verdict_on, MergedBy, Mergeable, Merges}
use Rattle.std.specs.Prelude.{Result, Ok, Err}
use Rattle.verdict.specs.Verdicts.{Verdict, accepted}

same_counts : (r : Counts) (n m : ℕ) → r.operations ≡ n → r.cursors ≡ m → r ≡ record { operations = n; cursors = m }
same_counts r n m e f = rw (← e, ← f)

module _ (original text spans keys left right lcs rcs o c w : List ℕ) where
  abbrev verdict : Verdict
  verdict = verdict_on original text spans keys left right lcs rcs o c w

  -- a refusal leaves the rooms as they were
  refuses : (r : Refusal) → verdict ≡ Err r → MergedBy original text spans keys left right lcs rcs o o c c w w (Err r)
  refuses r e = record { answer = rw e; operations = rw e; cursors = rw e; work = rw e refl }

  -- what the check gave
  module _ (l : Limits) (el : l ≡ merging) where
    abbrev checked : Result Claims Refusal
    checked = claims_on l original text spans keys (operations_of left) (operations_of right) (cursors_of lcs) (cursors_of rcs)

    pub refused : (r : Refusal) → Err r ≡ checked → MergedBy original text spans keys left right lcs rcs o o c c w w (Err r)
    unfolding merge_verdict
    refused r e = refuses r (sym (stops _ _ r (says_no _ _ _ (sym (rw el at e)))))

    module _ (x : Claims) (e : Ok x ≡ checked) where
      passed : lists_verdict merging original text spans keys (operations_of left) (operations_of right) (cursors_of lcs) (cursors_of rcs) ≡ accepted
      passed = says_yes _ _ _ (sym (rw el at e))

      claims : record { left = total claimed_by (operations_of left); right = total claimed_by (operations_of right) } ≡ x
      claims = says_what _ _ _ (sym e)

      pub left_list : AcceptedList merging original text spans keys (operations_of left) (cursors_of lcs)
      left_list = accepted_left merging original text spans keys (operations_of left) (operations_of right) (cursors_of lcs) (cursors_of rcs) passed

      pub right_list : AcceptedList merging original text spans keys (operations_of right) (cursors_of rcs)
      right_list = accepted_right merging original text spans keys (operations_of left) (operations_of right) (cursors_of lcs) (cursors_of rcs) passed

      claims_left : x.left ≡ total claimed_by (operations_of left)
      claims_left = ap (λ (y : Claims). y.left) (sym claims)

      claims_right : x.right ≡ total claimed_by (operations_of right)
      claims_right = ap (λ (y : Claims). y.right) (sym claims)

      pub half_small : x.left + x.right ≤ 16384
      half_small = omega (arith, claims_left, left_list.tokens_most, claims_right, right_list.tokens_most)

      abbrev tested : Bool
      tested =
          leb ((length left / 6 + length right / 6) * 6) (length o)
          && (leb ((length lcs / 2 + length rcs / 2) * 2) (length c) && leb ((x.left + x.right) * 2) (length w))

      rooms : tested ≡ rooms_fit (operations_of left) (operations_of right) (cursors_of lcs) (cursors_of rcs) (length o) (length c) (length w)
      rooms = rw (operations-of left, operations-of right, cursors-of lcs, cursors-of rcs, ← claims_left, ← claims_right)

      pub no_room : tested ≡ false → MergedBy original text spans keys left right lcs rcs o o c c w w (Err R.Room)
      unfolding merge_verdict
      no_room f = refuses R.Room (lacks_room _ _ passed (sym rooms ∙ f))

      module _ (f : tested ≡ true) where
        accepts : verdict ≡ accepted
        unfolding merge_verdict
        accepts = has_room _ _ passed (sym rooms ∙ f)

        abbrev first : Bool
        first = leb ((length left / 6 + length right / 6) * 6) (length o)

        abbrev second : Bool
        second = leb ((length lcs / 2 + length rcs / 2) * 2) (length c)

        abbrev third : Bool
        third = leb ((x.left + x.right) * 2) (length w)

        pub mergeable : Mergeable original text spans keys left right lcs rcs x.left (x.left + x.right) o c w
        mergeable =
            let rest : second && third ≡ true = and_right first (second && third) f in
            record {
              left_accepted = left_list;
              right_accepted = right_list;
              mid_is = claims_left;
              half_is = omega (arith, claims_right);
              operations_fit =
                  omega (arith, leb-true ((length left / 6 + length right / 6) * 6) (length o) (and_left first (second && third) f), operations-of left, operations-of right);
              cursors_fit = omega (arith, leb-true ((length lcs / 2 + length rcs / 2) * 2) (length c) (and_left second third rest), cursors-of lcs, cursors-of rcs);
              work_fits = leb-true ((x.left + x.right) * 2) (length w) (and_right second third rest);
            }

        pub answers : (o' c' w' : List ℕ) (r : Counts) → Merges original text spans keys left right lcs rcs o o' c c' r → length w' ≡ length w
            → MergedBy original text spans keys left right lcs rcs o o' c c' w w' (Ok r)
        answers o' c' w' r M k =
            record {
              answer = rw (accepts, same_counts r _ _ M.many_operations M.many_cursors);
              operations = rw accepts M.operations;
              cursors = rw accepts M.cursors;
              work = rw accepts k;
            }
