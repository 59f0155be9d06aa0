-- Shown: two lists that are few enough are merged and written, or refused as the merge refuses them.
-- How: the program's rooms are as long as the merge asks, so its verdict is the checks'; an accepted merge's list has a diff.
use Prim.Native.Nat.{ℕ, ◌+◌, ◌*◌, ◌≤◌, zero-le}
use mathlib.Core.Path.{◌≡◌, refl, sym, ◌∙◌, ap}
use mathlib.Core.List.{List, []}
use native.Mathlib.Omega.{arith}
use lib.ListN.{length, take}
use borrow.Author.Tests.{le-leb}
use Rattle.refusal.specs.declared.Refusal.{Refusal}
use Rattle.refusal.specs.declared.Refusal.TheVariants as R
use Rattle.refusal.specs.Numbers.{number}
use Rattle.room.specs.Placed.{answered}
use Rattle.records.specs.declared.Operation.{Operation}
use Rattle.records.specs.Operations.{operations_of, flat_operations}
use Rattle.records.specs.Cursors.{cursors_from, cursors_of, Within}
use Rattle.records.proofs.OperationLaws.{length_answered, of_answered}
use Rattle.verdict.specs.Verdicts.{and_then, Verdict, accepted}
use Rattle.sizes.specs.Texts.{total, claimed_by}
use Rattle.sizes.specs.Sizes.{merging, otherwise}
use Rattle.verdict.specs.Points.{points_verdict}
use Rattle.checks.specs.Lists.{lists_verdict}
use Rattle.shapes.specs.Accepted.{AcceptedList}
use Rattle.verdict.proofs.Chains.{first_passed, rest_passed}
use Rattle.checks.proofs.Accepted.{accepted_left, accepted_right, verdict_yes}
use Rattle.merging.specs.Lent.{Lent, rules_of, lent_of as given}
use Rattle.merging.specs.Merge.{Merged, merge_of}
use Rattle.merging_laws.proofs.Accepted.{merged_accepted, merged_operations_most, merged_text_most}
use Rattle.to_diff.specs.Answers.{verdict_on}
use Rattle.edited_text.specs.declared.Counts.{Counts}
use Rattle.edited_text.specs.Merging.{merge_verdict, verdict_on as asked, merge_on, answer_of, MergedBy}
use Rattle.merge_files.specs.declared.Outcome.{Outcome}
use Rattle.merge_files.specs.Program.{refused, judged, verdict_of, file_of, merged_of, Written}
use Rattle.merge_files.specs.Steps.{diff_result, merge_result, Diffable, Mergeable}
use Rattle.std.specs.Prelude.{Result, Ok, Err}

-- a refusal's number
pub number_most : (r : Refusal) → number r ≤ 10
number_most (R.Record i) = omega arith
number_most (R.Tiling i) = omega arith
number_most R.Size = omega arith
number_most (R.CodePoint i) = omega arith
number_most (R.Cursor p) = omega arith
number_most (R.Short p q a) = omega arith
number_most R.Room = omega arith
number_most (R.Line l) = omega arith
number_most (R.Unmentioned n) = omega arith
number_most (R.Utf8 o) = omega arith

no_cursors : cursors_of [] ≡ []
unfolding cursors_of cursors_from
no_cursors = refl

-- what an answer says of its verdict
refused_of : (v : Verdict) (m : Merged) (r : Refusal) → Err r ≡ answer_of v m → v ≡ Err r
refused_of (Ok u) m r e = let z : ◌≡◌ {A = ℕ} 0 1 = cc in absurd (omega arith)
refused_of (Err s) m r e = cc

counts_of : (v : Verdict) (m : Merged) (n : Counts) → Ok n ≡ answer_of v m → (v ≡ accepted) × (n.operations ≡ length m.operations)
counts_of (Ok u) m n e = (refl, cc)
counts_of (Err s) m n e = let z : ◌≡◌ {A = ℕ} 0 1 = cc in absurd (omega arith)

-- the list of an accepted merge is an accepted list
pub merged_fine : (lent : Lent) (ls rs : List Operation) → lists_verdict merging lent.original lent.inserted lent.spans lent.keys ls rs [] [] ≡ accepted
    → verdict_on lent (merge_of (rules_of lent) ls rs [] []).operations ≡ accepted
unfolding verdict_on lists_verdict Within
merged_fine lent ls rs passed =
    let al = accepted_left merging lent.original lent.inserted lent.spans lent.keys ls rs [] [] passed in
    let ar = accepted_right merging lent.original lent.inserted lent.spans lent.keys ls rs [] [] passed in
    let m = merged_accepted lent ls rs [] [] al ar in
    let p : points_verdict lent.original lent.inserted ≡ accepted = first_passed _ _ (rest_passed _ _ passed) in
    let a : AcceptedList otherwise lent.original lent.inserted lent.spans lent.keys (merge_of (rules_of lent) ls rs [] []).operations [] = record {
      original_most = m.original_most;
      text_most = m.text_most;
      operations_most = m.operations_most;
      cursors_most = omega arith;
      tokens_most = m.tokens_most;
      inserted_most = m.inserted_most;
      shapes = m.shapes;
      tiles = m.tiles;
      within = tt;
    } in
    verdict_yes otherwise lent.original lent.inserted lent.spans lent.keys (merge_of (rules_of lent) ls rs [] []).operations [] a p

module _ (original text spans keys left right : List ℕ) (K : Mergeable text spans keys left right) (o c w o' c' w' : List ℕ) (no : length o ≡ 4092) (nw : length w ≡ 4096) where
  abbrev lent : Lent
  lent = given original text spans keys

  abbrev ls : List Operation
  ls = operations_of left

  abbrev rs : List Operation
  rs = operations_of right

  -- the rooms are long enough, so the verdict is that of the checks
  verdict_is : asked original text spans keys left right [] [] o c w ≡ verdict_of lent ls rs
  unfolding merge_verdict verdict_of
  verdict_is =
      let a = le-leb ((length ls + length rs) * 6) (length o) (omega (arith, K.left_few, K.right_few)) in
      let d = le-leb ((total claimed_by ls + total claimed_by rs) * 2) (length w) (omega (arith, K.left_tokens, K.right_tokens)) in
      rw (no_cursors, a, le-leb 0 (length c) zero-le, d) (always (lists_verdict merging original text spans keys ls rs [] []))
    where
      always : (v : Verdict) → and_then v accepted ≡ v
      always (Ok u) = refl
      always (Err r) = refl

  merged_is : merge_on original text spans keys left right [] [] ≡ merge_of (rules_of lent) ls rs [] []
  merged_is = rw no_cursors

  pub refuses : {x : Result Counts Refusal} (r : Refusal) (n : ℕ) → MergedBy original text spans keys left right [] [] o o' c c' w w' x → x ≡ Err r → n ≡ number r
      → (out out' : List ℕ) (z : Outcome) → Written (refused n) out out' z → Written (merge_result original text spans keys left right) out out' z
  unfolding merged_of judged
  refuses {x} r n M t e out out' z h =
      let v : verdict_of lent ls rs ≡ Err r = sym verdict_is ∙ refused_of (asked original text spans keys left right [] [] o c w) (merge_on original text spans keys left right [] []) r (sym t ∙ M.answer) in
      rw v (rw e at h)

  module _ {x : Result Counts Refusal} (n : Counts) (M : MergedBy original text spans keys left right [] [] o o' c c' w w' x) (t : x ≡ Ok n) where
    passed : lists_verdict merging original text spans keys ls rs [] [] ≡ accepted
    unfolding verdict_of
    passed = sym verdict_is ∙ (counts_of (asked original text spans keys left right [] [] o c w) (merge_on original text spans keys left right [] []) n (sym t ∙ M.answer)).0

    al : AcceptedList merging original text spans keys ls []
    al = accepted_left merging original text spans keys ls rs [] [] passed

    ar : AcceptedList merging original text spans keys rs []
    ar = accepted_right merging original text spans keys ls rs [] [] passed

    abbrev ops : List Operation
    ops = (merge_of (rules_of lent) ls rs [] []).operations

    count : n.operations ≡ length ops
    count = (counts_of (asked original text spans keys left right [] [] o c w) (merge_on original text spans keys left right [] []) n (sym t ∙ M.answer)).1 ∙ ap (λ (m : Merged). length m.operations) merged_is

    pub small : n.operations ≤ 682
    small = omega (arith, count, merged_operations_most lent ls rs [] [] al ar, K.left_few, K.right_few)

    room_is : o' ≡ answered (flat_operations ops) o
    unfolding verdict_of
    room_is = rw (verdict_is, merged_is, passed, verdict_of) at M.operations

    pub in_room : n.operations * 6 ≤ length o'
    in_room =
        let l : length o' ≡ length o = rw room_is (length_answered ops o (omega (arith, count, small))) in
        omega (arith, small)

    back : operations_of (take (n.operations * 6) o') ≡ ops
    back = rw room_is (of_answered ops o (n.operations * 6) (ap (λ (k : ℕ). k * 6) count))

    pub diffable : Diffable original text spans keys (take (n.operations * 6) o')
    diffable =
        record {
          accepted = rw back (merged_fine lent ls rs passed);
          few = rw back (omega (arith, count, small));
          little = rw back (omega (arith, merged_text_most lent ls rs [] [] al ar, K.left_little, K.right_little));
        }

    pub merges : (out out' : List ℕ) (z : Outcome) → Written (diff_result original text spans keys (take (n.operations * 6) o')) out out' z
        → Written (merge_result original text spans keys left right) out out' z
    unfolding merged_of judged file_of verdict_of
    merges out out' z h = rw passed (rw back at h)
