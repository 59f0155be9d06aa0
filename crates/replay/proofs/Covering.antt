-- Plain and covering replay beside each other, what an accepted diff asks of the original, and that an answer is the only one.
-- By the order of the checks, and the laws of edits. Assumes nothing.
use mathlib.Core.Path.{◌≡◌, sym, ◌∙◌}
use mathlib.Core.List.{List}
use Prim.Native.Nat.{ℕ, ◌≤◌}
use native.Mathlib.Omega.{arith}
use lib.ListN.{length}
use Rattle.verdict.specs.Verdicts.{Verdict, accepted}
use Rattle.verdict.specs.Points.{points_verdict}
use Rattle.verdict.proofs.Chains.{first_passed, rest_passed}
use Rattle.diff.specs.Items.{items_of}
use Rattle.diff.specs.Replay.{mentioned, left}
use Rattle.diff.specs.Checks.{sizes, records, covers}
use Rattle.replay.specs.Answers.{Diff, edits, plain, covering, roomed, Replayed}
use Rattle.diff.proofs.Laws.{covers_none, numbers_enough}
use Rattle.std.specs.Prelude.{Result}
use Rattle.refusal.specs.declared.Refusal.{Refusal}

module _ (d : Diff) where
  -- an accepted diff asks no more of the original than there is
  pub plain_enough : plain d ≡ accepted → mentioned (edits d) ≤ length d.original
  unfolding plain
  plain_enough e =
      let is = items_of d.items (length d.text) in
      let w = rest_passed (sizes d.original is d.text) _ e in
      let v = rest_passed (points_verdict d.original d.text) _ w in
      numbers_enough 0 (length d.original) (edits d) (rest_passed (records 0 is) _ v)

  -- covering replay accepts exactly when plain replay accepts and nothing is left
  pub covering_plain : covering d ≡ accepted → (plain d ≡ accepted) × (left (length d.original) (edits d) ≡ 0)
  unfolding covering
  covering_plain e = (first_passed (plain d) _ e, covers_none (length d.original) (edits d) (rest_passed (plain d) _ e))

  pub plain_covering : plain d ≡ accepted → left (length d.original) (edits d) ≡ 0 → covering d ≡ accepted
  unfolding covering covers
  plain_covering e l = rw (e, l)

  -- with the same answer and the same text
  pub same_replay : (room room' : List ℕ) (r : Result ℕ Refusal) → covering d ≡ accepted → Replayed covering d room r room' → Replayed plain d room r room'
  unfolding roomed
  same_replay room room' r e h =
      let p = (covering_plain e).0 in
      record { answer = rw (p) (rw (e) at h.answer); leaving = rw (p) (rw (e) at h.leaving) }

  -- the retains and deletes of a diff that covers sum to the original's length
  pub covering_sum : covering d ≡ accepted → mentioned (edits d) ≡ length d.original
  unfolding left
  covering_sum e = omega (arith, (covering_plain e).1, plain_enough (covering_plain e).0)

-- two answers that meet the statement of a replay are equal, and so are the rooms that they leave
pub only_answer :
    (check : Diff → Verdict) (d : Diff) (room : List ℕ) {r s : (Result ℕ Refusal)} {a b : List ℕ}
    → Replayed check d room r a → Replayed check d room s b → (r ≡ s) × (a ≡ b)
only_answer check d room h k = (h.answer ∙ sym k.answer, h.leaving ∙ sym k.leaving)
