-- Shown: an accepted list is ready to be counted and written, and each way of the public calls answers and leaves what the definition says.
-- How: the laws of accepted lists; a diff's items do not depend on the original.
use Prim.Native.Nat.{ℕ, ◌*◌, ◌/◌, ◌≤◌, ◌<◌}
use mathlib.Core.Path.{◌≡◌, refl, sym, ◌∙◌, ap}
use mathlib.Core.List.{List, [], ◌∷◌}
use native.Mathlib.Omega.{arith}
use lib.ListN.{length}
use lib.IntN.{ℤ}
use borrow.Author.Tests.{le-leb, lt-leb}
use Rattle.refusal.specs.declared.Refusal.{Refusal}
use Rattle.refusal.specs.declared.Refusal.TheVariants.{Room}
use Rattle.records.specs.declared.Operation.{Operation}
use Rattle.records.specs.Operations.{operations_of}
use Rattle.records.specs.Cursors.{cursors_from, cursors_of}
use Rattle.records.proofs.OperationLaws.{length_of_lem}
use Rattle.records.specs.Tokens.{spelling}
use Rattle.diff.specs.Replay.{Edit, delete, insert}
use Rattle.sizes.specs.declared.Limits.{Limits}
use Rattle.verdict.specs.Verdicts.{accepted}
use Rattle.sizes.specs.Texts.{total, claimed_by, inserted_by}
use Rattle.sizes.specs.Sizes.{otherwise}
use Rattle.checks.specs.declared.Lengths.{Lengths}
use Rattle.checks.specs.Lists.{lengths_on}
use Rattle.shapes.specs.Accepted.{AcceptedList}
use Rattle.checks.proofs.Accepted.{accepted_list}
use Rattle.checks.proofs.Telling.{says_no, says_yes, says_what}
use Rattle.edit_format.specs.Items.{added, texts}
use Rattle.edit_format.proofs.TextLaws.{texts_length}
use Rattle.merging.specs.declared.Op.{Op}
use Rattle.merging.specs.declared.Op.TheVariants.{Delete, Insert, Retain}
use Rattle.merging.specs.Lent.{Lent, lent_of}
use Rattle.merging.specs.Operations.{ops_from}
use Rattle.merging.specs.Outputs.{joined, to_diff}
use Rattle.merging.specs.Tiling.{Inserts}
use Rattle.merging_laws.proofs.Decoding.{Run, Listed, tiled, runs}
use Rattle.merging_laws.proofs.Outputs.{diff_fits}
use Rattle.item_records.specs.declared.Counts.{Counts}
use Rattle.to_diff.specs.Items.{items_of, diff_of}
use Rattle.to_diff.specs.Answers.{verdict_on, checked_on, room_for, verdict_in, lengths_of, Diffs}
use Rattle.to_diff.specs.Writes.{Spells, items, Ready, Measures, Fits, Wrote}
use Rattle.to_diff.proofs.Joining.{length_items, added_items}
use Rattle.std.specs.Prelude.{Result, Ok, Err}

pub checked : (original text spans keys : List ℕ) (os : List Operation) (l : Limits) (v : Result Lengths Refusal) → l ≡ otherwise
    → v ≡ lengths_on l original text spans keys os (cursors_of []) → v ≡ checked_on (lent_of original text spans keys) os
unfolding verdict_on cursors_of cursors_from
checked original text spans keys os l v e f = rw e at f

-- a diff does not depend on the original
same_edits : (o p text spans keys : List ℕ) (ls : List Op) → to_diff (lent_of o text spans keys) ls ≡ to_diff (lent_of p text spans keys) ls
unfolding to_diff
same_edits o p text spans keys [] = refl
same_edits o p text spans keys (Delete at l ∷ ls) = ap (λ (es : List Edit). delete l ∷ es) (same_edits o p text spans keys ls)
same_edits o p text spans keys (Insert at f k ∷ ls) = ap (λ (es : List Edit). insert (spelling text spans keys f k) ∷ es) (same_edits o p text spans keys ls)
same_edits o p text spans keys (Retain at l ∷ ls) = ap (joined l) (same_edits o p text spans keys ls)

pub same_diff : (original text spans keys : List ℕ) (os : List Operation) → items text spans keys os ≡ diff_of (lent_of original text spans keys) os
unfolding diff_of
same_diff original text spans keys os = ap items_of (same_edits [] original text spans keys (ops_from 0 os))

spells_of : (lent : Lent) (ls : List Op) → Inserts (Run lent) ls → Inserts (Spells lent.inserted lent.spans lent.keys) ls
unfolding Inserts
spells_of lent [] i = tt
spells_of lent (Delete o l ∷ ls) i = spells_of lent ls i
spells_of lent (Insert o f k ∷ ls) i = (record { lent = i.0.lends; tokens = i.0.tokens }, spells_of lent ls i.1)
spells_of lent (Retain o l ∷ ls) i = spells_of lent ls i

pub ready : (original text spans keys : List ℕ) (os : List Operation) → verdict_on (lent_of original text spans keys) os ≡ accepted → Ready text spans keys os
unfolding verdict_on diff_of
ready original text spans keys os h =
    let lent : Lent = lent_of original text spans keys in
    let a : AcceptedList otherwise original text spans keys os [] = accepted_list otherwise original text spans keys os [] h in
    let l : Listed lent (length original) os 0 = record { shapes = a.shapes; tiles = a.tiles } in
    let f = diff_fits lent otherwise os [] a in
    let s = same_diff original text spans keys os in
    let es : List Edit = to_diff lent (ops_from 0 os) in
    record {
      n = length original;
      few = a.original_most;
      tiled = tiled lent (length original) os 0 l;
      spells = spells_of lent (ops_from 0 os) (runs lent (length original) os 0 l);
      many = omega (arith, ap length s, length_items es, f.items);
      adds = omega (arith, ap added s, added_items es, f.text);
    }

-- rooms that hold as many items as there are operations, and as much text as is inserted
pub ample_fits : (original text spans keys xs : List ℕ) (n : Lengths) (d : List ℤ) (e : List ℕ)
    → Ok n ≡ checked_on (lent_of original text spans keys) (operations_of xs) → length xs / 6 ≤ length d / 3 → n.inserted ≤ length e
    → Fits (items text spans keys (operations_of xs)) d e
unfolding verdict_on diff_of
ample_fits original text spans keys xs n d e g k m =
    let os : List Operation = operations_of xs in
    let lent : Lent = lent_of original text spans keys in
    let a : AcceptedList otherwise original text spans keys os [] = accepted_list otherwise original text spans keys os [] (says_yes (verdict_on lent os) _ n (sym g)) in
    let x : n.inserted ≡ total (inserted_by (length text) spans keys) os = ap (λ (l : Lengths). l.inserted) (sym (says_what (verdict_on lent os) _ n (sym g))) in
    let tight : Limits = record { operations = length os; tokens = total claimed_by os; text = total (inserted_by (length text) spans keys) os; cursors = 0 } in
    let f = diff_fits lent tight os []
    (record {
      original_most = a.original_most;
      text_most = a.text_most;
      operations_most = omega arith;
      cursors_most = omega arith;
      tokens_most = omega arith;
      inserted_most = omega arith;
      shapes = a.shapes;
      tiles = a.tiles;
      within = a.within;
    }) in
    let s = same_diff original text spans keys os in
    let es : List Edit = to_diff lent (ops_from 0 os) in
    record {
      items = omega (arith, ap length s, length_items es, f.items, length_of_lem xs, k);
      text = omega (arith, ap added s, added_items es, f.text, x, m);
    }

same_counts : {i j t u : ℕ} → i ≡ j → t ≡ u → ◌≡◌ {A = Counts} (record { items = i; text = t }) (record { items = j; text = u })
same_counts p q = λ k. record { items = p k; text = q k }

module _ (original text spans keys : List ℕ) (os : List Operation) where
  same : items text spans keys os ≡ diff_of (lent_of original text spans keys) os
  same = same_diff original text spans keys os

  pub lengths_refused : (r : Refusal) → Err r ≡ checked_on (lent_of original text spans keys) os → Err r ≡ lengths_of (lent_of original text spans keys) os
  unfolding lengths_of
  lengths_refused r e = rw (says_no (verdict_on (lent_of original text spans keys) os) _ r (sym e))

  module _ (h : verdict_on (lent_of original text spans keys) os ≡ accepted) (s : Counts) (m : Measures (items text spans keys os) s) where
    many : s.items ≡ length (diff_of (lent_of original text spans keys) os)
    many = m.items ∙ ap length same

    long : s.text ≡ length (texts (diff_of (lent_of original text spans keys) os))
    long = m.text ∙ (ap added same ∙ sym (texts_length (diff_of (lent_of original text spans keys) os)))

    counted : s ≡ record { items = length (diff_of (lent_of original text spans keys) os); text = length (texts (diff_of (lent_of original text spans keys) os)) }
    counted = same_counts many long

    pub lengths_counted : Ok s ≡ lengths_of (lent_of original text spans keys) os
    unfolding lengths_of
    lengths_counted = rw h (ap Ok counted)

    module _ (d : List ℤ) (e : List ℕ) where
      pub items_short : length d / 3 < s.items → Diffs (lent_of original text spans keys) os d e d e (Err Room)
      unfolding verdict_in room_for
      items_short l =
          let t = lt-leb (3 * length (diff_of (lent_of original text spans keys) os)) (length d) (omega (arith, many)) in
          record { answer = rw (h, t); items = rw (h, t); text = rw (h, t) }

      pub text_short : s.items ≤ length d / 3 → length e < s.text → Diffs (lent_of original text spans keys) os d e d e (Err Room)
      unfolding verdict_in room_for
      text_short k l =
          let t = le-leb (3 * length (diff_of (lent_of original text spans keys) os)) (length d) (omega (arith, many)) in
          let u = lt-leb (length (texts (diff_of (lent_of original text spans keys) os))) (length e) (omega (arith, long)) in
          record { answer = rw (h, t, u); items = rw (h, t, u); text = rw (h, t, u) }

      pub room_enough : s.items ≤ length d / 3 → s.text ≤ length e → Fits (items text spans keys os) d e
      room_enough k l = record { items = omega (arith, m.items); text = omega (arith, m.text) }

  -- rooms that the diff fits, whether it was measured or not
  pub writes : {d : List ℤ} {e : List ℕ} {d' : List ℤ} {e' : List ℕ} {s : Counts} → verdict_on (lent_of original text spans keys) os ≡ accepted
      → Fits (items text spans keys os) d e → Wrote (items text spans keys os) d e d' e' s
      → Diffs (lent_of original text spans keys) os d e d' e' (Ok s)
  unfolding verdict_in room_for
  writes {d} {e} {d'} {e'} {s} h f w =
      let m = w.sizes in
      let t = le-leb (3 * length (diff_of (lent_of original text spans keys) os)) (length d) (omega (arith, many h s m, m.items, f.items)) in
      let u = le-leb (length (texts (diff_of (lent_of original text spans keys) os))) (length e) (omega (arith, long h s m, m.text, f.text)) in
      record { answer = rw (h, t, u) (ap Ok (counted h s m)); items = rw (h, t, u) (rw same at w.items); text = rw (h, t, u) (rw same at w.text) }

  pub refuses : (d : List ℤ) (e : List ℕ) (r : Refusal) → Err r ≡ checked_on (lent_of original text spans keys) os
      → Diffs (lent_of original text spans keys) os d e d e (Err r)
  unfolding verdict_in
  refuses d e r g = let h = says_no (verdict_on (lent_of original text spans keys) os) _ r (sym g) in record { answer = rw h; items = rw h; text = rw h }
