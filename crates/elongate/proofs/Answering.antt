-- The public call: an accepted raw list is ready to be written, and what was written is the answer; a refusal leaves the rooms.
-- The checks say it of each operation, and arranging keeps it. Assumes nothing.
use Prim.Native.Nat.{ℕ, suc, ◌+◌, ◌*◌, ◌/◌, ◌≤◌, min}
use mathlib.Core.Path.{◌≡◌, refl, sym, ◌∙◌, ap}
use mathlib.Core.Bool.{Bool, true, false, ◌&&◌}
use mathlib.Core.List.{List, [], ◌∷◌}
use native.Mathlib.Omega.{arith}
use lib.ListN.{length}
use lib.Dec.{leb}
use borrow.Author.Tests.{le-leb, leb-true}
use Rattle.refusal.specs.declared.Refusal.{Refusal}
use Rattle.refusal.specs.declared.Refusal.TheVariants as R
use Rattle.records.specs.Tokens.{tokens_from}
use Rattle.sizes.specs.Texts.{run_text}
use Rattle.shapes.proofs.Accepted.{run_length}
use Rattle.verdict.specs.Points.{points_from}
use Rattle.room.proofs.Bools.{and_left, and_right}
use Rattle.verdict.proofs.Chains.{fits, goes_on, has_room, lacks_room}
use Rattle.raw_lists.specs.declared.Raw.{Raw}
use Rattle.raw_lists.specs.Raws.{Run, pieces_lent, pieces_from, raws_of, runs_of}
use Rattle.raw_lists.specs.Good.{AllGood, counts}
use Rattle.raw_lists.specs.Checks.{total, claimed_by, text_by, raw_fits, shapes_from}
use Rattle.raw_lists.proofs.Lists.{length_raws}
use Rattle.raw_lists.proofs.Accepted.{all_good, claimed_all}
use Rattle.elongate.specs.declared.Written.{Written}
use Rattle.elongate.specs.Elongated.{arranged, joined, elongated, cooked, pieces_length, all_tokens}
use Rattle.elongate.specs.Currents.{none, cooked_on}
use Rattle.elongate.specs.Places.{kind_of}
use Rattle.elongate.specs.Writes.{Ready, Wrote}
use Rattle.elongate.specs.Verdicts.{rooms_fit, raw_verdict, Elongates, verdict_on}
use Rattle.elongate.proofs.Lengths.{pieces_length_lem}
use Rattle.elongate.proofs.Arranging.{total_arranged, counts_total, length_total, lengths_total, good_arranged, runs_arranged}
use Rattle.elongate.proofs.Joining.{some_runs, cooks_all, tokens_joined, joined_length, cooked_length}
use Rattle.std.specs.Prelude.{Ok, Err}
use Rattle.verdict.specs.Verdicts.{Verdict, accepted}

-- the lengths of an accepted list are those that were checked

module _ (n : ℕ) (spans keys joins : List ℕ) where
  used_all : (rs : List Raw) → AllGood n spans keys joins rs
      → total (text_by n spans keys joins) rs ≡ total (λ r. pieces_length (pieces_from spans keys joins r.first r.count)) rs
  unfolding total AllGood
  used_all [] g = refl
  used_all (r ∷ rs) g =
      let e : text_by n spans keys joins r ≡ run_text n (tokens_from spans keys r.first r.count) =
      rw (le-leb r.kind 2 g.0.known, le-leb (r.first + r.count) (pieces_lent spans keys joins) g.0.lent, text_by)
      in
      let f = run_length n (tokens_from spans keys r.first r.count) g.0.tokens in
      let p = pieces_length_lem spans keys joins r.first r.count in
      omega (arith, e, f, p, used_all rs g.1)

same_written : (r : Written) (m t : ℕ) → r.operations ≡ m → r.tokens ≡ t → r ≡ record { operations = m; tokens = t }
same_written r m t e f = rw (← e, ← f)

length_runs : (spans keys joins : List ℕ) (rs : List Raw) → length (runs_of spans keys joins rs) ≡ length rs
unfolding runs_of
length_runs spans keys joins [] = refl
length_runs spans keys joins (r ∷ rs) = ap suc (length_runs spans keys joins rs)

-- the rooms and the sizes, of the list as it is walked

module _ (xs spans keys joins text o s k j : List ℕ) where
  module _ (v : raw_fits (length text) spans keys joins (raws_of xs) ≡ true) (w : shapes_from (length text) spans keys joins (raws_of xs) 0 ≡ accepted) where
    good : AllGood (length text) spans keys joins (raws_of xs)
    good = all_good (length text) spans keys joins (raws_of xs) 0 w

    same_operations : cooked_on none (runs_of spans keys joins (arranged kind_of (raws_of xs))) ≡ cooked (elongated (runs_of spans keys joins (raws_of xs)))
    unfolding elongated
    same_operations =
        let g = some_runs (length text) spans keys joins (arranged kind_of (raws_of xs)) (good_arranged (length text) spans keys joins (raws_of xs) good) in
        cooks_all (runs_of spans keys joins (arranged kind_of (raws_of xs))) g
        ∙ ap (λ (z : List Run). cooked (joined z)) (runs_arranged spans keys joins (raws_of xs))

    same_tokens : all_tokens (runs_of spans keys joins (arranged kind_of (raws_of xs))) ≡ all_tokens (elongated (runs_of spans keys joins (raws_of xs)))
    unfolding elongated
    same_tokens = ap all_tokens (runs_arranged spans keys joins (raws_of xs)) ∙ sym (tokens_joined (arranged (λ r. r.kind) (runs_of spans keys joins (raws_of xs))))

    same_counts : counts (arranged kind_of (raws_of xs)) ≡ counts (raws_of xs)
    same_counts = counts_total (arranged kind_of (raws_of xs)) ∙ (total_arranged (λ r. r.count) (raws_of xs) ∙ sym (counts_total (raws_of xs)))

    pub claims : (t : ℕ) → t ≡ min 1000000 (total claimed_by (raws_of xs)) → t ≡ counts (raws_of xs)
    claims t e =
        let b : Bool = leb (total claimed_by (raws_of xs)) 16384 && leb (total (text_by (length text) spans keys joins) (raws_of xs)) 131070 in
        let d = and_right (leb (length (raws_of xs)) 8192) b (and_right (leb (length text) 131070) (leb (length (raws_of xs)) 8192 && b) v) in
        let f = leb-true (total claimed_by (raws_of xs)) 16384
        (and_left (leb (total claimed_by (raws_of xs)) 16384) (leb (total (text_by (length text) spans keys joins) (raws_of xs)) 131070) d) in
        omega (arith, claimed_all (length text) spans keys joins (raws_of xs) good)

    fewer : length (cooked_on none (runs_of spans keys joins (arranged kind_of (raws_of xs)))) ≤ length (raws_of xs)
    fewer =
        let rs : List Run = runs_of spans keys joins (arranged kind_of (raws_of xs)) in
        let g = some_runs (length text) spans keys joins (arranged kind_of (raws_of xs)) (good_arranged (length text) spans keys joins (raws_of xs) good) in
        omega (
          arith,
          ap length (cooks_all rs g),
          cooked_length (joined rs) 0 0,
          joined_length rs,
          length_runs spans keys joins (arranged kind_of (raws_of xs)),
          length_total (arranged kind_of (raws_of xs)),
          length_total (raws_of xs),
          total_arranged (λ r. 1) (raws_of xs),
        )

    pub ready : (t : ℕ) → t ≡ min 1000000 (total claimed_by (raws_of xs))
        → leb (length xs / 3 * 6) (length o) && (leb (t * 2) (length s) && (leb t (length k) && leb t (length j))) ≡ true
        → Ready spans keys joins (length text) (arranged kind_of (raws_of xs)) o s k j
    ready t e f =
        let b : Bool = leb (total claimed_by (raws_of xs)) 16384 && leb (total (text_by (length text) spans keys joins) (raws_of xs)) 131070 in
        let d = and_right (leb (length (raws_of xs)) 8192) b (and_right (leb (length text) 131070) (leb (length (raws_of xs)) 8192 && b) v) in
        let f1 = leb-true (total claimed_by (raws_of xs)) 16384
        (and_left (leb (total claimed_by (raws_of xs)) 16384) (leb (total (text_by (length text) spans keys joins) (raws_of xs)) 131070) d) in
        let f2 = leb-true (total (text_by (length text) spans keys joins) (raws_of xs)) 131070
        (and_right (leb (total claimed_by (raws_of xs)) 16384) (leb (total (text_by (length text) spans keys joins) (raws_of xs)) 131070) d) in
        let g1 = leb-true (length xs / 3 * 6) (length o)
        (and_left (leb (length xs / 3 * 6) (length o)) (leb (t * 2) (length s) && (leb t (length k) && leb t (length j))) f) in
        let r1 = and_right (leb (length xs / 3 * 6) (length o)) (leb (t * 2) (length s) && (leb t (length k) && leb t (length j))) f in
        let g2 = leb-true (t * 2) (length s) (and_left (leb (t * 2) (length s)) (leb t (length k) && leb t (length j)) r1) in
        let r2 = and_right (leb (t * 2) (length s)) (leb t (length k) && leb t (length j)) r1 in
        let g3 = leb-true t (length k) (and_left (leb t (length k)) (leb t (length j)) r2) in
        let g4 = leb-true t (length j) (and_right (leb t (length k)) (leb t (length j)) r2) in
        let et = claims t e in
        let sum : Raw → ℕ = λ r. pieces_length (pieces_from spans keys joins r.first r.count) in
        let m = lengths_total spans keys joins (arranged kind_of (raws_of xs)) in
        let m2 = total_arranged sum (raws_of xs) in
        let m3 = used_all (length text) spans keys joins (raws_of xs) good in
        let q : length (cooked_on none (runs_of spans keys joins (arranged kind_of (raws_of xs)))) ≤ length (raws_of xs) = fewer in
        record {
          good = good_arranged (length text) spans keys joins (raws_of xs) good;
          small = omega (arith, m, m2, m3);
          few = omega (arith, same_counts);
          operations = omega (arith, q, length_raws xs);
          in_spans = omega (arith, same_counts);
          in_keys = omega (arith, same_counts);
          in_joins = omega (arith, same_counts);
        }

    pub accepts : (t : ℕ) → t ≡ min 1000000 (total claimed_by (raws_of xs))
        → leb (length xs / 3 * 6) (length o) && (leb (t * 2) (length s) && (leb t (length k) && leb t (length j))) ≡ true
        → points_from text 0 ≡ accepted → verdict_on xs spans keys joins text o s k j ≡ accepted
    unfolding raw_verdict
    accepts t e f p =
        let g : rooms_fit (raws_of xs) (length o) (length s) (length k) (length j) ≡ true = rw (length_raws xs, ← claims t e) f in
        sym (fits _ _ _ v (goes_on _ _ _ p (sym (has_room _ _ w g))))

    pub no_room : (t : ℕ) → t ≡ min 1000000 (total claimed_by (raws_of xs))
        → leb (length xs / 3 * 6) (length o) && (leb (t * 2) (length s) && (leb t (length k) && leb t (length j))) ≡ false
        → points_from text 0 ≡ accepted → verdict_on xs spans keys joins text o s k j ≡ Err R.Room
    unfolding raw_verdict
    no_room t e f p =
        let g : rooms_fit (raws_of xs) (length o) (length s) (length k) (length j) ≡ false = rw (length_raws xs, ← claims t e) f in
        sym (fits _ _ _ v (goes_on _ _ _ p (sym (lacks_room _ _ w g))))

    -- what was written is the answer
    pub writes : (o' s' k' j' : List ℕ) (r : Written) → verdict_on xs spans keys joins text o s k j ≡ accepted
        → Wrote spans keys joins (arranged kind_of (raws_of xs)) o s k j o' s' k' j' r
        → Elongates xs spans keys joins text o s k j o' s' k' j' (verdict_on xs spans keys joins text o s k j) (Ok r)
    writes o' s' k' j' r a h =
        let q : r ≡ record { operations = length (elongated (runs_of spans keys joins (raws_of xs))); tokens = counts (raws_of xs) } =
        same_written r (length (elongated (runs_of spans keys joins (raws_of xs)))) (counts (raws_of xs))
        (h.operations ∙ (ap length same_operations ∙ cooked_length (elongated (runs_of spans keys joins (raws_of xs))) 0 0)) (h.tokens ∙ same_counts)
        in
        record {
          answer = rw (a, q);
          operations = rw a (rw same_operations at h.stand);
          in_spans = rw a (rw same_tokens at h.in_spans);
          in_keys = rw a (rw same_tokens at h.in_keys);
          in_joins = rw a (rw same_tokens at h.in_joins);
        }

-- a refusal leaves the rooms as they were
pub refuses : (xs spans keys joins text o s k j : List ℕ) (v : Verdict) (r : Refusal) → v ≡ Err r
    → Elongates xs spans keys joins text o s k j o s k j v (Err r)
refuses xs spans keys joins text o s k j v r e =
    record { answer = rw e; operations = rw e; in_spans = rw e; in_keys = rw e; in_joins = rw e }
