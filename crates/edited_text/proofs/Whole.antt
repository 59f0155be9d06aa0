-- Shown: two accepted lists and rooms as asked are what the turns need, and what the turns leave is the definition's merge.
-- How: the laws of accepted lists, and the definition's start with the cursors sorted.
use Prim.Native.Nat.{ℕ, ◌+◌, ◌*◌, ◌/◌, ◌≤◌}
use mathlib.Core.Path.{◌≡◌, sym, ◌∙◌, ap}
use mathlib.Core.List.{List, [], ◌∷◌}
use native.Mathlib.Omega.{arith}
use lib.ListN.{length, take}
use lib.Seq.{length-take-le}
use Rattle.room.specs.Placed.{answered}
use Rattle.records.specs.declared.Operation.{Operation}
use Rattle.records.specs.declared.Cursor.{Cursor}
use Rattle.records.specs.Operations.{operations_of, flat_operations}
use Rattle.records.specs.Cursors.{cursors_from, cursors_of, flat_cursors}
use Rattle.records.proofs.CursorLaws.{length_of_lem, length_answered, of_answered}
use Rattle.cursors.specs.Sorted.{sorted}
use Rattle.cursors.proofs.Sinks.{length_sorted, sorted_answered}
use Rattle.sizes.specs.Sizes.{merging}
use Rattle.shapes.specs.Accepted.{AcceptedList}
use Rattle.shapes.proofs.Accepted.{retained_most}
use Rattle.merging.specs.declared.Op.{Op}
use Rattle.merging.specs.declared.Op.TheVariants.{Delete, Insert, Retain}
use Rattle.std.specs.declared.cmp.Ordering.{Ordering}
use Rattle.merging.specs.Lent.{Lent, rules_of, lent_of}
use Rattle.merging.specs.Operations.{records_of}
use Rattle.merging.specs.OrderRule.{priority_of}
use Rattle.merging.specs.Meeting.{nothing}
use Rattle.merging.specs.Merge.{Outcome, run, work, outcome_of, merge_of}
use Rattle.merging.specs.Tiling.{Inserts}
use Rattle.merging_laws.proofs.Decoding.{Run as Lends, Listed as Read, tiled, runs, tokens_total, length_total}
use Rattle.merging_laws.proofs.Encoding.{length_records}
use Rattle.merging_laws.proofs.Accepted.{merged_operations_most, merged_cursors_all}
use Rattle.order.specs.Readable.{Run}
use Rattle.order_laws.proofs.Accepted.{readable}
use Rattle.numbers.specs.Sizes.{most}
use Rattle.merge.specs.declared.Totals.{Totals}
use Rattle.merge.specs.Running.{list_of, outcome, Listed, Runnable, Ran}
use Rattle.edited_text.specs.Merging.{merge_on, Mergeable, Merges}

-- 256 cursors, and a number behind them
pub short : (xs : List ℕ) → length (cursors_of xs) ≤ 256 → length xs ≤ 513
short xs h = omega (arith, length_of_lem xs)

-- a side's n cursors in their array, sorted
module _ (xs d o : List ℕ) {n : ℕ} (en : n ≡ length xs / 2) (e : o ≡ answered (flat_cursors (sorted (cursors_of xs))) d) (fits : length xs ≤ length d) where
  count_of : n * 2 ≡ length (sorted (cursors_of xs)) * 2
  count_of = omega (arith, en, length_sorted (cursors_of xs), length_of_lem xs)

  pub part_sorted : cursors_of (take (n * 2) o) ≡ sorted (cursors_of xs)
  part_sorted = rw e (of_answered (sorted (cursors_of xs)) d (n * 2) count_of)

  pub part_most : n * 2 ≤ length o
  part_most =
      let l : length o ≡ length d = rw e (length_answered (sorted (cursors_of xs)) d (omega (arith, en, count_of))) in
      omega (arith, en)

  pub part_length : n * 2 ≡ length (take (n * 2) o)
  part_length = sym (length-take-le (n * 2) o part_most)

  pub part_many : length (take (n * 2) o) / 2 ≡ length (cursors_of xs)
  part_many = omega (arith, en, part_length, length_of_lem xs)

-- inserts that are lent can be read
readable_all : (lent : Lent) (ls : List Op) → Inserts (Lends lent) ls → Inserts (Run lent.inserted lent.spans lent.keys) ls
unfolding Inserts
readable_all lent [] h = tt
readable_all lent (Delete o l ∷ ls) h = readable_all lent ls h
readable_all lent (Insert o f n ∷ ls) h = (readable lent h.0, readable_all lent ls h.1)
readable_all lent (Retain o l ∷ ls) h = readable_all lent ls h

module _ (original text spans keys : List ℕ) (ops : List ℕ) (cs : List Cursor) (a : AcceptedList merging original text spans keys (operations_of ops) cs) where
  abbrev lent : Lent
  lent = lent_of original text spans keys

  read : Read lent (length original) (operations_of ops) 0
  read = record { shapes = a.shapes; tiles = a.tiles }

  listed : Listed original text spans keys ops
  listed =
      record {
        tiled = tiled lent (length original) (operations_of ops) 0 read;
        inserts = readable_all lent (list_of ops) (runs lent (length original) (operations_of ops) 0 read);
        tokens = omega (arith, tokens_total lent (length original) (operations_of ops) 0 read, a.tokens_most);
        text_most = omega (
          arith,
          length_total lent (length original) (operations_of ops) 0 read,
          a.original_most,
          a.inserted_most,
          retained_most (length original) (operations_of ops) 0 a.tiles,
        );
      }

module _ {original text spans keys left right lcs rcs : List ℕ} {mid half : ℕ} {o c w : List ℕ}
    (K : Mergeable original text spans keys left right lcs rcs mid half o c w) (lefts rights : List ℕ)
    (el : cursors_of lefts ≡ sorted (cursors_of lcs)) (er : cursors_of rights ≡ sorted (cursors_of rcs)) (priority : Ordering)
    (ep : priority ≡ priority_of (lent_of original text spans keys) (list_of left) (list_of right)) where
  abbrev L : Lent
  L = lent_of original text spans keys

  ends : outcome L priority left right lefts rights ≡ outcome_of (rules_of L) (list_of left) (list_of right) (cursors_of lcs) (cursors_of rcs)
  unfolding outcome_of
  ends =
      λ i. run (rules_of L) (ep i) (work (list_of left) + work (list_of right)) (record {
        left = record { next = list_of left; last = nothing; seen = 0; cursors = el i };
        right = record { next = list_of right; last = nothing; seen = 0; cursors = er i };
        merged = 0;
        consumed = 0;
      })

  same_operations : records_of L (outcome L priority left right lefts rights).outs ≡ (merge_on original text spans keys left right lcs rcs).operations
  unfolding merge_of
  same_operations = ap (λ (x : Outcome). records_of L x.outs) ends

  same_cursors : sorted (outcome L priority left right lefts rights).cursors ≡ (merge_on original text spans keys left right lcs rcs).cursors
  unfolding merge_of
  same_cursors = ap (λ (x : Outcome). sorted x.cursors) ends

  many : length (outcome L priority left right lefts rights).outs ≡ length (merge_on original text spans keys left right lcs rcs).operations
  many = sym (length_records L (outcome L priority left right lefts rights).outs) ∙ ap length same_operations

  pub runnable : (length lefts / 2 ≡ length (cursors_of lcs)) → (length rights / 2 ≡ length (cursors_of rcs)) → length spans / 2 ≤ most
      → Runnable original text spans keys left right lefts rights priority w mid half o c
  runnable nl nr fit =
      let al = K.left_accepted in
      let ar = K.right_accepted in
      let l = listed original text spans keys left (cursors_of lcs) al in
      let r = listed original text spans keys right (cursors_of rcs) ar in
      record {
        original_most = al.original_most;
        left = l;
        right = r;
        mid_is = omega (arith, K.mid_is, tokens_total L (length original) (operations_of left) 0 (read original text spans keys left (cursors_of lcs) al));
        half_is = omega (arith, K.half_is, tokens_total L (length original) (operations_of right) 0 (read original text spans keys right (cursors_of rcs) ar));
        halves = omega (arith, K.work_fits);
        room = omega (
          arith,
          many,
          merged_operations_most L (operations_of left) (operations_of right) (cursors_of lcs) (cursors_of rcs) al ar,
          K.operations_fit,
        );
        space = omega (arith, nl, nr, K.cursors_fit);
        spans_fit = fit;
      }

  all_cursors : length (outcome L priority left right lefts rights).cursors ≡ length (cursors_of lcs) + length (cursors_of rcs)
  all_cursors =
      sym (length_sorted (outcome L priority left right lefts rights).cursors)
      ∙ (ap length same_cursors
      ∙ merged_cursors_all L (operations_of left) (operations_of right) (cursors_of lcs) (cursors_of rcs) K.left_accepted K.right_accepted)

  -- the cursors that came out are in their room
  pub in_room : {o' c' : List ℕ} {t : Totals} → Ran original text spans keys left right lefts rights priority o o' c c' t → t.cursors * 2 ≤ length c'
  in_room R =
      let n : length (outcome L priority left right lefts rights).cursors * 2 ≤ length c = omega (arith, all_cursors, K.cursors_fit) in
      omega (arith, R.cursors, ap length R.moved_is, length_answered (outcome L priority left right lefts rights).cursors c n)

  -- what the turns left, the cursors sorted where they stand
  pub merges : {o' c' c'' : List ℕ} {t : Totals} → Ran original text spans keys left right lefts rights priority o o' c c' t
      → c'' ≡ answered (flat_cursors (sorted (cursors_from c' 0 t.cursors))) c'
      → Merges original text spans keys left right lcs rcs o o' c c'' (record { operations = t.operations; cursors = t.cursors })
  merges {c' = c'} {c''} {t} R s =
      record {
        many_operations = R.operations ∙ many;
        many_cursors = R.cursors ∙ (sym (length_sorted (outcome L priority left right lefts rights).cursors) ∙ ap length same_cursors);
        operations = R.out_is ∙ ap (λ (x : List Operation). answered (flat_operations x) o) same_operations;
        cursors = sorted_answered (outcome L priority left right lefts rights).cursors c c' c'' t.cursors R.cursors R.moved_is s
            ∙ ap (λ (x : List Cursor). answered (flat_cursors x) c) same_cursors;
      }
