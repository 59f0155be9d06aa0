-- Shown: the raw list of an accepted file is elongated, its tokens further on, and this is the file's list.
-- How: the raw list is read back as the runs of the items, which no check refuses. Assumes nothing.
use mathlib.Core.Path.{◌≡◌, refl, sym, ap, ◌∙◌}
use mathlib.Core.Bool.{false}
use mathlib.Core.List.{List, [], ◌++◌}
use Prim.Native.Nat.{ℕ, ◌+◌, ◌-◌, ◌*◌, ◌≤◌, ◌<◌}
use native.Mathlib.Nat.{zero-add}
use native.Mathlib.Omega.{arith}
use lib.ListN.{length, take, drop, length-append, length-replicate, get_or-replicate}
use lib.Seq.{length-take-le}
use borrow.Rule.Slice.PartMut.{mid_of, put_mid}
use Rattle.room.specs.Placed.{answered}
use Rattle.room.proofs.Answers.{same_room}
use Rattle.refusal.specs.declared.Refusal.{Refusal}
use Rattle.records.specs.Operations.{flat_operations}
use Rattle.records.proofs.OperationLaws.{length_flat}
use Rattle.verdict.specs.Points.{points_from}
use Rattle.raw_lists.specs.declared.Raw.{Raw}
use Rattle.raw_lists.specs.Raws.{Run, pieces_lent, flat_spans, flat_keys, raws_of, runs_of as runsLent}
use Rattle.raw_lists.specs.Good.{counts}
use Rattle.raw_lists.proofs.Pieces.{length_spans, length_keys}
use Rattle.elongate.specs.declared.Written.{Written}
use Rattle.std.specs.Prelude.{Result, Ok, Err}
use Rattle.elongate.specs.Elongated.{arranged, elongated, cooked_from, all_tokens}
use Rattle.elongate.specs.Places.{kind_of}
use Rattle.elongate.specs.Verdicts.{Elongates, verdict_on}
use Rattle.room.proofs.Placing.{placed_length}
use Rattle.elongate.proofs.Arranging.{total_arranged, counts_total, runs_arranged}
use Rattle.elongate.proofs.Joining.{tokens_joined, cooked_length}
use Rattle.elongate.proofs.Walking.{length_tokens}
use Rattle.elongate.proofs.Laws.{no_longer}
use Rattle.edit_format.specs.Items.{Item, texts}
use Rattle.edit_format.specs.Reading.{read_file}
use Rattle.edit_format.proofs.TextLaws.{texts_length}
use Rattle.edit_list.specs.declared.Made.{Made}
use Rattle.edit_list.specs.Raws.{runs_of, list_of, items_in}
use Rattle.edit_list.specs.Lists.{Listable, Lists}
use Rattle.edit_list.specs.Steps.{flat_raws, RawsMade, shifted_from, Shiftable, joinable, Elongable, Stands, Raised}
use Rattle.edit_list.proofs.Back.{raw_list, raws_back, runs_back, length_raws, list_length, list_counts}
use Rattle.edit_list.proofs.Runs.{runs_length, runs_join, runs_size, runs_good}
use Rattle.edit_list.proofs.Points.{good_text}
use Rattle.edit_list.proofs.Passing.{Sized, list_lent, passes}
use Rattle.edit_list.proofs.Shifting.{shifts, firsts}
use Rattle.edit_list.proofs.Making.{rest_length, rest_placed, few, little, tokens_few, good}
use Rattle.verdict.specs.Verdicts.{Verdict, accepted}

-- elongating keeps the tokens
tokens_same : (s k j : List ℕ) (rs : List Raw) → length (all_tokens (elongated (runsLent s k j rs))) ≡ counts rs
unfolding elongated
tokens_same s k j rs =
    ap length (tokens_joined (arranged (λ r. r.kind) (runsLent s k j rs)))
    ∙ ap (λ (q : List Run). length (all_tokens q)) (sym (runs_arranged s k j rs))
    ∙ length_tokens s k j (arranged kind_of rs)
    ∙ counts_total (arranged kind_of rs)
    ∙ total_arranged (λ r. r.count) rs
    ∙ sym (counts_total rs)

-- the operations moved on

shifted_list : (E : List Run) (o o₁ o₂ : List ℕ) (first n : ℕ) → o₁ ≡ answered (flat_operations (cooked_from E 0 0)) o → n ≡ length E → o₂ ≡ shifted_from o₁ first 0 n
    → o₂ ≡ answered (flat_operations (cooked_from E 0 first)) o
shifted_list E o o₁ o₂ first n e l f =
    let a : length (flat_operations (cooked_from E 0 0)) ≡ length (flat_operations (cooked_from E 0 first)) =
    omega (arith, length_flat (cooked_from E 0 0), length_flat (cooked_from E 0 first), cooked_length E 0 0, cooked_length E 0 first) in
    f
    ∙ ap (λ (x : List ℕ). shifted_from x first 0 n) e
    ∙ ap (λ (x : ℕ). shifted_from (answered (flat_operations (cooked_from E 0 0)) o) first 0 x) l
    ∙ shifts E [] (drop (length (flat_operations (cooked_from E 0 0))) o) 0 0 0 first refl
    ∙ ap (λ (x : ℕ). flat_operations (cooked_from E 0 x) ++ drop (length (flat_operations (cooked_from E 0 0))) o) (zero-add first)
    ∙ ap (λ (x : ℕ). flat_operations (cooked_from E 0 first) ++ drop x o) a

shiftable : (E : List Run) (o o₁ : List ℕ) (first n t : ℕ) → o₁ ≡ answered (flat_operations (cooked_from E 0 0)) o → n ≡ length E → length
    (all_tokens E) ≡ t → t + first < 9223372036854775808
    → Shiftable o₁ n first
shiftable E o o₁ first n t e l g h =
    let q : List ℕ = drop (length (flat_operations (cooked_from E 0 0))) o in
    record {
      fits = omega (arith, ap length e, length-append (flat_operations (cooked_from E 0 0)) q, length_flat (cooked_from E 0 0), cooked_length E 0 0);
      small = λ j m. rw e (omega (arith, firsts E q 0 0 j (omega (arith, m, l)), g));
    }

-- `elongate_at`

module _ {raw s k text : List ℕ} {first : ℕ} {o s₀ k₀ : List ℕ} (f : Elongable raw s k text first o s₀ k₀) (j₀ : List ℕ) (lj : length j₀ ≡ 1024) where
  abbrev v : Verdict
  v = verdict_on raw s k joinable text o (mid_of (first * 2) (length s₀ - first * 2) s₀) (mid_of first (length k₀ - first) k₀) j₀

  fine : v ≡ accepted
  fine = rw (rest_length s₀ (first * 2), rest_length k₀ first, lj) f.fine

  abbrev E : List Run
  E = elongated (runsLent s k joinable (raws_of raw))

  module _ {o₁ s₁ k₁ j₁ : List ℕ} {r : Result Written Refusal}
      (h : Elongates raw s k joinable text o (mid_of (first * 2) (length s₀ - first * 2) s₀)
      (mid_of first (length k₀ - first) k₀) j₀ o₁ s₁ k₁ j₁ v r) where
    counted : r ≡ Ok (record { operations = length E; tokens = counts (raws_of raw) })
    counted = h.answer ∙ rw fine

    pub never_refused : (x : Refusal) → r ≡ Err x → ⊥
    never_refused x e =
        let q : ◌≡◌ {A = Result Written Refusal} (Err x) (Ok (record { operations = length E; tokens = counts (raws_of raw) })) = sym e ∙ counted in
        let z : ◌≡◌ {A = ℕ} 0 1 = cc in
        omega arith

    cooked_are : o₁ ≡ answered (flat_operations (cooked_from E 0 0)) o
    cooked_are = h.operations ∙ rw fine

    module _ (w : Written) (e : r ≡ Ok w) where
      same : w ≡ record { operations = length E; tokens = counts (raws_of raw) }
      same = let q : ◌≡◌ {A = Result Written Refusal} (Ok w) (Ok (record { operations = length E; tokens = counts (raws_of raw) })) = sym e ∙ counted in cc

      many_operations : w.operations ≡ length E
      many_operations = ap (λ (x : Written). x.operations) same

      many_tokens : w.tokens ≡ counts (raws_of raw)
      many_tokens = ap (λ (x : Written). x.tokens) same

      pub can_shift : first < 9000000000000000000 → Shiftable o₁ w.operations first
      can_shift l = shiftable E o o₁ first w.operations (counts (raws_of raw)) cooked_are many_operations (tokens_same s k joinable (raws_of raw))
          (omega (arith, f.few))

      pub raises : {o₂ : List ℕ} → o₂ ≡ shifted_from o₁ first 0 w.operations
          → Raised raw s k first o s₀ k₀ o₂ (put_mid (first * 2) (length s₀ - first * 2) s₀ s₁) (put_mid first (length k₀ - first) k₀ k₁)
          w
      raises {o₂} g = record {
        stands = record {
          operations_are = shifted_list E o o₁ o₂ first w.operations cooked_are many_operations g;
          spans_are = rest_placed s₀ s₁ (flat_spans (all_tokens E)) (first * 2) f.in_spans (h.in_spans ∙ rw fine);
          keys_are = rest_placed k₀ k₁ (flat_keys (all_tokens E)) first f.in_keys (h.in_keys ∙ rw fine);
        };
        many_operations = many_operations;
        many_tokens = many_tokens;
      }

-- `list_of`

module _ {file : List ℕ} {at first : ℕ} {text o s₀ k₀ : List ℕ} (p : Listable file at first text o s₀ k₀) {raw s k : List ℕ}
    (lr : length raw ≡ 1023) (ls : length s ≡ 2048) (lk : length k ≡ 1024)
    {text' raw' s' k' : List ℕ} {z : Made} (h : RawsMade (items_in (read_file file)) at text text' raw s k raw' s' k' z) where
  abbrev is : List Item
  is = items_in (read_file file)

  abbrev rs : List Run
  rs = runs_of at is

  length_is : length rs ≡ length is
  length_is = runs_length at is

  tokens_most : length (all_tokens rs) ≤ 1024
  tokens_most = tokens_few file is p.accepted p.short at

  items_few : length is ≤ 341
  items_few = few file is p.accepted p.short

  raw_long : length raw' ≡ 1023
  raw_long = ap length h.raws.in_raw ∙ same_room (flat_raws 0 rs) raw (omega (arith, length_raws 0 rs, length_is, items_few)) ∙ lr

  pub end_most : z.items * 3 ≤ length raw'
  end_most = omega (arith, raw_long, h.many_items, items_few)

  pub end_length : z.items * 3 ≡ length (take (z.items * 3) raw')
  end_length = sym (length-take-le (z.items * 3) raw' end_most)

  spans_long : length s' ≡ 2048
  spans_long = ap length h.raws.in_spans ∙ same_room (flat_spans (all_tokens rs)) s (omega (arith, length_spans (all_tokens rs), tokens_most, ls)) ∙ ls

  keys_long : length k' ≡ 1024
  keys_long = ap length h.raws.in_keys ∙ same_room (flat_keys (all_tokens rs)) k (omega (arith, length_keys (all_tokens rs), tokens_most, lk)) ∙ lk

  raws_are : raws_of (take (z.items * 3) raw') ≡ raw_list 0 rs
  raws_are = rw h.raws.in_raw (raws_back rs (z.items * 3) (drop (length (flat_raws 0 rs)) raw) (omega (arith, h.many_items, length_is)))

  runs_are : runsLent s' k' joinable (raw_list 0 rs) ≡ rs
  runs_are =
      runs_back s' k' joinable rs 0 (drop (length (flat_spans (all_tokens rs))) s) (drop (length (flat_keys (all_tokens rs))) k) h.raws.in_spans
      h.raws.in_keys (runs_join at is)
      (λ i l. get_or-replicate 1024 i 3 0 (omega (arith, l, tokens_most)))

  text_long : length text' ≡ length text
  text_long = ap length h.text_is ∙ placed_length text at (texts is) (omega (arith, little file is p.accepted p.short, p.text_fits))

  pub elongable : Elongable (take (z.items * 3) raw') s' k' text' first o s₀ k₀
  elongable =
      let c = list_counts 0 rs in
      let l = list_length 0 rs in
      let lj : length joinable ≡ 1024 = length-replicate {A = ℕ} 1024 3 in
      let added_is = texts_length is in
      let tm = little file is p.accepted p.short in
      let sums = (good file is p.accepted p.short).original in
      let sized : Sized (raw_list 0 rs) s' k' joinable text' (length o) (length s₀ - first * 2) (length k₀ - first) 1024 = record {
        text_most = omega (arith, text_long, p.most);
        few = omega (arith, l, length_is, items_few);
        tokens = omega (arith, c, tokens_most);
        used = rw runs_are (omega (arith, runs_size at is, sums, tm, added_is));
        lent = list_lent (pieces_lent s' k' joinable) 0 rs (omega (arith, tokens_most, spans_long, keys_long, lj));
        in_operations = omega (arith, l, length_is, items_few, p.operations_fit);
        in_spans = omega (arith, c, tokens_most, p.spans_fit);
        in_keys = omega (arith, c, tokens_most, p.keys_fit);
        in_joins = omega (arith, c, tokens_most);
      } in
      let q : points_from text' 0 ≡ accepted = rw h.text_is (good_text text at is p.good (good file is p.accepted p.short).each) in
      let g = runs_good (length text') false at is (good file is p.accepted p.short).each (omega (arith, text_long, p.long))
      (omega (arith, added_is, tm, text_long, p.text_fits)) in
      record {
        fine = rw raws_are (passes (raw_list 0 rs) s' k' joinable text' (length o) (length s₀ - first * 2) (length k₀ - first) 1024 sized q (rw runs_are g));
        in_spans = omega (arith, p.spans_fit);
        in_keys = omega (arith, p.keys_fit);
        few = rw raws_are (omega (arith, c, tokens_most));
      }

  pub lists : {o' s₁ k₁ : List ℕ} {w : Written} → Raised (take (z.items * 3) raw') s' k' first o s₀ k₀ o' s₁ k₁ w
      → Lists is at first text text' o o' s₀ s₁ k₀ k₁ (record { operations = w.operations; tokens = w.tokens; text = z.text })
  unfolding list_of
  lists {o'} {s₁} {k₁} {w} r =
      let e : runsLent s' k' joinable (raws_of (take (z.items * 3) raw')) ≡ rs = rw raws_are runs_are in
      let t : length (all_tokens (elongated rs)) ≡ counts (raws_of (take (z.items * 3) raw')) = rw e at (tokens_same s' k' joinable (raws_of (take (z.items * 3) raw'))) in
      let c : counts (raws_of (take (z.items * 3) raw')) ≡ length (all_tokens rs) = rw raws_are (list_counts 0 rs) in
      let st : Stands rs first o s₀ k₀ o' s₁ k₁ = rw e at r.stands in
      let m : w.operations ≡ length (elongated rs) = rw e at r.many_operations in
      record {
        text_is = h.text_is;
        operations_are = st.operations_are;
        spans_are = st.spans_are;
        keys_are = st.keys_are;
        many_operations = m;
        many_tokens = r.many_tokens ∙ sym t;
        many_points = h.many_points;
        operations_most = omega (arith, m, no_longer rs, length_is, items_few);
        tokens_most = omega (arith, r.many_tokens, c, tokens_most);
        points_most = omega (arith, h.many_points, little file is p.accepted p.short);
      }
