-- Shown: an accepted file that is short enough is read into the rooms, and its raw list fits into its own.
-- How: the bounds of a short file, and the records read back as the items' runs. Assumes nothing.
use mathlib.Core.Path.{◌≡◌, sym, ap, ◌∙◌}
use mathlib.Core.Bool.{false}
use mathlib.Core.List.{List, [], ◌++◌, append_assoc, append-nil}
use Prim.Native.Nat.{ℕ, ◌+◌, ◌-◌, ◌*◌, ◌≤◌}
use native.Mathlib.Nat.{add-zero}
use native.Mathlib.Omega.{arith}
use lib.ListN.{length, take, drop, length-append, length-drop, drop_of_length-le}
use lib.Seq.{take_all, drop_at, drop-drop, length-take-le}
use lib.IntN.{ℤ}
use borrow.Author.Tests.{le-ltb}
use borrow.Rule.Slice.PartMut.{mid_of, post_of, put_mid, mid_len}
use Rattle.room.specs.Placed.{placed, answered}
use Rattle.refusal.specs.declared.Refusal.{Refusal}
use Rattle.diff.specs.Items.{items_from}
use Rattle.elongate.specs.Elongated.{all_tokens}
use Rattle.room.proofs.Placing.{placed_length}
use Rattle.edit_format.specs.Items.{Item, Good, texts}
use Rattle.edit_format.specs.Reading.{Accepted, read_file}
use Rattle.edit_format.specs.Records.{records_of}
use Rattle.edit_format.proofs.Accepts.{accepted_good}
use Rattle.edit_format.proofs.TextLaws.{texts_length}
use Rattle.edit_format.proofs.RecordLaws.{length_records}
use Rattle.edit_read.specs.Answer.{answer_of, items_left, text_left, ReadInto}
use Rattle.std.specs.Prelude.{Result, Ok, Err}
use Rattle.item_records.specs.declared.Counts.{Counts}
use Rattle.edit_list.specs.Raws.{runs_of, items_in}
use Rattle.edit_list.specs.Steps.{runs_in, ItemsLent, Fits, Filled, Readable, ItemsRead, Makeable, RawsMade}
use Rattle.edit_list.proofs.Bounds.{file_long, file_items}
use Rattle.edit_list.proofs.Decoding.{edits}
use Rattle.edit_list.proofs.Runs.{runs_length, runs_size, runs_tokens, runs_good, runs_small}

-- the rest of a list, from a place on, as it is lent; and put back with an answer at its start
pub rest_length : (d : List ℕ) (at : ℕ) → length (mid_of at (length d - at) d) ≡ length d - at
rest_length d at = mid_len at (length d) d (omega arith)

pub rest_placed : (d t s : List ℕ) (at : ℕ) → at ≤ length d → t ≡ answered s (mid_of at (length d - at) d) → put_mid at (length d - at) d t ≡ placed d at s
unfolding placed
rest_placed d t s at h e =
    let m : mid_of at (length d - at) d ≡ drop at d = take_all (length d - at) (drop at d) (omega (arith, length-drop at d)) in
    let p : post_of at (length d - at) d ≡ [] = drop_of_length-le (drop at d) {i = length d - at} (omega (arith, length-drop at d)) in
    let q : t ≡ s ++ drop (at + length s) d = e ∙ ap (λ (z : List ℕ). s ++ drop (length s) z) m ∙ ap (λ (z : List ℕ). s ++ z) (drop-drop (length s) at d) in
    ap (λ (z : List ℕ). take at d ++ (t ++ z)) p
    ∙ ap (λ (z : List ℕ). take at d ++ z) (append-nil t ∙ q)
    ∙ sym (append_assoc (take at d) s (drop (at + length s) d))

module _ (file : List ℕ) (is : List Item) (a : read_file file ≡ Accepted is) (short : length file ≤ 2048) where
  pub few : length is ≤ 341
  few = omega (arith, file_items file a)

  pub little : length (texts is) ≤ 1024
  little = omega (arith, file_long file a)

  pub tokens_few : (at : ℕ) → length (all_tokens (runs_of at is)) ≤ 1024
  tokens_few at = omega (arith, file_long file a, runs_tokens at is, texts_length is)

  pub good : Good is
  good = accepted_good file a

  -- reading

  module _ (at : ℕ) (text : List ℕ) (items : List ℤ) (ft : at + 1024 ≤ length text) (fi : 1023 ≤ length items) where
    answers : answer_of (read_file file) (length items) (length (mid_of at (length text - at) text)) ≡ Ok (record { items = length is; text = length (texts is) })
    unfolding answer_of
    answers =
        rw (
          a,
          le-ltb (length items) (3 * length is) (omega (arith, few)),
          le-ltb (length (mid_of at (length text - at) text)) (length (texts is)) (omega (arith, little, rest_length text at)),
        )

    module _ {items' : List ℤ} {t : List ℕ} {r : Result Counts Refusal} (h : ReadInto (read_file file) items (mid_of at (length text - at) text) items' t r) where
      reads : (n : Counts) → r ≡ Ok n → ItemsRead is at text (put_mid at (length text - at) text t) items items' n
      unfolding items_left text_left
      reads n e =
          let q : ◌≡◌ {A = Result Counts Refusal} (Ok n) (Ok (record { items = length is; text = length (texts is) })) = sym e ∙ h.answer ∙ answers in
          let w : n ≡ record { items = length is; text = length (texts is) } = cc in
          record {
            text_is = rest_placed text t (texts is) at (omega arith) (h.text ∙ rw (e, a));
            items_are = h.items ∙ rw (e, a);
            many_items = ap (λ (x : Counts). x.items) w;
            many_points = ap (λ (x : Counts). x.text) w;
          }

      reads_all : (x : Refusal) → r ≡ Err x → ⊥
      reads_all x e =
          let q : ◌≡◌ {A = Result Counts Refusal} (Err x) (Ok (record { items = length is; text = length (texts is) })) = sym e ∙ h.answer ∙ answers in
          let z : ◌≡◌ {A = ℕ} 0 1 = cc in
          omega arith

  -- the raw list

  module _ (at : ℕ) (text raw s k : List ℕ) (ft : at + 1024 ≤ length text) (most : length text ≤ 131070) (fr : 1023 ≤ length raw)
      (fs : 2048 ≤ length s) (fk : 1024 ≤ length k)
      {text' : List ℕ} {items items' : List ℤ} {z : Counts} (h : ItemsRead is at text text' items items' z) where
    text_long : length text' ≡ length text
    text_long = ap length h.text_is ∙ placed_length text at (texts is) (omega (arith, little))

    text_there : drop (at + 0) text' ≡ texts is ++ drop (at + length (texts is)) text
    unfolding placed
    text_there =
        rw (add-zero at, h.text_is, append_assoc (take at text) (texts is) (drop (at + length (texts is)) text))
        (drop_at (take at text) (texts is ++ drop (at + length (texts is)) text) at (length-take-le at text (omega arith)))

    runs_are : runs_in text' at (items_from items' z.text 0 z.items) ≡ runs_of at is
    unfolding records_of
    runs_are =
        let e = edits is false items' (drop (length (records_of is)) items) (drop (at + length (texts is)) text) text' at 0 0 z.text good.each
        h.items_are text_there
        (omega (arith, h.many_points, texts_length is)) in
        rw h.many_items (rw (add-zero at) at e)

    made_lent : ItemsLent items' z.items z.text text' at
    made_lent =
        let l : length items' ≡ length (records_of is) + length (drop (length (records_of is)) items) = ap length h.items_are ∙ length-append
        (records_of is) (drop (length (records_of is)) items) in
        record {
          items_fit = omega (arith, l, length_records is, h.many_items);
          within = omega (arith, text_long, h.many_points, little);
          most = omega (arith, text_long);
        }

    made_fits : Fits (runs_in text' at (items_from items' z.text 0 z.items)) raw s k
    made_fits =
        let n : ℕ = 65535 + (at + 1024) in
        let g = runs_good n false at is good.each (omega (arith, good.original)) (omega (arith, little, texts_length is)) in
        rw runs_are
        (record {
          small = runs_small n (runs_of at is) g (omega (arith, runs_size at is, good.original, little, texts_length is));
          in_raw = omega (arith, runs_length at is, few);
          in_spans = omega (arith, tokens_few at);
          in_keys = omega (arith, tokens_few at);
        })

    makes : {raw' s' k' : List ℕ} {n : ℕ} → Filled (runs_in text' at (items_from items' z.text 0 z.items)) raw s k raw' s' k' n
        → RawsMade is at text text' raw s k raw' s' k' (record { items = z.items; tokens = n; text = z.text })
    makes f = record { text_is = h.text_is; raws = rw runs_are at f; many_items = h.many_items; many_points = h.many_points }

-- the same, by what the two functions ask

module _ {file : List ℕ} {at : ℕ} {text : List ℕ} {items : List ℤ} (p : Readable file at text items) {items' : List ℤ} {t : List ℕ} {r : Result Counts Refusal}
    (h : ReadInto (read_file file) items (mid_of at (length text - at) text) items' t r) where
  pub read_done : (n : Counts) → r ≡ Ok n → ItemsRead (items_in (read_file file)) at text (put_mid at (length text - at) text t) items items' n
  read_done n e = reads file (items_in (read_file file)) p.accepted p.short at text items p.text_fits p.items_fit h n e

  pub read_never : (x : Refusal) → r ≡ Err x → ⊥
  read_never x e = reads_all file (items_in (read_file file)) p.accepted p.short at text items p.text_fits p.items_fit h x e

module _ {file : List ℕ} {at : ℕ} {text raw s k : List ℕ} (p : Makeable file at text raw s k) {text' : List ℕ} {items items' : List ℤ} {z : Counts}
    (h : ItemsRead (items_in (read_file file)) at text text' items items' z) where
  abbrev is : List Item
  is = items_in (read_file file)

  pub fill_lent : ItemsLent items' z.items z.text text' at
  fill_lent = made_lent file is p.accepted p.short at text raw s k p.text_fits p.most p.in_raw p.in_spans p.in_keys h

  pub fill_fits : Fits (runs_in text' at (items_from items' z.text 0 z.items)) raw s k
  fill_fits = made_fits file is p.accepted p.short at text raw s k p.text_fits p.most p.in_raw p.in_spans p.in_keys h

  pub fill_makes : {raw' s' k' : List ℕ} {n : ℕ} → Filled (runs_in text' at (items_from items' z.text 0 z.items)) raw s k raw' s' k' n
      → RawsMade is at text text' raw s k raw' s' k' (record { items = z.items; tokens = n; text = z.text })
  fill_makes f = makes file is p.accepted p.short at text raw s k p.text_fits p.most p.in_raw p.in_spans p.in_keys h f
