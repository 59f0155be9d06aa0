-- Shown: writing a list's diff from the front: what the loop keeps, its beginning, the ways through a turn, and its end.
-- How: what is written and what is left make the whole; a room holds what is written, and grows where that ends.
use Prim.Native.Nat.{ℕ, zero, suc, ◌+◌, ◌-◌, ◌*◌, ◌/◌, ◌≤◌, ◌<◌}
use mathlib.Core.Path.{◌≡◌, refl, sym, ◌∙◌, ap, subst}
use mathlib.Core.List.{List, [], ◌∷◌, ◌++◌, append_assoc, append-nil}
use native.Mathlib.Omega.{arith}
use native.Mathlib.Nat.{sub-zero}
use lib.ListN.{length, length-append}
use lib.IntN.{ℤ}
use Rattle.merging.specs.Lent.{lent_of}
use Rattle.diff.specs.Replay.{Edit}
use Rattle.room.specs.Placed.{placed, answered}
use Rattle.room.proofs.Answers.{one_more, same_room}
use Rattle.records.specs.declared.Operation.{Operation}
use Rattle.records.specs.Operations.{operation_at, operations_from, operations_of}
use Rattle.records.specs.Tokens.{spelling}
use Rattle.records.proofs.OperationLaws.{from_none}
use Rattle.words.specs.Words.{Lends}
use Rattle.edit_format.specs.Items.{Item, Keep, Drop, Add, added, texts}
use Rattle.edit_format.specs.Records.{record_of, records_from, records_of}
use Rattle.edit_format.proofs.RecordLaws.{length_records, records_snoc}
use Rattle.edit_format.proofs.TextLaws.{texts_append, texts_length}
use Rattle.merging.specs.Operations.{ops_from}
use Rattle.merging.specs.Outputs.{to_diff}
use Rattle.merging.specs.Tiling.{Tiled, Inserts}
use Rattle.merging.proofs.OneTurn.{tiled_le}
use Rattle.merging.proofs.Decoded.{first_insert, first_delete, first_retain}
use Rattle.to_diff.specs.Items.{item_of, items_of, diff_of}
use Rattle.to_diff.specs.Writes.{keeps, Spells, items, Ready, Fits, Kept, Inserted, Wrote}
use Rattle.to_diff.proofs.Joining.{pended, pend_more, pend_none, pend_delete, pend_insert}
use Rattle.to_diff.proofs.Measuring.{at_place}

-- a retain that was held back adds no text
texts_keeps : (done : List Item) (n : ℕ) → texts (done ++ keeps n) ≡ texts done
unfolding keeps texts
texts_keeps done zero = ap texts (append-nil done)
texts_keeps done (suc n) = texts_append done (Keep (suc n) ∷ []) ∙ append-nil (texts done)

records_keeps : (done : List Item) (n : ℕ) → records_of done ++ records_of (keeps n) ≡ records_of (done ++ keeps n)
unfolding keeps records_of records_from record_of
records_keeps done zero = append-nil (records_of done) ∙ ap records_of (sym (append-nil done))
records_keeps done (suc n) = sym (records_snoc done (Keep (suc n)))

-- a room grows by what is put where its answer ends
room_more : {A : Type 0} (s t d₀ d d' : List A) (at : ℕ) → at ≡ length s → d ≡ answered s d₀ → d' ≡ placed d at t → d' ≡ answered (s ++ t) d₀
room_more s t d₀ d d' at e f g = g ∙ (rw (e, f) (one_more s t d₀))

-- rs is still to be written of os, a list over an original of n code points; what is held back is kept long
pub record Writing (text spans keys : List ℕ) (os : List Operation) (n : ℕ) (d₀ : List ℤ) (e₀ : List ℕ) (rs : List Operation) (kept place at : ℕ)
    (d : List ℤ) (e : List ℕ) : Type 0 where
  pub done : List Item
  pub used : ℕ
  pub splits : done ++ items_of (pended kept (to_diff (lent_of [] text spans keys) (ops_from used rs))) ≡ items text spans keys os
  pub places : place ≡ length done
  pub ends : at ≡ length (texts done)
  pub stands : d ≡ answered (records_of done) d₀
  pub spelt : e ≡ answered (texts done) e₀
  pub tiled : Tiled (ops_from used rs) used n
  pub spells : Inserts (Spells text spans keys) (ops_from used rs)
  pub held : kept ≤ used

module _ (text spans keys : List ℕ) (os : List Operation) (n : ℕ) (d₀ : List ℤ) (e₀ : List ℕ) where
  abbrev edits : ℕ → List Operation → List Edit
  edits at rs = to_diff (lent_of [] text spans keys) (ops_from at rs)

  pub write_begins : Tiled (ops_from 0 os) 0 n → Inserts (Spells text spans keys) (ops_from 0 os) → Writing text spans keys os n d₀ e₀ os 0 0 0 d₀ e₀
  unfolding pended diff_of records_of records_from texts
  write_begins t s =
      record { done = []; used = 0; splits = refl; places = refl; ends = refl; stands = refl; spelt = refl; tiled = t; spells = s; held = omega arith }

  -- the retain that was held back is written
  closes : (rs : List Operation) (kept place at : ℕ) (d d' : List ℤ) (e : List ℕ) (r : ℕ) (h : Writing text spans keys os n d₀ e₀ rs kept place at d e)
      → items_of (pended kept (edits h.used rs)) ≡ keeps kept ++ items_of (edits h.used rs) → Kept kept place d d' r
      → Writing text spans keys os n d₀ e₀ rs 0 r at d' e
  unfolding pended
  closes rs kept place at d d' e r h q k =
      record {
        done = h.done ++ keeps kept;
        used = h.used;
        splits = append_assoc h.done (keeps kept) (items_of (edits h.used rs)) ∙ (ap (λ (is : List Item). h.done ++ is) (sym q) ∙ h.splits);
        places = rw (length-append h.done (keeps kept)) (omega (arith, k.next, h.places));
        ends = rw (texts_keeps h.done kept) h.ends;
        stands =
            room_more (records_of h.done) (records_of (keeps kept)) d₀ d d' (place * 3) (omega (arith, h.places, length_records h.done)) h.stands k.stands
            ∙ ap (λ (s : List ℤ). answered s d₀) (records_keeps h.done kept);
        spelt = rw (texts_keeps h.done kept) h.spelt;
        tiled = h.tiled;
        spells = h.spells;
        held = omega arith;
      }

  -- one item is written
  one_record : (done : List Item) (x : Item) (place at : ℕ) (d d' : List ℤ) → place ≡ length done → at ≡ length (texts done) → d ≡ answered (records_of done) d₀
      → d' ≡ placed d (place * 3) (record_of at x) → d' ≡ answered (records_of (done ++ x ∷ [])) d₀
  one_record done x place at d d' p q s f =
      let a : at ≡ added done = omega (arith, texts_length done) in
      room_more (records_of done) (record_of at x) d₀ d d' (place * 3) (omega (arith, length_records done)) s f
      ∙ ap (λ (t : List ℤ). answered t d₀) (ap (λ (m : ℕ). records_of done ++ record_of m x) a ∙ sym (records_snoc done x))

  snoc_splits : (done : List Item) (x : Item) (is : List Item) → (done ++ x ∷ []) ++ is ≡ done ++ x ∷ is
  snoc_splits done x is = append_assoc done (x ∷ []) is

  snoc_length : (done : List Item) (x : Item) (place : ℕ) → place ≡ length done → place + 1 ≡ length (done ++ x ∷ [])
  snoc_length done x place p = rw (length-append done (x ∷ [])) (omega arith)

  texts_drop : (done : List Item) (l : ℕ) → texts (done ++ Drop l ∷ []) ≡ texts done
  unfolding texts
  texts_drop done l = texts_append done (Drop l ∷ []) ∙ append-nil (texts done)

  texts_add : (done : List Item) (s : List ℕ) → texts (done ++ Add s ∷ []) ≡ texts done ++ s
  unfolding texts
  texts_add done s = texts_append done (Add s ∷ []) ∙ ap (λ (t : List ℕ). texts done ++ t) (append-nil s)

  -- a delete, an insert and the end let go of what is held back
  abbrev Closing : ℕ → List Edit → Type 0
  Closing kept es = items_of (pended kept es) ≡ keeps kept ++ items_of es

  closing_delete : (kept used : ℕ) (o : Operation) (rs : List Operation) → o.kind ≡ 0 → Closing kept (edits used (o ∷ rs))
  unfolding items_of item_of to_diff
  closing_delete kept used o rs k = rw (first_delete used o rs k) (pend_delete kept o.length (edits (used + o.length) rs))

  closing_insert : (kept used : ℕ) (o : Operation) (rs : List Operation) → o.kind ≡ 1 → Closing kept (edits used (o ∷ rs))
  unfolding items_of item_of to_diff
  closing_insert kept used o rs k =
      rw (first_insert used o rs k) (pend_insert kept (spelling text spans keys o.first o.count) (edits (used + 0) rs))

  closing_none : (kept used : ℕ) → Closing kept (edits used [])
  unfolding items_of to_diff ops_from
  closing_none kept used = pend_none kept ∙ sym (append-nil (keeps kept))

-- what a state of the writing says of the rooms
module _
    {text spans keys : List ℕ} {os : List Operation} {n : ℕ} {d₀ : List ℤ} {e₀ : List ℕ} {rs : List Operation} {kept place at : ℕ} {d : List ℤ} {e : List ℕ}
    (fits : Fits (items text spans keys os) d₀ e₀) (h : Writing text spans keys os n d₀ e₀ rs kept place at d e)
  where
    left_items : List Item
    left_items = items_of (pended kept (edits text spans keys os n d₀ e₀ h.used rs))

    parts : length h.done + length left_items ≡ length (items text spans keys os)
    unfolding left_items
    parts = sym (length-append h.done left_items) ∙ ap length h.splits

    text_parts : length (texts h.done) + length (texts left_items) ≡ added (items text spans keys os)
    unfolding left_items
    text_parts =
        sym (length-append (texts h.done) (texts left_items))
        ∙ (ap length (sym (texts_append h.done left_items)) ∙ (ap (λ (l : List Item). length (texts l)) h.splits ∙ texts_length (items text spans keys os)))

    pub same_items : length d ≡ length d₀
    same_items = ap length h.stands ∙ same_room (records_of h.done) d₀ (omega (arith, length_records h.done, parts, fits.items))

    pub same_text : length e ≡ length e₀
    same_text = ap length h.spelt ∙ same_room (texts h.done) e₀ (omega (arith, text_parts, fits.text))

    pub place_most : place ≤ length (items text spans keys os)
    place_most = omega (arith, parts, h.places)

    -- as much as a closing retain takes
    close_fits : n ≤ 65535 → Closing text spans keys os n d₀ e₀ kept (edits text spans keys os n d₀ e₀ h.used rs)
        → (kept < 9223372036854775808) × ((place + length (keeps kept)) * 3 ≤ length d)
    unfolding left_items
    close_fits few q =
        let l = ap length q ∙ length-append (keeps kept) (items_of (edits text spans keys os n d₀ e₀ h.used rs)) in (
          omega (arith, few, h.held, tiled_le (ops_from h.used rs) h.used n h.tiled),
          omega (arith, l, parts, h.places, same_items, fits.items),
        )

    -- and as one item more takes
    one_fits : 0 < length left_items → place * 3 + 3 ≤ length d
    one_fits l = omega (arith, l, parts, h.places, same_items, fits.items)

-- the ways through a turn, by the kind of its operation
module _
    {text spans keys : List ℕ} {os : List Operation} {n : ℕ} {d₀ : List ℤ} {e₀ : List ℕ} {rs : List Operation} {at : ℕ} {o : Operation} {d : List ℤ} {e : List ℕ}
    (few : n ≤ 65535) (fits : Fits (items text spans keys os) d₀ e₀)
  where
    module _ {kept place : ℕ} (h : Writing text spans keys os n d₀ e₀ (o ∷ rs) kept place at d e) where
      pub delete_fits : o.kind ≡ 0 → (kept < 9223372036854775808) × ((place + length (keeps kept)) * 3 ≤ length d)
      delete_fits k = close_fits fits h few (closing_delete text spans keys os n d₀ e₀ kept h.used o rs k)

      pub delete_closes : {d' : List ℤ} {r : ℕ} → o.kind ≡ 0 → Kept kept place d d' r → Writing text spans keys os n d₀ e₀ (o ∷ rs) 0 r at d' e
      delete_closes {d'} {r} k = closes text spans keys os n d₀ e₀ (o ∷ rs) kept place at d d' e r h (closing_delete text spans keys os n d₀ e₀ kept h.used o rs k)

      pub insert_fits : o.kind ≡ 1 → (kept < 9223372036854775808) × ((place + length (keeps kept)) * 3 ≤ length d)
      insert_fits k = close_fits fits h few (closing_insert text spans keys os n d₀ e₀ kept h.used o rs k)

      pub insert_closes : {d' : List ℤ} {r : ℕ} → o.kind ≡ 1 → Kept kept place d d' r → Writing text spans keys os n d₀ e₀ (o ∷ rs) 0 r at d' e
      insert_closes {d'} {r} k = closes text spans keys os n d₀ e₀ (o ∷ rs) kept place at d d' e r h (closing_insert text spans keys os n d₀ e₀ kept h.used o rs k)

      module _ (k : o.kind ≡ 1 → ⊥) (l : o.kind ≡ 0 → ⊥) where
        tiles : (o.order ≡ h.used) × (0 < o.length) × Tiled (ops_from (h.used + o.length) rs) (o.order + o.length) n
        tiles = rw (first_retain h.used o rs k l) at h.tiled

        tiles_on : Tiled (ops_from (h.used + o.length) rs) (h.used + o.length) n
        tiles_on = rw tiles.0 at tiles.2

        pub retain_small : kept + o.length ≤ 65535
        retain_small = omega (arith, few, h.held, tiled_le (ops_from (h.used + o.length) rs) (h.used + o.length) n tiles_on)

        pub retain_held : Writing text spans keys os n d₀ e₀ rs (kept + o.length) place at d e
        unfolding to_diff Inserts
        retain_held =
            let f = first_retain h.used o rs k l in
            let s = rw (f, pend_more kept o.length (edits text spans keys os n d₀ e₀ (h.used + o.length) rs) tiles.1) at h.splits in
            record {
              done = h.done;
              used = h.used + o.length;
              splits = s;
              places = h.places;
              ends = h.ends;
              stands = h.stands;
              spelt = h.spelt;
              tiled = tiles_on;
              spells = rw f at h.spells;
              held = omega (arith, h.held);
            }

    module _ {place : ℕ} (h : Writing text spans keys os n d₀ e₀ (o ∷ rs) 0 place at d e) where
      module _ (k : o.kind ≡ 0) where
        gone : (o.order ≡ h.used) × (0 < o.length) × Tiled (ops_from (h.used + o.length) rs) (o.order + o.length) n
        gone = rw (first_delete h.used o rs k) at h.tiled

        gone_on : Tiled (ops_from (h.used + o.length) rs) (h.used + o.length) n
        gone_on = rw gone.0 at gone.2

        delete_left : left_items fits h ≡ Drop o.length ∷ items_of (edits text spans keys os n d₀ e₀ (h.used + o.length) rs)
        unfolding left_items pended items_of item_of to_diff
        delete_left = rw (first_delete h.used o rs k)

        pub delete_puts : (o.length < 9223372036854775808) × (place * 3 + 3 ≤ length d)
        delete_puts = (
          omega (arith, few, tiled_le (ops_from (h.used + o.length) rs) (h.used + o.length) n gone_on),
          one_fits fits h (let l = ap length delete_left in omega arith),
        )

        pub delete_written : {d' : List ℤ} → d' ≡ placed d (place * 3) (record_of 0 (Drop o.length)) → Writing text spans keys os n d₀ e₀ rs 0 (place + 1) at d' e
        unfolding left_items pended record_of Inserts
        delete_written {d'} g =
            record {
              done = h.done ++ Drop o.length ∷ [];
              used = h.used + o.length;
              splits =
                  snoc_splits text spans keys os n d₀ e₀ h.done (Drop o.length) (items_of (edits text spans keys os n d₀ e₀ (h.used + o.length) rs))
                  ∙ (ap (λ (is : List Item). h.done ++ is) (sym delete_left) ∙ h.splits);
              places = snoc_length text spans keys os n d₀ e₀ h.done (Drop o.length) place h.places;
              ends = h.ends ∙ ap length (sym (texts_drop text spans keys os n d₀ e₀ h.done o.length));
              stands = one_record text spans keys os n d₀ e₀ h.done (Drop o.length) place at d d' h.places h.ends h.stands g;
              spelt = h.spelt ∙ ap (λ (s : List ℕ). answered s e₀) (sym (texts_drop text spans keys os n d₀ e₀ h.done o.length));
              tiled = gone_on;
              spells = rw (first_delete h.used o rs k) at h.spells;
              held = omega arith;
            }

      module _ (k : o.kind ≡ 1) where
        abbrev s : List ℕ
        s = spelling text spans keys o.first o.count

        insert_left : left_items fits h ≡ Add s ∷ items_of (edits text spans keys os n d₀ e₀ (h.used + 0) rs)
        unfolding left_items pended items_of item_of to_diff
        insert_left = rw (first_insert h.used o rs k)

        stays : Tiled (ops_from (h.used + 0) rs) (h.used + 0) n
        stays =
            let z : h.used ≡ h.used + 0 = omega arith in
            let t : (h.used ≡ h.used) × (0 < o.count) × Tiled (ops_from (h.used + 0) rs) h.used n = rw (first_insert h.used o rs k) at h.tiled in
            subst (λ (x : ℕ). Tiled (ops_from (h.used + 0) rs) x n) z t.2

        spells_all : Spells text spans keys o.first o.count × Inserts (Spells text spans keys) (ops_from (h.used + 0) rs)
        unfolding Inserts
        spells_all = rw (first_insert h.used o rs k) at h.spells

        pub insert_puts : Lends text spans keys o.first o.count e at × (place * 3 + 3 ≤ length d)
        unfolding texts
        insert_puts =
            let l = ap length insert_left in
            let t = ap (λ (is : List Item). length (texts is)) insert_left in (
              record {
                lent = spells_all.0.lent;
                tokens = spells_all.0.tokens;
                place =
                    omega (
                      arith,
                      t,
                      text_parts fits h,
                      h.ends,
                      same_text fits h,
                      fits.text,
                      length-append s (texts (items_of (edits text spans keys os n d₀ e₀ (h.used + 0) rs))),
                    );
              },
              one_fits fits h (omega arith),
            )

        pub insert_written : {d' : List ℤ} {e' : List ℕ} {r : ℕ} → Inserted s place at d d' e e' r → Writing text spans keys os n d₀ e₀ rs 0 (place + 1) r d' e'
        unfolding left_items pended
        insert_written {d'} {e'} {r} g =
            record {
              done = h.done ++ Add s ∷ [];
              used = h.used + 0;
              splits =
                  snoc_splits text spans keys os n d₀ e₀ h.done (Add s) (items_of (edits text spans keys os n d₀ e₀ (h.used + 0) rs))
                  ∙ (ap (λ (is : List Item). h.done ++ is) (sym insert_left) ∙ h.splits);
              places = snoc_length text spans keys os n d₀ e₀ h.done (Add s) place h.places;
              ends = rw (texts_add text spans keys os n d₀ e₀ h.done s, length-append (texts h.done) s) (omega (arith, g.next, h.ends));
              stands = one_record text spans keys os n d₀ e₀ h.done (Add s) place at d d' h.places h.ends h.stands g.stands;
              spelt = rw (texts_add text spans keys os n d₀ e₀ h.done s) (room_more (texts h.done) s e₀ e e' at h.ends h.spelt g.spelt);
              tiled = stays;
              spells = spells_all.1;
              held = omega arith;
            }

-- the end
module _
    {text spans keys : List ℕ} {os : List Operation} {n : ℕ} {d₀ : List ℤ} {e₀ : List ℕ} {kept place at : ℕ} {d : List ℤ} {e : List ℕ} (few : n ≤ 65535)
    (fits : Fits (items text spans keys os) d₀ e₀) (h : Writing text spans keys os n d₀ e₀ [] kept place at d e)
  where
    pub end_fits : (kept < 9223372036854775808) × ((place + length (keeps kept)) * 3 ≤ length d)
    end_fits = close_fits fits h few (closing_none text spans keys os n d₀ e₀ kept h.used)

    pub end_written : {d' : List ℤ} {r : ℕ} → Kept kept place d d' r
        → Wrote (items text spans keys os) d₀ e₀ d' e (record { items = r; text = at })
    unfolding pended items_of to_diff ops_from
    end_written {d'} {r} k =
        let w : Writing text spans keys os n d₀ e₀ [] 0 r at d' e =
        closes text spans keys os n d₀ e₀ [] kept place at d d' e r h (closing_none text spans keys os n d₀ e₀ kept h.used) k
        in
        let all : w.done ≡ items text spans keys os = sym (append-nil w.done) ∙ w.splits in
        record {
          sizes =
              record {
                items = w.places ∙ ap length all;
                text = w.ends ∙ (ap (λ (is : List Item). length (texts is)) all ∙ texts_length (items text spans keys os));
              };
          items = w.stands ∙ ap (λ (is : List Item). answered (records_of is) d₀) all;
          text = w.spelt ∙ ap (λ (is : List Item). answered (texts is) e₀) all;
        }

-- the loop, i of the operations being taken
pub record Taking (text spans keys ops : List ℕ) (d₀ : List ℤ) (e₀ : List ℕ) (i kept place at : ℕ) (d : List ℤ) (e : List ℕ) : Type 0 where
  pub n : ℕ
  pub few : n ≤ 65535
  pub many : length (items text spans keys (operations_of ops)) ≤ 8192
  pub fits : Fits (items text spans keys (operations_of ops)) d₀ e₀
  pub left : Writing text spans keys (operations_of ops) n d₀ e₀ (operations_from ops i (length ops / 6 - i)) kept place at d e

module _ {text spans keys ops : List ℕ} {d₀ : List ℤ} {e₀ : List ℕ} where
  pub take_begins : Ready text spans keys (operations_of ops) → Fits (items text spans keys (operations_of ops)) d₀ e₀
      → Taking text spans keys ops d₀ e₀ 0 0 0 0 d₀ e₀
  unfolding operations_of
  take_begins y f =
      record {
        n = y.n;
        few = y.few;
        many = y.many;
        fits = f;
        left = rw sub-zero (write_begins text spans keys (operations_of ops) y.n d₀ e₀ y.tiled y.spells);
      }

  module _ {i kept place at : ℕ} {d : List ℤ} {e : List ℕ} (h : Taking text spans keys ops d₀ e₀ i kept place at d e) where
    pub take_first : (o : Operation) → i < length ops / 6 → o ≡ operation_at ops i
        → Writing text spans keys (operations_of ops) h.n d₀ e₀ (o ∷ operations_from ops (i + 1) (length ops / 6 - (i + 1))) kept place at d e
    take_first o l q = rw (at_place ops i (length ops / 6) o l q) at h.left

    pub take_none : length ops / 6 ≤ i → Writing text spans keys (operations_of ops) h.n d₀ e₀ [] kept place at d e
    take_none l = rw (from_none ops i (length ops / 6) l) at h.left

    pub take_again : {kept' place' at' : ℕ} {d' : List ℤ} {e' : List ℕ} → i < length ops / 6
        → Writing text spans keys (operations_of ops) h.n d₀ e₀ (operations_from ops (i + 1) (length ops / 6 - (i + 1))) kept' place' at' d' e'
        → Taking text spans keys ops d₀ e₀ (i + 1) kept' place' at' d' e'
    take_again l w = record { n = h.n; few = h.few; many = h.many; fits = h.fits; left = w }
