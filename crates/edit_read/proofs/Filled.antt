-- All items of an accepted file in the rooms: the loop's invariant, its start, turn and end, and the answers of the public call.
-- The rooms hold the answer of the items done; what is left is accepted, so at the end these are all items. Assumes nothing.
use Rattle.std.specs.Prelude.{Ok, Err}
use mathlib.Core.Path.{◌≡◌, refl, sym, ap, ◌∙◌}
use mathlib.Core.List.{List, [], ◌∷◌, ◌++◌}
use Prim.Native.Nat.{ℕ, ◌+◌, ◌*◌, ◌/◌, ◌≤◌, ◌<◌, zero-le}
use native.Mathlib.Omega.{arith}
use lib.ListN.{length, drop, length-append}
use lib.IntN.{ℤ}
use borrow.Author.Tests.{lt-ltb, le-ltb}
use Rattle.room.specs.Placed.{placed, answered}
use Rattle.room.proofs.Answers.{one_more, same_room}
use Rattle.refusal.specs.declared.Refusal.{Refusal}
use Rattle.refusal.specs.declared.Refusal.TheVariants.{Room}
use Rattle.edit_format.specs.Items.{Item, added, texts}
use Rattle.edit_format.specs.Written.{Head}
use Rattle.edit_format.specs.Reading.{open', opened, Accepted, found, read_file}
use Rattle.edit_format.specs.Records.{record_of, records_of, records_from, size}
use Rattle.edit_format.proofs.Accepts.{accepted_good}
use Rattle.edit_format.proofs.TextLaws.{texts_append, texts_length}
use Rattle.edit_format.proofs.RecordLaws.{length_records, records_snoc, added_cons}
use Rattle.edit_format.proofs.ReadBack.{added_append}
use Rattle.edit_format.proofs.Rests.{at_least, no_more}
use Rattle.edit_read.specs.Judged.{Judged}
use Rattle.edit_read.specs.Filled.{ItemPut, Accepting, Fillable, records_found, text_found}
use Rattle.edit_read.specs.Answer.{answer_of, items_left, text_left, ReadInto}
use Rattle.edit_read.specs.declared.Spot.{Spot}
use Rattle.edit_read.specs.declared.Accepted.{Accepted as Counted}
use Rattle.edit_read.proofs.Judging.{opened_more, opened_last}

-- a run put where an answer ends
room_more : {A : Type 0} {d d' u : List A} {at : ℕ} (s t d₀ : List A) → d ≡ answered s d₀ → at ≡ length s → d' ≡ placed d at t → s ++ t ≡ u → d' ≡ answered u d₀
room_more s t d₀ e l q f = q ∙ rw (e, l, ← f) (one_more s t d₀)

added_snoc : (is : List Item) (x : Item) → added (is ++ x ∷ []) ≡ added is + size x
unfolding added
added_snoc is x = omega (arith, added_append is (x ∷ []), added_cons x [])

pub record Filling (p : List ℕ) (count : ℕ) (d₀ : List ℤ) (e₀ : List ℕ) (d : List ℤ) (e : List ℕ) (at start i : ℕ) : Type 0 where
  pub items : List Item
  pub done : List Item
  pub head : Head
  pub accepted : read_file p ≡ Accepted items
  pub many : count ≡ length items
  pub counted : head.count ≡ length items
  pub records : 3 * length items ≤ length d₀
  pub text : added items ≤ length e₀
  pub here : i ≡ length done
  pub most : i ≤ count
  pub place : start ≡ added done
  pub items_room : d ≡ answered (records_of done) d₀
  pub text_room : e ≡ answered (texts done) e₀
  pub left : found (opened head done) (drop at p) ≡ Accepted items

pub begins : {p : List ℕ} {first count : ℕ} {d : List ℤ} {e : List ℕ} → Fillable p first count (length d) (length e) → Filling p count d e d e first 0 0
unfolding records_of records_from texts added
begins f = record {
  items = f.items;
  done = [];
  head = f.head;
  accepted = f.accepted;
  many = f.many;
  counted = f.counted;
  records = f.records;
  text = f.text;
  here = refl;
  most = zero-le;
  place = refl;
  items_room = refl;
  text_room = refl;
  left = f.left;
}

module _ {p : List ℕ} {count : ℕ} {d₀ : List ℤ} {e₀ : List ℕ} {d : List ℤ} {e : List ℕ} {at start i : ℕ} (f : Filling p count d₀ e₀ d e at start i) where
  fits_text : added f.done ≤ length e₀
  fits_text = omega (arith, at_least f.head f.done (drop at p) f.left, f.text)

  pub items_long : length d ≡ length d₀
  items_long = ap length f.items_room ∙ same_room (records_of f.done) d₀ (omega (arith, length_records f.done, f.here, f.most, f.many, f.records))

  pub text_long : length e ≡ length e₀
  text_long = ap length f.text_room ∙ same_room (texts f.done) e₀ (omega (arith, texts_length f.done, fits_text))

  -- the next record has its place, and so has the next text
  pub record_fits : i < count → i * 3 + 3 ≤ length d
  record_fits g = omega (arith, items_long, f.many, f.records)

  pub text_fits : start ≤ length e
  text_fits = omega (arith, text_long, f.place, fits_text)

  few : i < count → length f.done < 8192
  few g = omega (arith, (accepted_good p f.accepted).few, f.here, f.many)

  here_left : i < count → found (open' f.head f.done) (drop at p) ≡ Accepted f.items
  here_left g = rw (opened_more f.head f.done (omega (arith, f.here, f.many, f.counted))) at f.left

  pub accepting : i < count → Accepting open' p at start (length e)
  accepting g = record {
    head = f.head;
    done = f.done;
    items = f.items;
    few = few g;
    place = sym f.place;
    text = omega (arith, text_long, f.text);
    left = here_left g;
  }

  pub goes_on : {d' : List ℤ} {e' : List ℕ} {u : Spot} → i < count → ItemPut open' p at start (i * 3) d d' e e' u → Filling p count d₀ e₀ d' e' u.next u.start (i + 1)
  goes_on {d'} {e'} {u} g q =
      let r = q.says f.head f.done f.items (few g) (sym f.place) (omega (arith, text_long, f.text)) (here_left g) in
      let x : Item = r.0 in
      let w : u.start ≡ start + size x = r.1 in
      let l : i * 3 ≡ length (records_of f.done) = omega (arith, length_records f.done, f.here) in
      let m : start ≡ length (texts f.done) = f.place ∙ sym (texts_length f.done) in
      record {
        items = f.items;
        done = f.done ++ x ∷ [];
        head = f.head;
        accepted = f.accepted;
        many = f.many;
        counted = f.counted;
        records = f.records;
        text = f.text;
        here = rw (length-append f.done (x ∷ [])) (ap (λ (n : ℕ). n + 1) f.here);
        most = omega arith;
        place = w ∙ ap (λ (n : ℕ). n + size x) f.place ∙ sym (added_snoc f.done x);
        items_room = room_more (records_of f.done) (record_of start x) d₀ f.items_room l r.2 (ap (λ (n : ℕ). records_of f.done ++ record_of n x) f.place ∙ sym (records_snoc f.done x));
        text_room = room_more (texts f.done) (texts (x ∷ [])) e₀ f.text_room m r.3 (sym (texts_append f.done (x ∷ [])));
        left = r.4;
      }

  all_done : count ≤ i → f.items ≡ f.done
  all_done g = no_more f.head f.done (drop at p) (rw (opened_last f.head f.done (omega (arith, f.here, f.most, f.many, f.counted))) at f.left)

  pub items_all : count ≤ i → d ≡ answered (records_found (read_file p)) d₀
  unfolding records_found
  items_all g = rw (f.accepted, all_done g) f.items_room

  pub text_all : count ≤ i → e ≡ answered (text_found (read_file p)) e₀
  unfolding text_found
  text_all g = rw (f.accepted, all_done g) f.text_room

pub fillable : {p : List ℕ} {f : Counted} (a b : ℕ) → Judged p (Ok f) → f.items ≤ a / 3 → f.text ≤ b → Fillable p f.first f.items a b
fillable a b r g h = record {
  items = r.says.0;
  head = r.says.1;
  accepted = r.says.2;
  many = r.says.3;
  counted = r.says.6;
  records = omega (arith, r.says.3);
  text = omega (arith, r.says.4);
  left = r.says.7;
}

-- the public call
module _ {p : List ℕ} {d : List ℤ} {e : List ℕ} where
  pub refused : {why : Refusal} → Judged p (Err why) → ReadInto (read_file p) d e d e (Err why)
  unfolding answer_of items_left text_left
  refused r = record { answer = rw (r.says.2, r.says.1); items = refl; text = refl }

  module _ {f : Counted} (r : Judged p (Ok f)) where
    pub few_records : length d / 3 < f.items → ReadInto (read_file p) d e d e (Err Room)
    unfolding answer_of items_left text_left
    few_records g = record { answer = rw (r.says.2, lt-ltb (length d) (3 * length r.says.0) (omega (arith, r.says.3))); items = refl; text = refl }

    pub little_text : f.items ≤ length d / 3 → length e < f.text → ReadInto (read_file p) d e d e (Err Room)
    unfolding answer_of items_left text_left
    little_text a b = record {
      answer = rw (r.says.2, le-ltb (length d) (3 * length r.says.0) (omega (arith, r.says.3)), lt-ltb (length e) (length (texts r.says.0)) (omega (arith, r.says.4, texts_length r.says.0)));
      items = refl;
      text = refl;
    }

    pub filled : {d' : List ℤ} {e' : List ℕ} → f.items ≤ length d / 3 → f.text ≤ length e → d' ≡ answered (records_found (read_file p)) d → e' ≡ answered (text_found (read_file p)) e
        → ReadInto (read_file p) d e d' e' (Ok (record { items = f.items; text = f.text }))
    unfolding answer_of items_left text_left records_found text_found
    filled a b u v = record {
      answer = rw (r.says.2, le-ltb (length d) (3 * length r.says.0) (omega (arith, r.says.3)), le-ltb (length e) (length (texts r.says.0)) (omega (arith, r.says.4, texts_length r.says.0)), r.says.3, r.says.4, texts_length r.says.0);
      items = rw r.says.2 (rw r.says.2 at u);
      text = rw r.says.2 (rw r.says.2 at v);
    }
