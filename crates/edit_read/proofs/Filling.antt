-- The second pass over an accepted file: the rooms after a code point, an add line, a keep or drop, an item, and all items.
-- What is left of the bytes is accepted, so no line is bad, the rooms never run short, and at the end the items put are all items. Assumes nothing.
use Rattle.std.specs.Prelude.{Option, Some, None}
use mathlib.Core.Path.{◌≡◌, refl, sym, ap, ◌∙◌}
use mathlib.Core.Bool.{Bool, true, false, not}
use mathlib.Core.List.{List, [], ◌∷◌, ◌++◌, append_assoc, append-nil}
use Prim.Native.Nat.{ℕ, suc, ◌+◌, ◌-◌, ◌≤◌, ◌<◌}
use native.Mathlib.Omega.{arith}
use native.Mathlib.Decide.{dec_le, dec_lt}
use lib.ListN.{length, take, drop, set, length-set, length-append, get_or, drop_of_length-le}
use lib.Seq.{drop-drop, length-take-le, drop-cons, set_at}
use lib.IntN.{ℤ, pos, neg_ℤ}
use lib.Dec.{ltb, leb}
use borrow.Author.Tests.{leb-true}
use Rattle.room.specs.Choice.{pick}
use Rattle.room.specs.Placed.{placed}
use Rattle.room.proofs.Placing.{placed_none}
use Rattle.room.proofs.Bools.{and_right}
use Rattle.room.proofs.Choices.{no_way}
use Rattle.edit_format.specs.Tests.{begins}
use Rattle.edit_format.specs.Items.{Item, Add, kept, dropped, added, texts, ends_keep}
use Rattle.edit_format.specs.Written.{Head, add_key}
use Rattle.edit_format.specs.Reading.{Kind, keeping, dropping, adding, item, key, gap, open', kind_key, key_of, hexes, several, fits, fits_item, kind_of, item_of, next, Accepted, finish, run, found}
use Rattle.edit_format.specs.Records.{record_of, size}
use Rattle.edit_format.proofs.NoBeginning.{never}
use Rattle.edit_format.proofs.Finding.{key_on, key_off, open_as}
use Rattle.edit_format.proofs.Rests.{one_more}
use Rattle.edit_lines.proofs.Leaves.{at_byte}
use Rattle.edit_lines.specs.Scan.{scan, closed_at, line_at, point_at, Stands}
use Rattle.edit_lines.specs.declared.Number.{Number}
use Rattle.edit_lines.specs.declared.Point.TheVariants.{More, Last}
use Rattle.edit_lines.proofs.Lines.{line_parts}
use Rattle.edit_lines.proofs.Scanning.{Lined, lined, Pointed, pointed, crowded}
use Rattle.edit_read.specs.Judged.{part_kind}
use Rattle.edit_read.specs.Filled.{PointsPut, Numbered, NumberIn, NumberPut, ItemIn, ItemPut, Accepting}
use Rattle.edit_read.specs.declared.Spot.{Spot}

-- one store where a run ends makes it longer
placed_more : (d cs : List ℕ) (at v : ℕ) → at + length cs < length d → set (placed d at cs) (at + length cs) v ≡ placed d at (cs ++ v ∷ [])
unfolding placed
placed_more d cs at v h =
    let e : length (take at d ++ cs) ≡ at + length cs = length-append (take at d) cs ∙ ap (λ (n : ℕ). n + length cs) (length-take-le at d (omega arith)) in
    let f : at + (length cs + 1) ≡ suc (at + length cs) = omega arith in
    rw (length-append cs (v ∷ []), f, drop-cons d (at + length cs) 0 h)
    (set_at (take at d ++ cs) (get_or d (at + length cs) 0) (drop (suc (at + length cs)) d) v (at + length cs) e
    ∙ sym (ap (λ (l : List ℕ). l ++ drop (suc (at + length cs)) d) (sym (append_assoc (take at d) cs (v ∷ []))) ∙ append_assoc (take at d ++ cs) (v ∷ []) (drop (suc (at + length cs)) d)))

-- an accepted add line passes no size
roomy : (h : Head) (is : List Item) → length is < 8192 → (cs p : List ℕ) (i : ℕ) {js : List Item} → found (gap (item h is adding) cs) (drop i p) ≡ Accepted js → added is + length cs + 1 ≤ 131070
roomy h is few cs p i e = elim (dec_le (added is + length cs + 1) 131070) [
  | yes g ↦ g
  | no g ↦ absurd (never (sym (crowded h is few cs p i (omega arith)) ∙ e))
]

pub record Putting (p : List ℕ) (at start : ℕ) (d o : List ℕ) (place i : ℕ) : Type 0 where
  pub low : start ≤ place
  pub high : place ≤ length d
  pub same : length o ≡ length d
  pub reads :
      (h : Head) (is js : List Item) → length is < 8192 → added is ≡ start → added js ≤ length d
      → found (gap (item h is adding) []) (drop at p) ≡ Accepted js
      → (cs : List ℕ) × (place ≡ start + length cs) × (o ≡ placed d start cs) × (found (gap (item h is adding) cs) (drop i p) ≡ Accepted js)

pub starts : (p : List ℕ) (at start : ℕ) (d : List ℕ) → start ≤ length d → Putting p at start d d start at
starts p at start d g = record {
  low = omega arith;
  high = g;
  same = refl;
  reads = λ x is js a b c e. ([], omega arith, sym (placed_none d start), e);
}

module _ {p : List ℕ} {at start : ℕ} {d o : List ℕ} {place i : ℕ} (q : Putting p at start d o place i) where
  pub goes_on : {v j : ℕ} → place < length o → point_at p i ≡ Some (More v j) → Putting p at start d (set o place v) (place + 1) j
  goes_on {v} {j} g e = record {
    low = omega (arith, q.low);
    high = omega (arith, q.same);
    same = length-set o place v ∙ q.same;
    reads = λ h is js a b c f.
        let r = q.reads h is js a b c f in
        let l : place ≡ start + length r.0 = r.1 in
        let t : Pointed h is r.0 p i (Some (More v j)) = rw e at (pointed h is a r.0 p i (roomy h is a r.0 p i r.3)) in (
          r.0 ++ v ∷ [],
          (rw (length-append r.0 (v ∷ [])) (omega arith)),
          (rw (r.2, l) (placed_more d r.0 start v (omega (arith, q.same)))),
          sym t.1 ∙ r.3,
        );
  }

  pub ends : {v j : ℕ} → place < length o → point_at p i ≡ Some (Last v j) → PointsPut p at start d (set o place v) (record { start = place + 1; next = j })
  ends {v} {j} g e = record {
    inside = (omega (arith, q.low), omega (arith, q.same));
    says = λ h is js a b c f.
        let r = q.reads h is js a b c f in
        let l : place ≡ start + length r.0 = r.1 in
        let t : Pointed h is r.0 p i (Some (Last v j)) = rw e at (pointed h is a r.0 p i (roomy h is a r.0 p i r.3)) in (
          r.0 ++ v ∷ [],
          (rw (length-append r.0 (v ∷ [])) (omega arith)),
          (rw (r.2, l) (placed_more d r.0 start v (omega (arith, q.same)))),
          sym t.1 ∙ r.3,
        );
  }

  -- so a code point stands there
  pub stands : Accepting (λ (h : Head). λ (is : List Item). gap (item h is adding) []) p at start (length d) → Stands p i
  stands a e =
      let r = q.reads a.head a.done a.items a.few a.place a.text a.left in
      let t : Pointed a.head a.done r.0 p i None = rw e at (pointed a.head a.done a.few r.0 p i (roomy a.head a.done a.few r.0 p i r.3)) in
      never (sym t ∙ r.3)

  -- and has its place
  pub has_room : Accepting (λ (h : Head). λ (is : List Item). gap (item h is adding) []) p at start (length d) → place < length o
  has_room a =
      let r = q.reads a.head a.done a.items a.few a.place a.text a.left in
      let l : place ≡ start + length r.0 = r.1 in
      let m : added a.done + length r.0 + 1 ≤ added a.items = one_more a.head a.done r.0 (drop i p) r.3 in
      omega (arith, q.same, a.place, a.text)

-- a keep or a drop of an accepted file
number_small : (is : List Item) (k : Kind) (m : ℕ) → hexes k ≡ false → fits_item is k [] m ≡ true → m ≤ 65535
unfolding fits_item hexes
number_small is keeping m o e = let w : kept is + dropped is + m ≤ 65535 = leb-true (kept is + dropped is + m) 65535 (and_right (leb 1 m) _ (and_right (not (ends_keep is)) _ e)) in omega arith
number_small is dropping m o e = let w : kept is + dropped is + m ≤ 65535 = leb-true (kept is + dropped is + m) 65535 (and_right (leb 1 m) _ e) in omega arith
number_small is adding m o e = no_way (sym o)

number_size : (k : Kind) (m : ℕ) → hexes k ≡ false → (size (item_of k [] m) ≡ 0) × (texts (item_of k [] m ∷ []) ≡ [])
unfolding hexes item_of size texts
number_size keeping m o = (refl, refl)
number_size dropping m o = (refl, refl)
number_size adding m o = no_way (sym o)

module _ (p : List ℕ) (k : Kind) (one : hexes k ≡ false) (at : ℕ) where
  line : (h : Head) (is : List Item) (r : Option Number) → line_at (kind_key k) p at ≡ r → Lined (item h is k) p at r
  unfolding key_of several
  line h is r e = rw e at (lined (item h is k) p at one)

  -- so its number stands behind its key
  stands_as : (h : Head) (is js : List Item) → found (key (item h is k) 0) (drop at p) ≡ Accepted js → {got : Number} → line_at (kind_key k) p at ≡ Some got → length (kind_key k) ≡ 5 → (t : Lined (item h is k) p at (Some got)) (u : Bool) → fits (item h is k) [] t.0 ≡ u → Numbered k p at
  unfolding fits
  stands_as h is js g e l (m, b, c, w, y, n) false u = absurd (never (sym (n u) ∙ g))
  stands_as h is js g {got} e l (m, b, c, w, y, n) true u =
      let s : m ≤ 65535 = number_small is k m one (and_right (ltb (length is) 8192) _ u) in
      let q = line_parts (kind_key k) p at e in
      record { keyed = q.0; number = record { number = got; small = omega arith; closed = rw l at q.1 } }

  pub number_stands : length (kind_key k) ≡ 5 → (h : Head) (is js : List Item) → found (key (item h is k) 0) (drop at p) ≡ Accepted js → Numbered k p at
  number_stands l h is js g = go (line_at (kind_key k) p at) refl
    where
      go : (r : Option Number) → line_at (kind_key k) p at ≡ r → Numbered k p at
      go None e = absurd (never (sym (line h is None e) ∙ g))
      go (Some got) e = let t = line h is (Some got) e in stands_as h is js g e l t (fits (item h is k) [] t.0) refl

  -- and is that of the line
  pub number_line : length (kind_key k) ≡ 5 → Numbered k p at → {got : Number} → closed_at p (scan 10 (at + 5) (drop (at + 5) p)) ≡ Some got → line_at (kind_key k) p at ≡ Some got
  unfolding line_at
  number_line l q e = rw (q.keyed, l) e

module _ (p : List ℕ) (k : Kind) (one : hexes k ≡ false) (at start place : ℕ) (d : List ℤ) where
  fitted : {d' : List ℤ} {got : Number} → d' ≡ placed d place (record_of start (item_of k [] got.value)) → (h : Head) (is js : List Item) → found (key (item h is k) 0) (drop at p) ≡ Accepted js → (t : Lined (item h is k) p at (Some got)) (u : Bool) → fits (item h is k) [] t.0 ≡ u → NumberIn h is js p start place d d' (record { start = start; next = got.next })
  unfolding fits next
  fitted f h is js g (m, b, c, w, y, n) false u = absurd (never (sym (n u) ∙ g))
  fitted {d'} {got} f h is js g (m, b, c, w, y, n) true u =
      let s : m ≤ 65535 = number_small is k m one (and_right (ltb (length is) 8192) _ u) in
      let x : got.value ≡ m = omega arith in
      (item_of k [] m, refl, (number_size k m one).0, (number_size k m one).1, f ∙ rw x, sym (y u) ∙ g)

  pub number_put : {d' : List ℤ} {got : Number} → line_at (kind_key k) p at ≡ Some got → d' ≡ placed d place (record_of start (item_of k [] got.value)) → NumberPut p k at start place d d' (record { start = start; next = got.next })
  number_put {d'} {got} e f = record { says = λ h is js a g. let t = line p k one at h is (Some got) e in fitted f h is js g t (fits (item h is k) [] t.0) refl }

-- a keep or a drop in its room, its number positive or negative
module _ (p : List ℕ) (at start place : ℕ) (d : List ℤ) where
  pub part_put : (b : Bool) {d' : List ℤ} {got : Number} {z : ℤ} → Numbered (part_kind b) p at → closed_at p (scan 10 (at + 5) (drop (at + 5) p)) ≡ Some got
      → z ≡ pick b (pos got.value) (neg_ℤ (pos got.value)) → d' ≡ placed d place (pos 0 ∷ z ∷ pos 0 ∷ []) → NumberPut p (part_kind b) at start place d d' (record { start = start; next = got.next })
  unfolding kind_key hexes item_of record_of
  part_put true n e f g = number_put p keeping refl at start place d (number_line p keeping refl at refl n e) (g ∙ rw f)
  part_put false n e f g = number_put p dropping refl at start place d (number_line p dropping refl at refl n e) (g ∙ rw f)

-- what stands at a place, and what is left there, as the line's kind and its key are read
module _ (p : List ℕ) (at : ℕ) where
  to_points : (h : Head) (is : List Item) → begins add_key (drop at p) ≡ true → found (key (item h is adding) 0) (drop at p) ≡ found (gap (item h is adding) []) (drop (at + 4) p)
  unfolding key_of kind_key
  to_points h is b = key_on (item h is adding) (drop at p) b ∙ rw (drop-drop 4 at p)

  -- an accepted add line has its key
  pub add_keyed : {start m : ℕ} → Accepting (λ (h : Head). λ (is : List Item). key (item h is adding) 0) p at start m → begins add_key (drop at p) ≡ true
  unfolding key_of kind_key
  add_keyed a = go (begins add_key (drop at p)) refl
    where
      go : (t : Bool) → begins add_key (drop at p) ≡ t → begins add_key (drop at p) ≡ true
      go true e = e
      go false e = absurd (never (sym (key_off (item a.head a.done adding) (drop at p) e) ∙ a.left))

  -- and so it ends in the bytes
  pub add_starts : {start m : ℕ} → Accepting (λ (h : Head). λ (is : List Item). key (item h is adding) 0) p at start m → at < length p
  unfolding finish run
  add_starts a = elim (dec_lt at (length p)) [
    | yes h ↦ h
    | no h ↦ let l : length p ≤ at = omega arith in absurd (never (sym (ap (found (key (item a.head a.done adding) 0)) (drop_of_length-le p l)) ∙ a.left))
  ]

  pub to_text : {start m : ℕ} → begins add_key (drop at p) ≡ true → Accepting (λ (h : Head). λ (is : List Item). key (item h is adding) 0) p at start m → Accepting (λ (h : Head). λ (is : List Item). gap (item h is adding) []) p (at + 4) start m
  to_text b a = record {
    head = a.head;
    done = a.done;
    items = a.items;
    few = a.few;
    place = a.place;
    text = a.text;
    left = sym (to_points a.head a.done b) ∙ a.left;
  }

  -- an accepted item has a line
  pub starts_in : {start m : ℕ} → Accepting open' p at start m → at < length p
  unfolding finish run
  starts_in a = elim (dec_lt at (length p)) [
    | yes h ↦ h
    | no h ↦ let l : length p ≤ at = omega arith in absurd (never (sym (ap (found (open' a.head a.done)) (drop_of_length-le p l)) ∙ a.left))
  ]

  -- the kind by the line's first byte
  same_line : (k : Kind) (h : Head) (is : List Item) → at < length p → kind_of (get_or p at 0) ≡ k → found (open' h is) (drop at p) ≡ found (key (item h is k) 0) (drop at p)
  same_line k h is g f = rw (at_byte p at g) (open_as h is (get_or p at 0) (drop (at + 1) p) ∙ rw f)

  pub to_add : {start m : ℕ} → at < length p → kind_of (get_or p at 0) ≡ adding → Accepting open' p at start m → Accepting (λ (h : Head). λ (is : List Item). key (item h is adding) 0) p at start m
  to_add g f a = record {
    head = a.head;
    done = a.done;
    items = a.items;
    few = a.few;
    place = a.place;
    text = a.text;
    left = sym (same_line adding a.head a.done g f) ∙ a.left;
  }

  pub to_number : (k : Kind) {start m : ℕ} → hexes k ≡ false → length (kind_key k) ≡ 5 → at < length p → kind_of (get_or p at 0) ≡ k → Accepting open' p at start m → Numbered k p at
  to_number k o l g f a = number_stands p k o at l a.head a.done a.items (sym (same_line k a.head a.done g f) ∙ a.left)

-- an add line of an accepted file
module _ (p : List ℕ) (at start place : ℕ) (d : List ℤ) (e : List ℕ) where
  pub add_put : {d' : List ℤ} {e' : List ℕ} {r : Spot} → begins add_key (drop at p) ≡ true → PointsPut p (at + 4) start e e' r → d' ≡ placed d place (pos 1 ∷ pos start ∷ pos (r.start - start) ∷ []) → ItemPut (λ (h : Head). λ (is : List Item). key (item h is adding) 0) p at start place d d' e e' r
  unfolding record_of size texts
  add_put {d'} {e'} {r} b q f = record {
    says = λ h is js x y z g.
        let t = q.says h is js x y z (sym (to_points p at h is b) ∙ g) in
        let w : r.start ≡ start + length t.0 = t.1 in
        let l : r.start - start ≡ length t.0 = omega arith in
        (Add t.0, w, f ∙ rw l, t.2 ∙ rw (append-nil t.0), t.3);
  }

  number_in : (d' : List ℤ) (h : Head) (is js : List Item) (r : Spot) → NumberIn h is js p start place d d' r → ItemIn h is js p start place d d' e e r
  number_in d' h is js r (x, a, b, t, f, g) = (x, omega arith, f, rw t (sym (placed_none e start)), g)

  pub as_number : (k : Kind) {d' : List ℤ} {r : Spot} → at < length p → kind_of (get_or p at 0) ≡ k → NumberPut p k at start place d d' r → ItemPut open' p at start place d d' e e r
  as_number k {d'} {r} g f q = record { says = λ h is js x y z w. number_in d' h is js r (q.says h is js x (sym (same_line p at k h is g f) ∙ w)) }

  pub as_add : {d' : List ℤ} {e' : List ℕ} {r : Spot} → at < length p → kind_of (get_or p at 0) ≡ adding → ItemPut (λ (h : Head). λ (is : List Item). key (item h is adding) 0) p at start place d d' e e' r → ItemPut open' p at start place d d' e e' r
  as_add g f q = record { says = λ h is js x y z w. q.says h is js x y z (sym (same_line p at adding h is g f) ∙ w) }
