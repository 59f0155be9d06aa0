-- One item line against the reader's steps: a line of a number that fits, one that does not, a line of code points, and the choice of the kind.
-- The sums stand for the items read, so a test of the sums is the line's rule. Assumes nothing.
use Rattle.std.specs.Prelude.{Option, Some, None}
use mathlib.Core.Path.{◌≡◌, refl, sym, ap, ◌∙◌}
use mathlib.Core.Bool.{Bool, true, false, not}
use mathlib.Core.List.{List, [], ◌∷◌, ◌++◌}
use Prim.Native.Nat.{ℕ, ◌+◌, ◌≤◌, ◌<◌}
use native.Mathlib.Omega.{arith}
use lib.ListN.{length, get_or, drop, drop_of_length-le}
use lib.Seq.{drop-drop}
use lib.Dec.{ltb, leb}
use borrow.Author.Tests.{lt-ltb, le-leb, lt-leb, eq-eqb, ne_eqb}
use native.Mathlib.Nat.{add-zero}
use Rattle.room.specs.Choice.{pick}
use Rattle.room.proofs.Choices.{no_way}
use Rattle.room.proofs.Bools.{and_false}
use Rattle.edit_format.specs.Tests.{begins}
use Rattle.edit_format.specs.Items.{Item, Keep, Drop, Add, kept, dropped, added, is_keep, ends_keep}
use Rattle.edit_format.specs.Written.{Head, add_key}
use Rattle.edit_format.specs.Reading.{Kind, keeping, dropping, adding, item, State, key, gap, open', line_no, kind_key, key_of, hexes, several, fits, fits_item, kind_of, item_of, next, finish, run, found}
use Rattle.edit_format.proofs.ReadBack.{kept_append, dropped_append, added_append, ends_snoc}
use Rattle.edit_format.proofs.Finding.{key_on, key_off, open_as}
use Rattle.edit_lines.specs.Scan.{cap, line_at}
use Rattle.edit_read.specs.Judged.{part_kind, PointsRead, Holds, Within, ItemFound, ItemRead}
use Rattle.edit_lines.specs.declared.Number.{Number}
use Rattle.edit_read.specs.declared.Points.{Points}
use Rattle.edit_read.specs.declared.Sums.{Sums}
use Rattle.edit_lines.proofs.Leaves.{at_byte}
use Rattle.edit_lines.proofs.Scanning.{Lined, lined}

-- a line's kind by its first byte
pub kind_keep : (b : ℕ) → b ≡ 107 → kind_of b ≡ keeping
unfolding kind_of
kind_keep b e = rw (eq-eqb b 107 e)

pub kind_drop : (b : ℕ) → b ≡ 100 → kind_of b ≡ dropping
unfolding kind_of
kind_drop b e = rw (ne_eqb b 107 (λ z. omega arith), eq-eqb b 100 e)

pub kind_add : (b : ℕ) → (b ≡ 107 → ⊥) → (b ≡ 100 → ⊥) → kind_of b ≡ adding
unfolding kind_of
kind_add b d e = rw (ne_eqb b 107 d, ne_eqb b 100 e)

-- the line of a kind is read next
abbrev pub Reads : Kind → List ℕ → Sums → Option Sums → Type 0
Reads k = ItemRead (λ (h : Head). λ (is : List Item). key (item h is k) 0)

module _ (p : List ℕ) (s : Sums) (k : Kind) (one : hexes k ≡ false) where
  line : (h : Head) (is : List Item) (r : Option Number) → line_at (kind_key k) p s.next ≡ r → Lined (item h is k) p s.next r
  unfolding key_of several
  line h is r e = rw e at (lined (item h is k) p s.next one)

  pub no_line : line_at (kind_key k) p s.next ≡ None → Reads k p s None
  unfolding line_no
  no_line e = record { says = λ h is o f. line h is None e }

  pub unfit : {got : Number} → line_at (kind_key k) p s.next ≡ Some got → ((is : List Item) → Holds s is → (m : ℕ) → got.value ≡ cap m → fits_item is k [] m ≡ false) → Reads k p s None
  unfolding line_no fits
  unfit {got} e u = record {
    says = λ h is o f.
        let t : Lined (item h is k) p s.next (Some got) = line h is (Some got) e in
        t.5 (rw (u is o t.0 t.3) (and_false (ltb (length is) 8192)));
  }

  pub fit : {got : Number} {t : Sums} → line_at (kind_key k) p s.next ≡ Some got → t.next ≡ got.next → Within p t → ((is : List Item) → Holds s is → (m : ℕ) → got.value ≡ cap m → (fits_item is k [] m ≡ true) × Holds t (is ++ item_of k [] m ∷ [])) → Reads k p s (Some t)
  unfolding next fits
  fit {got} {t} e y w u = record {
    says = λ h is o f.
        let d : Lined (item h is k) p s.next (Some got) = line h is (Some got) e in
        let x = u is o d.0 d.3 in
        (item_of k [] d.0, x.1, w, rw y (d.4 (rw (lt-ltb (length is) 8192 f) x.0)));
  }

-- the sums with one item more
more_holds : (t : Sums) (is : List Item) (x : Item) → t.used ≡ kept (is ++ x ∷ []) + dropped (is ++ x ∷ []) → t.kept ≡ kept (is ++ x ∷ []) → t.added ≡ added (is ++ x ∷ []) → t.joined ≡ is_keep x → Holds t (is ++ x ∷ [])
more_holds t is x a b c d = record { used = a; keeps = b; text = c; joined = d ∙ sym (ends_snoc is x) }

module _ (p : List ℕ) (s : Sums) {got : Number} where
  pub keep_joined : line_at (kind_key keeping) p s.next ≡ Some got → s.joined ≡ true → Reads keeping p s None
  unfolding fits_item hexes
  keep_joined e g = unfit p s keeping refl e (λ is o m w. rw (sym o.joined ∙ g))

  pub keep_none : line_at (kind_key keeping) p s.next ≡ Some got → got.value < 1 → Reads keeping p s None
  unfolding fits_item hexes
  keep_none e g = unfit p s keeping refl e (λ is o m w. rw (lt-leb 1 m (omega arith)) (and_false (not (ends_keep is))))

  pub keep_over : line_at (kind_key keeping) p s.next ≡ Some got → 65535 < s.used + got.value → Reads keeping p s None
  unfolding fits_item hexes
  keep_over e g = unfit p s keeping refl e (λ is o m w. rw (lt-leb (kept is + dropped is + m) 65535 (omega (arith, o.used)), and_false (leb 1 m)) (and_false (not (ends_keep is))))

  pub drop_none : line_at (kind_key dropping) p s.next ≡ Some got → got.value < 1 → Reads dropping p s None
  unfolding fits_item hexes
  drop_none e g = unfit p s dropping refl e (λ is o m w. rw (lt-leb 1 m (omega arith)))

  pub drop_over : line_at (kind_key dropping) p s.next ≡ Some got → 65535 < s.used + got.value → Reads dropping p s None
  unfolding fits_item hexes
  drop_over e g = unfit p s dropping refl e (λ is o m w. rw (lt-leb (kept is + dropped is + m) 65535 (omega (arith, o.used))) (and_false (leb 1 m)))

  -- every number line ends in the bytes
  pub in_bytes : (k : Kind) → hexes k ≡ false → line_at (kind_key k) p s.next ≡ Some got → got.next ≤ length p
  in_bytes k one e = (line p s k one (record { original = 0; result = 0; count = 0 }) [] (Some got) e).2

  pub keep_fits : Within p s → line_at (kind_key keeping) p s.next ≡ Some got → s.joined ≡ false → 1 ≤ got.value → s.used + got.value ≤ 65535
      → Reads keeping p s (Some (record { next = got.next; used = s.used + got.value; kept = s.kept + got.value; added = s.added; joined = true }))
  unfolding fits_item hexes item_of kept dropped added is_keep
  keep_fits w e g a b =
      fit p s keeping refl e refl (record { next = in_bytes keeping refl e; used = b; keeps = omega (arith, w.keeps); text = w.text })
      (λ is o m f. (
        rw (sym o.joined ∙ g, le-leb 1 m (omega arith), le-leb (kept is + dropped is + m) 65535 (omega (arith, o.used))),
        more_holds _ is (Keep m) (omega (arith, o.used, kept_append is (Keep m ∷ []), dropped_append is (Keep m ∷ []))) (omega (arith, o.keeps, kept_append is (Keep m ∷ []))) (omega (arith, o.text, added_append is (Keep m ∷ []))) refl,
      ))

  pub drop_fits : Within p s → line_at (kind_key dropping) p s.next ≡ Some got → 1 ≤ got.value → s.used + got.value ≤ 65535
      → Reads dropping p s (Some (record { next = got.next; used = s.used + got.value; kept = s.kept; added = s.added; joined = false }))
  unfolding fits_item hexes item_of kept dropped added is_keep
  drop_fits w e a b =
      fit p s dropping refl e refl (record { next = in_bytes dropping refl e; used = b; keeps = omega (arith, w.keeps); text = w.text })
      (λ is o m f. (
        rw (le-leb 1 m (omega arith), le-leb (kept is + dropped is + m) 65535 (omega (arith, o.used))),
        more_holds _ is (Drop m) (omega (arith, o.used, kept_append is (Drop m ∷ []), dropped_append is (Drop m ∷ []))) (omega (arith, o.keeps, kept_append is (Drop m ∷ []))) (omega (arith, o.text, added_append is (Drop m ∷ []))) refl,
      ))

-- a keep's line, or a drop's
module _ (p : List ℕ) (s : Sums) where
  pub part_off : (b : Bool) → line_at (kind_key (part_kind b)) p s.next ≡ None → Reads (part_kind b) p s None
  unfolding hexes
  part_off true e = no_line p s keeping refl e
  part_off false e = no_line p s dropping refl e

  pub part_joined : (b : Bool) {got : Number} → line_at (kind_key (part_kind b)) p s.next ≡ Some got → b ≡ true → s.joined ≡ true → Reads (part_kind b) p s None
  part_joined true e f g = keep_joined p s e g
  part_joined false e f g = no_way f

  pub part_none : (b : Bool) {got : Number} → line_at (kind_key (part_kind b)) p s.next ≡ Some got → got.value < 1 → Reads (part_kind b) p s None
  part_none true e g = keep_none p s e g
  part_none false e g = drop_none p s e g

  pub part_over : (b : Bool) {got : Number} → line_at (kind_key (part_kind b)) p s.next ≡ Some got → 65535 < s.used + got.value → Reads (part_kind b) p s None
  part_over true e g = keep_over p s e g
  part_over false e g = drop_over p s e g

  pub part_fits : (b : Bool) {got : Number} {k : ℕ} → Within p s → line_at (kind_key (part_kind b)) p s.next ≡ Some got → (b ≡ true → s.joined ≡ false) → 1 ≤ got.value → s.used + got.value ≤ 65535 → k ≡ pick b got.value 0
      → Reads (part_kind b) p s (Some (record { next = got.next; used = s.used + got.value; kept = s.kept + k; added = s.added; joined = b }))
  part_fits true w e g a b f = rw f (keep_fits p s w e (g refl) a b)
  part_fits false w e g a b f = rw (f, add-zero) (drop_fits p s w e a b)

module _ (p : List ℕ) (s : Sums) where
  pub add_off : begins add_key (drop s.next p) ≡ false → Reads adding p s None
  unfolding key_of kind_key line_no
  add_off e = record { says = λ h is o f. key_off (item h is adding) (drop s.next p) e }

  add_on : (h : Head) (is : List Item) → begins add_key (drop s.next p) ≡ true → found (key (item h is adding) 0) (drop s.next p) ≡ found (gap (item h is adding) []) (drop (s.next + 4) p)
  unfolding key_of kind_key
  add_on h is e = key_on (item h is adding) (drop s.next p) e ∙ rw (drop-drop 4 s.next p)

  pub add_fails : begins add_key (drop s.next p) ≡ true → PointsRead p (s.next + 4) s.added None → Reads adding p s None
  add_fails e r = record { says = λ h is o f. add_on h is e ∙ r.says h is (sym o.text) f }

  pub add_fits : {t : Points} → Within p s → begins add_key (drop s.next p) ≡ true → PointsRead p (s.next + 4) s.added (Some t)
      → Reads adding p s (Some (record { next = t.next; used = s.used; kept = s.kept; added = s.added + t.count; joined = false }))
  unfolding kept dropped added is_keep
  add_fits {t} w e r = record {
    says = λ h is o f.
        let q = r.says h is (sym o.text) f in
        let l : length q.0 ≡ t.count = q.1 in
        let x : Item = Add q.0 in (
          x,
          more_holds _ is x (omega (arith, o.used, kept_append is (x ∷ []), dropped_append is (x ∷ []))) (omega (arith, o.keeps, kept_append is (x ∷ []))) (omega (arith, o.text, added_append is (x ∷ []))) refl,
          record { next = r.fit.1; used = w.used; keeps = w.keeps; text = r.fit.0 },
          add_on h is e ∙ q.2,
        );
  }

  swap : (a b : State) (h : Head) (is : List Item) (r : Option Sums) → found a (drop s.next p) ≡ found b (drop s.next p) → ItemFound b h is p s r → ItemFound a h is p s r
  swap a b h is (Some t) e (x, o, w, q) = (x, o, w, e ∙ q)
  swap a b h is None e q = e ∙ q

  -- the kind by the line's first byte
  pub as_kind : (k : Kind) {r : Option Sums} → s.next < length p → kind_of (get_or p s.next 0) ≡ k → Reads k p s r → ItemRead open' p s r
  as_kind k {r} h e q = record { says = λ g is o f. swap (open' g is) (key (item g is k) 0) g is r (same_line g is) (q.says g is o f) }
    where
      same_line : (g : Head) (is : List Item) → found (open' g is) (drop s.next p) ≡ found (key (item g is k) 0) (drop s.next p)
      same_line g is = rw (at_byte p s.next h) (open_as g is (get_or p s.next 0) (drop (s.next + 1) p) ∙ rw e)

  pub cut_off : length p ≤ s.next → ItemRead open' p s None
  unfolding finish run
  cut_off h = record { says = λ g is o f. ap (found (open' g is)) (drop_of_length-le p h) }
