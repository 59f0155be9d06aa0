-- The judging pass: its invariant's start and turn, each way out of the end line, and what a verdict says of the two answers.
-- What is left decides what the file is found to be, so each way out is one step from there. Assumes nothing.
use Rattle.std.specs.Prelude.{Option, Some, None, Ok, Err}
use mathlib.Core.Path.{◌≡◌, refl, sym, ap, ◌∙◌, subst}
use mathlib.Core.Bool.{false}
use mathlib.Core.List.{List, [], ◌∷◌, ◌++◌}
use Prim.Native.Nat.{ℕ, ◌+◌, ◌≤◌, ◌<◌, zero-le}
use native.Mathlib.Omega.{arith}
use lib.ListN.{length, drop, drop_of_length-le, length-append}
use lib.Dec.{eqb}
use borrow.Author.Tests.{eq-eqb, ne_eqb}
use Rattle.refusal.specs.declared.Refusal.{Refusal}
use Rattle.refusal.specs.declared.Refusal.TheVariants.{Line as BadLine}
use Rattle.edit_format.specs.Items.{Item, kept, dropped, added, ends_keep}
use Rattle.edit_format.specs.Written.{Head, end_key}
use Rattle.edit_format.specs.Reading.{Line, ending, key, open', after, line_no, key_of, several, fits, opened, next, step, run, Accepted, Refused, finish, found, read_file, believes}
use Rattle.edit_format.proofs.Finding.{found_bad}
use Rattle.edit_format.proofs.TextLaws.{texts_length}
use Rattle.edit_lines.specs.Scan.{cap, line_at}
use Rattle.edit_read.specs.Judged.{HeadRead, ItemRead, Judging, Judged}
use Rattle.edit_read.specs.Answer.{lengths_of}
use Rattle.edit_lines.specs.declared.Number.{Number}
use Rattle.edit_read.specs.declared.Header.{Header}
use Rattle.edit_read.specs.declared.Sums.{Sums}
use Rattle.edit_read.specs.declared.Accepted.{Accepted as Counted}
use Rattle.edit_lines.proofs.Leaves.{at_byte}
use Rattle.edit_lines.proofs.Scanning.{Lined, lined}

-- before any item
abbrev pub none : ℕ → Sums
none at = record { next = at; used = 0; kept = 0; added = 0; joined = false }

pub begins : {p : List ℕ} {t : Header} → HeadRead p (Ok t) → Judging p t (none t.next) 0
unfolding kept dropped added ends_keep
begins r = record {
  head = r.says.0;
  items = [];
  original = r.says.1;
  result = r.says.2;
  count = r.says.3;
  few = r.says.4;
  many = refl;
  most = zero-le;
  holds = record { used = refl; keeps = refl; text = refl; joined = refl };
  within = record { next = r.says.5; used = zero-le; keeps = zero-le; text = zero-le };
  first = r.says.6;
  left = r.says.6;
}

-- an item line is due
pub opened_more : (h : Head) (is : List Item) → length is < h.count → opened h is ≡ open' h is
unfolding opened
opened_more h is g = rw (ne_eqb (length is) h.count (λ z. omega arith))

-- the end line is due
pub opened_last : (h : Head) (is : List Item) → length is ≡ h.count → opened h is ≡ key (ending h is) 0
unfolding opened
opened_last h is g = rw (eq-eqb (length is) h.count g)

module _ {p : List ℕ} {t : Header} {s : Sums} {i : ℕ} (j : Judging p t s i) where
  here : i < t.count → read_file p ≡ found (open' j.head j.items) (drop s.next p)
  here g = j.left ∙ rw (opened_more j.head j.items (omega (arith, j.many, j.count)))

  pub goes_on : {u : Sums} → i < t.count → ItemRead open' p s (Some u) → Judging p t u (i + 1)
  goes_on {u} g r =
      let q = r.says j.head j.items j.holds (omega (arith, j.many, j.count, j.few)) in
      record {
        head = j.head;
        items = j.items ++ q.0 ∷ [];
        original = j.original;
        result = j.result;
        count = j.count;
        few = j.few;
        many = length-append j.items (q.0 ∷ []) ∙ ap (λ (n : ℕ). n + 1) j.many;
        most = omega arith;
        holds = q.1;
        within = q.2;
        first = j.first;
        left = here g ∙ q.3;
      }

  pub fails : i < t.count → ItemRead open' p s None → Judged p (Err (BadLine (i + 5)))
  fails g r = record { says = (i + 5, refl, here g ∙ r.says j.head j.items j.holds (omega (arith, j.many, j.count, j.few)) ∙ ap (λ (n : ℕ). Refused (n + 5)) j.many) }

-- all items were read
pub whole : {p : List ℕ} {t : Header} {s : Sums} {i : ℕ} → Judging p t s i → t.count ≤ i → Judging p t s t.count
whole {p} {t} {s} {i} j h = let e : i ≡ t.count = omega (arith, j.most) in subst (λ (n : ℕ). Judging p t s n) e j

module _ {p : List ℕ} {t : Header} {s : Sums} (j : Judging p t s t.count) where
  l : Line
  l = ending j.head j.items

  all_read : length j.items ≡ j.head.count
  all_read = j.many ∙ j.count

  at_end : read_file p ≡ found (key l 0) (drop s.next p)
  unfolding l
  at_end = j.left ∙ rw (opened_last j.head j.items all_read)

  end_line : (r : Option Number) → line_at end_key p s.next ≡ r → Lined l p s.next r
  unfolding l key_of several
  end_line r e = rw e at (lined l p s.next refl)

  charged : {why : Refusal} → why ≡ BadLine (t.count + 5) → read_file p ≡ Refused (line_no l) → Judged p (Err why)
  unfolding l line_no
  charged f e = record { says = (t.count + 5, f, e ∙ ap (λ (n : ℕ). Refused (n + 5)) j.many) }

  pub no_end : {why : Refusal} → line_at end_key p s.next ≡ None → why ≡ BadLine (t.count + 5) → Judged p (Err why)
  no_end e f = charged f (at_end ∙ end_line None e)

  pub other_end : {got : Number} {why : Refusal} → line_at end_key p s.next ≡ Some got → (got.value ≡ t.count → ⊥) → why ≡ BadLine (t.count + 5) → Judged p (Err why)
  unfolding l fits
  other_end {got} e n f =
      let d : Lined l p s.next (Some got) = end_line (Some got) e in
      let w : got.value ≡ cap d.0 = d.3 in
      charged f (at_end ∙ d.5 (ne_eqb d.0 j.head.count (λ z. n (omega (arith, j.count, j.few)))))

  module _ {got : Number} (e : line_at end_key p s.next ≡ Some got) (same : got.value ≡ t.count) where
    past : read_file p ≡ found (after j.head j.items) (drop got.next p)
    unfolding l fits next
    past =
        let d : Lined l p s.next (Some got) = end_line (Some got) e in
        let w : got.value ≡ cap d.0 = d.3 in
        at_end ∙ d.4 (eq-eqb d.0 j.head.count (omega (arith, j.count, j.few)))

    pub more_bytes : {why : Refusal} → got.next < length p → why ≡ BadLine (t.count + 6) → Judged p (Err why)
    unfolding run step
    more_bytes g f = record {
      says = (
        t.count + 6,
        f,
        past ∙ ap (found (after j.head j.items)) (at_byte p got.next g) ∙ found_bad (length j.items + 6) (drop (got.next + 1) p)
            ∙ ap (λ (n : ℕ). Refused (n + 6)) j.many,
      );
    }

    summed : length p ≤ got.next → read_file p ≡ finish (after j.head j.items)
    unfolding run
    summed g = past ∙ ap (found (after j.head j.items)) (drop_of_length-le p g)

    pub false_original : {why : Refusal} → length p ≤ got.next → (s.used ≡ t.original → ⊥) → why ≡ BadLine 2 → Judged p (Err why)
    unfolding finish
    false_original g n f = record { says = (2, f, summed g ∙ rw (ne_eqb (kept j.items + dropped j.items) j.head.original (λ z. n (j.holds.used ∙ z ∙ sym j.original)))) }

    pub false_result : {why : Refusal} → length p ≤ got.next → s.used ≡ t.original → (s.kept + s.added ≡ t.result → ⊥) → why ≡ BadLine 3 → Judged p (Err why)
    unfolding finish
    false_result g a n f = record {
      says = (
        3,
        f,
        summed g
            ∙ rw (eq-eqb (kept j.items + dropped j.items) j.head.original (sym j.holds.used ∙ a ∙ j.original), ne_eqb (kept j.items + added j.items) j.head.result (λ z. n (omega (arith, j.holds.keeps, j.holds.text, j.result, j.within.used, j.within.keeps, j.within.text)))),
      );
    }

    pub accepts : length p ≤ got.next → s.used ≡ t.original → s.kept + s.added ≡ t.result → Judged p (Ok (record { items = t.count; text = s.added; original = s.used; first = t.next }))
    unfolding finish
    accepts g a b =
        let f : read_file p ≡ Accepted j.items =
        summed g
        ∙ rw (eq-eqb (kept j.items + dropped j.items) j.head.original (sym j.holds.used ∙ a ∙ j.original), eq-eqb (kept j.items + added j.items) j.head.result (omega (arith, j.holds.keeps, j.holds.text, j.result, j.within.used, j.within.keeps, j.within.text))) in
        record { says = (j.items, j.head, f, sym j.many, j.holds.text, j.holds.used, sym all_read, sym j.first ∙ f) }

-- a header's bad line is the file's
pub bad_header : {p : List ℕ} {e : Refusal} → HeadRead p (Err e) → Judged p (Err e)
bad_header r = record { says = r.says }

-- what a verdict says of the answers
pub lengths_yes : {p : List ℕ} {a : Counted} → Judged p (Ok a) → Ok (record { items = a.items; text = a.text }) ≡ lengths_of (read_file p)
unfolding lengths_of
lengths_yes r = rw (r.says.2, r.says.3, r.says.4, texts_length r.says.0)

pub lengths_no : {p : List ℕ} {e : Refusal} → Judged p (Err e) → Err e ≡ lengths_of (read_file p)
unfolding lengths_of
lengths_no r = rw (r.says.2, r.says.1)

pub believes_yes : {p : List ℕ} {a : Counted} (k : ℕ) → Judged p (Ok a) → eqb a.original k ≡ believes (read_file p) k
unfolding believes
believes_yes k r = rw (r.says.2, r.says.5)

pub believes_no : {p : List ℕ} {e : Refusal} (k : ℕ) → Judged p (Err e) → false ≡ believes (read_file p) k
unfolding believes
believes_no k r = rw r.says.2
