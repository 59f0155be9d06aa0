-- The header's four lines, one law for each way out of them.
-- Each good line hands the whole file's finding on to what is left after it. Assumes nothing.
use Rattle.std.specs.Prelude.{Option, Some, None, Ok, Err}
use mathlib.Core.Path.{◌≡◌, refl, ◌∙◌}
use mathlib.Core.Bool.{false}
use mathlib.Core.List.{List}
use Prim.Native.Nat.{ℕ, ◌≤◌, ◌<◌}
use native.Mathlib.Omega.{arith}
use lib.ListN.{length, drop}
use borrow.Author.Tests.{le-leb, lt-leb, eq-eqb, ne_eqb}
use Rattle.refusal.specs.declared.Refusal.{Refusal}
use Rattle.refusal.specs.declared.Refusal.TheVariants.{Line as BadLine}
use Rattle.edit_format.specs.Written.{Head, form_key, original_key, result_key, items_key}
use Rattle.edit_format.specs.Reading.{Line, form, original, result, items, key, line_no, key_of, several, fits, next, found, read_file}
use Rattle.edit_lines.specs.Scan.{cap, line_at}
use Rattle.edit_read.specs.Judged.{HeadRead}
use Rattle.edit_lines.specs.declared.Number.{Number}
use Rattle.edit_lines.proofs.Scanning.{Lined, lined}

module _ (p : List ℕ) where
  line : (l : Line) (at : ℕ) (r : Option Number) → several l ≡ false → line_at (key_of l) p at ≡ r → Lined l p at r
  line l at r o e = rw e at (lined l p at o)

  -- a number line of the header ends in the bytes
  pub ends_in : {got : Number} (l : Line) (at : ℕ) → several l ≡ false → line_at (key_of l) p at ≡ Some got → got.next ≤ length p
  ends_in {got} l at o e = (line l at (Some got) o e).2

  pub no_form : {why : Refusal} → line_at form_key p 0 ≡ None → why ≡ BadLine 1 → HeadRead p (Err why)
  unfolding read_file key_of several line_no
  no_form e f = record { says = (1, f, line form 0 None refl e) }

  pub other_form : {got : Number} {why : Refusal} → line_at form_key p 0 ≡ Some got → (got.value ≡ 1 → ⊥) → why ≡ BadLine 1 → HeadRead p (Err why)
  unfolding read_file key_of several line_no fits
  other_form {got} e n f =
      let t : Lined form p 0 (Some got) = line form 0 (Some got) refl e in
      record { says = (1, f, t.5 (ne_eqb t.0 1 (λ z. n (t.3 ∙ rw z)))) }

  pub form_read : {got : Number} → line_at form_key p 0 ≡ Some got → got.value ≡ 1 → read_file p ≡ found (key original 0) (drop got.next p)
  unfolding read_file key_of several fits next
  form_read {got} e n =
      let t : Lined form p 0 (Some got) = line form 0 (Some got) refl e in
      let w : got.value ≡ cap t.0 = t.3 in
      t.4 (eq-eqb t.0 1 (omega arith))

  module _ (a : ℕ) (here : read_file p ≡ found (key original 0) (drop a p)) where
    pub no_original : {why : Refusal} → line_at original_key p a ≡ None → why ≡ BadLine 2 → HeadRead p (Err why)
    unfolding key_of several line_no
    no_original e f = record { says = (2, f, here ∙ line original a None refl e) }

    pub long_original : {got : Number} {why : Refusal} → line_at original_key p a ≡ Some got → 65535 < got.value → why ≡ BadLine 2 → HeadRead p (Err why)
    unfolding key_of several line_no fits
    long_original {got} e n f =
        let t : Lined original p a (Some got) = line original a (Some got) refl e in
        let w : got.value ≡ cap t.0 = t.3 in
        record { says = (2, f, here ∙ t.5 (lt-leb t.0 65535 (omega arith))) }

    pub original_read : {got : Number} → line_at original_key p a ≡ Some got → got.value ≤ 65535 → read_file p ≡ found (key (result got.value) 0) (drop got.next p)
    unfolding key_of several fits next
    original_read {got} e n =
        let t : Lined original p a (Some got) = line original a (Some got) refl e in
        let w : got.value ≡ cap t.0 = t.3 in
        let x : got.value ≡ t.0 = omega arith in
        rw x (here ∙ t.4 (le-leb t.0 65535 (omega arith)))

  module _ (o a : ℕ) (here : read_file p ≡ found (key (result o) 0) (drop a p)) where
    pub no_result : {why : Refusal} → line_at result_key p a ≡ None → why ≡ BadLine 3 → HeadRead p (Err why)
    unfolding key_of several line_no
    no_result e f = record { says = (3, f, here ∙ line (result o) a None refl e) }

    pub result_read : {got : Number} → line_at result_key p a ≡ Some got → (m : ℕ) × (got.value ≡ cap m) × (read_file p ≡ found (key (items o m) 0) (drop got.next p))
    unfolding key_of several fits next
    result_read {got} e =
        let t : Lined (result o) p a (Some got) = line (result o) a (Some got) refl e in
        (t.0, t.3, here ∙ t.4 refl)

  module _ (o m a : ℕ) (here : read_file p ≡ found (key (items o m) 0) (drop a p)) where
    pub no_items : {why : Refusal} → line_at items_key p a ≡ None → why ≡ BadLine 4 → HeadRead p (Err why)
    unfolding key_of several line_no
    no_items e f = record { says = (4, f, here ∙ line (items o m) a None refl e) }

    pub many_items : {got : Number} {why : Refusal} → line_at items_key p a ≡ Some got → 8192 < got.value → why ≡ BadLine 4 → HeadRead p (Err why)
    unfolding key_of several line_no fits
    many_items {got} e n f =
        let t : Lined (items o m) p a (Some got) = line (items o m) a (Some got) refl e in
        let w : got.value ≡ cap t.0 = t.3 in
        record { says = (4, f, here ∙ t.5 (lt-leb t.0 8192 (omega arith))) }

    pub items_read : {u : ℕ} {got : Number} → u ≡ cap m → line_at items_key p a ≡ Some got → got.value ≤ 8192 → HeadRead p (Ok (record { original = o; result = u; count = got.value; next = got.next }))
    unfolding key_of several fits next
    items_read {u} {got} f e n =
        let t : Lined (items o m) p a (Some got) = line (items o m) a (Some got) refl e in
        let w : got.value ≡ cap t.0 = t.3 in
        let x : got.value ≡ t.0 = omega arith in
        let h : Head = record { original = o; result = m; count = got.value } in
        record { says = (h, refl, f, refl, n, t.2, rw x (here ∙ t.4 (le-leb t.0 8192 (omega arith)))) }
