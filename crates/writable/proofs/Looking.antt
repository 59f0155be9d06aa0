-- One look at all items: sums, shapes and the length of their lines, where their texts follow one another over all that is lent.
-- What is summed so far and what is left of the text and of the items give the whole length. Assumes nothing.
use mathlib.Core.Path.{◌≡◌, refl, sym, ap, ◌∙◌}
use mathlib.Core.Logic.{◌⊎◌, inl, inr}
use lib.Dec.{leb}
use borrow.Author.Tests.{leb-true}
use mathlib.Core.Bool.{Bool, false}
use mathlib.Core.List.{List, [], ◌∷◌}
use Prim.Native.Nat.{ℕ, zero, suc, ◌+◌, ◌*◌, ◌/◌, ◌≤◌, ◌<◌, zero-le}
use native.Mathlib.Omega.{arith}
use lib.ListN.{length, take, drop, length-append}
use lib.Seq.{drop-drop}
use lib.IntN.{ℤ}
use Rattle.diff.specs.declared.diff.Item.{Item as Lent}
use Rattle.diff.specs.declared.diff.Item.TheVariants.{Retain, Delete, Insert}
use Rattle.diff.specs.Items.{item_at}
use Rattle.diff.proofs.Decoding.{insert_within}
use Rattle.edit_format.specs.Digits.{digits}
use Rattle.edit_format.specs.Items.{Item}
use Rattle.edit_format.specs.Written.{points, item_line, item_lines}
use Rattle.written_lines.specs.Lengths.{cap, further}
use Rattle.written_lines.proofs.Numbers.{few_digits}
use Rattle.written_lines.proofs.Counting.{add_length, points_further, no_point}
use Rattle.writable.specs.Writable.{file_item, file_of}
use Rattle.writable.specs.Passes.{sums_with, keeps, Sound}
use Rattle.writable.specs.declared.Sums.{Sums}
use Rattle.std.specs.Prelude.{Some}
use Rattle.writable.proofs.Checking.{rest, rest_all, rest_at, rest_none, text_length_lem, chosen, Tallying, tally_begins, tally_on, tally_ends, Shaping, shape_begins, shape_on, shape_ends}
use Rattle.writable.proofs.Counting.{number_length}

further_cut : (n : ℕ) (t : List ℕ) → length (further t) ≡ length (further (take n t)) + length (further (drop n t))
unfolding further
further_cut zero t = omega arith
further_cut (suc n) [] = refl
further_cut (suc n) (c ∷ cs) = omega (arith, length-append (digits 16 c) (further cs), length-append (digits 16 c) (further (take n cs)), further_cut n cs)

further_points : (t : List ℕ) → 0 < length t → length (further t) ≡ 1 + length (points t)
unfolding further
further_points [] h = absurd (omega arith)
further_points (c ∷ cs) h = omega (arith, ap length (points_further c cs), length-append (digits 16 c) (further cs))

pub no_text : (t : List ℕ) → length t ≡ 0 → 0 ≡ cap (length (further t))
no_text t e = omega (arith, ap length (no_point t 0 (omega arith)))

pub parted : (t : List ℕ) {p r : ℕ} → (length t ≡ 0 → ⊥) → p ≡ cap (length (points t)) → r ≡ cap (1 + p) → r ≡ cap (length (further t))
parted [] h e f = absurd (h refl)
parted (c ∷ cs) h e f = omega (arith, further_points (c ∷ cs) (omega arith))

-- the items before i: their sums, that none is bad, and with the text before the sums' end the length of their lines
pub record Looking (xs : List ℤ) (text : List ℕ) (s : Sums) (m : ℕ) (j : Bool) (i : ℕ) : Type 0 where
  pub sums : Tallying xs text s i
  pub shape : Shaping xs text j i
  pub most : i ≤ length xs / 3
  pub within : s.added ≤ length text
  pub small : m ≤ 7 * i + s.used
  pub measured :
      length (item_lines (file_of xs text)) + length (further (drop s.added text)) ≡ m + length (further text) + length (item_lines (rest xs text i))

pub look_begins : (xs : List ℤ) (text : List ℕ) → Looking xs text (record { kept = 0; used = 0; added = 0 }) 0 false 0
look_begins xs text = record {
  sums = tally_begins xs text;
  shape = shape_begins xs text;
  most = zero-le;
  within = zero-le;
  small = zero-le;
  measured = omega (arith, ap (λ (l : List Item). length (item_lines l)) (rest_all xs text));
}

next_line : (xs : List ℤ) (text : List ℕ) (i : ℕ) {x : Lent} → i < length xs / 3 → item_at xs (length text) i ≡ x → length (item_lines (rest xs text i)) ≡ length (item_line (file_item text x)) + length (item_lines (rest xs text (i + 1)))
unfolding item_lines
next_line xs text i {x} h e = ap (λ (l : List Item). length (item_lines l)) (rest_at xs text i h e) ∙ length-append (item_line (file_item text x)) (item_lines (rest xs text (i + 1)))

-- what a number adds to the sums
with_number : (x : Lent) (s : Sums) {r : Sums} {n : ℕ} → (x ≡ Retain n) ⊎ (x ≡ Delete n) → Some r ≡ sums_with s x → (r.used ≡ s.used + n) × (r.added ≡ s.added)
unfolding sums_with
with_number x s {n = n} (inl d) g = let c = (chosen (leb (s.used + n) 65535) _ _ (sym (rw d at g))).1 in (ap (λ q. q.used) (sym c), ap (λ q. q.added) (sym c))
with_number x s {n = n} (inr d) g = let c = (chosen (leb (s.used + n) 65535) _ _ (sym (rw d at g))).1 in (ap (λ q. q.used) (sym c), ap (λ q. q.added) (sym c))

module _ {xs : List ℤ} {text : List ℕ} {s : Sums} {m : ℕ} {j : Bool} {i : ℕ} (t : Looking xs text s m j i) where
  module _ {r : Sums} {k : Bool} (h : i < length xs / 3) where
    pub look_number :
        {x : Lent} {n l : ℕ} → item_at xs (length text) i ≡ x → Some k ≡ keeps j x → Some r ≡ sums_with s x → (x ≡ Retain n) ⊎ (x ≡ Delete n)
        → l ≡ cap (5 + length (digits 10 n) + 1) → Looking xs text r (m + l) k (i + 1)
    look_number {x} {n} e f g d w =
        let a : Tallying xs text r (i + 1) = tally_on t.sums h x e g in
        let p = with_number x s d g in
        record {
          sums = a;
          shape = shape_on t.shape h x e f;
          most = omega arith;
          within = omega (arith, p.1, t.within);
          small = omega (arith, p.0, t.small, few_digits 10 n);
          measured = rw p.1 (omega (arith, p.0, t.measured, a.uses, next_line xs text i h e, number_length text d w, few_digits 10 n));
        }

    pub look_insert : {b n : ℕ} → item_at xs (length text) i ≡ Insert b n → Some k ≡ keeps j (Insert b n) → Some r ≡ sums_with s (Insert b n) → b ≡ s.added → Looking xs text r (m + 4) k (i + 1)
    unfolding file_item keeps sums_with
    look_insert {b} {n} e f g d =
        let w : b + n ≤ length text = insert_within xs (length text) i e in
        let p : List ℕ = take n (drop b text) in
        let y : length (further (drop n (drop b text))) ≡ length (further (drop (s.added + n) text)) = ap (λ (l : List ℕ). length (further l)) (drop-drop n b text ∙ ap (λ (z : ℕ). drop (z + n) text) d) in
        let o : length (further (drop b text)) ≡ length (further (drop s.added text)) = ap (λ (z : ℕ). length (further (drop z text))) d in
        let c = chosen (leb (s.added + n) 131070) _ _ (sym g) in
        let z = leb-true 1 n (chosen (leb 1 n) _ _ (sym f)).0 in
        let u : r.used ≡ s.used = ap (λ q. q.used) (sym c.1) in
        let v : r.added ≡ s.added + n = ap (λ q. q.added) (sym c.1) in
        record {
          sums = tally_on t.sums h (Insert b n) e g;
          shape = shape_on t.shape h (Insert b n) e f;
          most = omega arith;
          within = omega arith;
          small = omega (arith, t.small);
          measured = rw v (omega (arith, t.measured, next_line xs text i h e, add_length p, further_points p (omega (arith, text_length_lem xs text i e)), further_cut n (drop b text), y, o));
        }

  pub look_small : length xs / 3 ≤ 8192 → m ≤ 1099511627776
  look_small h = omega (arith, t.small, t.most, t.sums.uses)

  pub look_ends : {b r : ℕ} → length xs / 3 ≤ i → length text ≤ s.added → b ≡ cap (length (further text)) → r ≡ cap (m + b) → Sound (file_of xs text) s r
  unfolding item_lines
  look_ends h g e f = record {
    fits = tally_ends t.sums h;
    good = shape_ends t.shape h;
    lines = omega (arith, t.measured, ap length (no_point text s.added g), ap (λ (l : List Item). length (item_lines l)) (rest_none xs text i h));
  }
