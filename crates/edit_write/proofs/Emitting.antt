-- The lines of items put one after the other: the line of one, and all.
-- The loop says what is put and what is left of the whole. Assumes nothing.
use mathlib.Core.Path.{◌≡◌, refl, sym, ap, ◌∙◌}
use mathlib.Core.List.{List, [], ◌++◌, append_assoc, append-nil}
use Prim.Native.Nat.{ℕ, ◌+◌, ◌-◌, ◌/◌, ◌≤◌, ◌<◌}
use native.Mathlib.Omega.{arith}
use lib.ListN.{length, drop, take, length-append}
use lib.IntN.{ℤ}
use Rattle.room.specs.Placed.{Put}
use Rattle.room.proofs.Placing.{put_none}
use Rattle.diff.specs.declared.diff.Item.{Item as Lent}
use Rattle.diff.specs.declared.diff.Item.TheVariants.{Retain, Delete, Insert, Neither}
use Rattle.diff.specs.Items.{item_at}
use Rattle.diff.proofs.Decoding.{range_part}
use Rattle.edit_format.specs.Items.{Item, Add}
use Rattle.edit_format.specs.Written.{number_line, keep_key, drop_key, item_line, item_lines}
use Rattle.written_lines.proofs.Emitting.{put_length, put_then}
use Rattle.writable.specs.Writable.{file_item, file_of}
use Rattle.writable.proofs.Checking.{rest, rest_all, rest_at, rest_none}

pub record Emitting (xs : List ℤ) (text d : List ℕ) (at : ℕ) (o : List ℕ) (k i : ℕ) : Type 0 where
  pub done : List ℕ
  pub put : Put done d at o k
  pub whole : item_lines (file_of xs text) ≡ done ++ item_lines (rest xs text i)
  pub same : length o ≡ length d

pub emit_begins : (xs : List ℤ) (text d : List ℕ) (at : ℕ) → Emitting xs text d at d at 0
emit_begins xs text d at = record { done = []; put = put_none d at; whole = ap item_lines (rest_all xs text); same = refl }

module _ {xs : List ℤ} {text d : List ℕ} {at : ℕ} {o : List ℕ} {k i : ℕ} (p : Emitting xs text d at o k i) where
  module _ (fits : at + length (item_lines (file_of xs text)) ≤ length d) (h : i < length xs / 3) {x : Lent} (e : item_at xs (length text) i ≡ x) where
    item_left : item_lines (file_of xs text) ≡ (p.done ++ item_line (file_item text x)) ++ item_lines (rest xs text (i + 1))
    unfolding item_lines
    item_left =
        p.whole ∙ ap (λ (l : List Item). p.done ++ item_lines l) (rest_at xs text i h e)
        ∙ sym (append_assoc p.done (item_line (file_item text x)) (item_lines (rest xs text (i + 1))))

    line_in : k + length (item_line (file_item text x)) ≤ length o
    line_in =
        omega (arith, p.put.next, p.same, ap length item_left, length-append (p.done ++ item_line (file_item text x)) (item_lines (rest xs text (i + 1))), length-append p.done (item_line (file_item text x)))

    emit_more : {o' : List ℕ} {k' : ℕ} → Put (item_line (file_item text x)) o k o' k' → Emitting xs text d at o' k' (i + 1)
    emit_more q = record {
      done = p.done ++ item_line (file_item text x);
      put = put_then (omega arith) p.put q;
      whole = item_left;
      same = put_length q line_in ∙ p.same;
    }

  pub emit_ends : length xs / 3 ≤ i → Put (item_lines (file_of xs text)) d at o k
  unfolding item_lines
  emit_ends h = rw (p.whole, rest_none xs text i h, append-nil p.done) p.put

  -- the line of an item that came, by what the item is
  module _ (fits : at + length (item_lines (file_of xs text)) ≤ length d) (h : i < length xs / 3) where
    module _ {n : ℕ} where
      pub retain_in : item_at xs (length text) i ≡ Retain n → k + length (number_line keep_key n) ≤ length o
      unfolding file_item item_line
      retain_in e = line_in fits h e

      pub retain_put : {o' : List ℕ} {k' : ℕ} → item_at xs (length text) i ≡ Retain n → Put (number_line keep_key n) o k o' k' → Emitting xs text d at o' k' (i + 1)
      unfolding file_item item_line
      retain_put e q = emit_more fits h e q

      pub delete_in : item_at xs (length text) i ≡ Delete n → k + length (number_line drop_key n) ≤ length o
      unfolding file_item item_line
      delete_in e = line_in fits h e

      pub delete_put : {o' : List ℕ} {k' : ℕ} → item_at xs (length text) i ≡ Delete n → Put (number_line drop_key n) o k o' k' → Emitting xs text d at o' k' (i + 1)
      unfolding file_item item_line
      delete_put e q = emit_more fits h e q

    module _ {s n : ℕ} (e : item_at xs (length text) i ≡ Insert s n) where
      pub insert_in : k + length (item_line (Add (take (s + n - s) (drop s text)))) ≤ length o
      unfolding file_item
      insert_in = rw (range_part text s n) (line_in fits h e)

      pub insert_put : {o' : List ℕ} {k' : ℕ} → Put (item_line (Add (take (s + n - s) (drop s text)))) o k o' k' → Emitting xs text d at o' k' (i + 1)
      unfolding file_item
      insert_put q = emit_more fits h e (rw (← range_part text s n) q)

    module _ (e : item_at xs (length text) i ≡ Neither) where
      pub neither_in : k + length (item_line (Add [])) ≤ length o
      unfolding file_item
      neither_in = line_in fits h e

      pub neither_put : {o' : List ℕ} {k' : ℕ} → Put (item_line (Add [])) o k o' k' → Emitting xs text d at o' k' (i + 1)
      unfolding file_item
      neither_put q = emit_more fits h e q
