-- The building of the replayed text in a room: what is put, and what the edits that are left will put, is all of it.
-- One law for a run that is put where the last one ended; each kind of item puts such a run. Assumes nothing.
use mathlib.Core.Path.{◌≡◌, refl, sym, ap, ◌∙◌}
use mathlib.Core.List.{List, [], ◌++◌}
use Prim.Native.Nat.{ℕ, ◌+◌, ◌/◌, ◌≤◌, ◌<◌, zero-le}
use native.Mathlib.Omega.{arith}
use lib.ListN.{length, take, drop, length-append}
use lib.Seq.{drop-drop}
use lib.IntN.{ℤ}
use Rattle.room.specs.Placed.{placed, Put}
use Rattle.room.proofs.Placing.{put_none, placed_none, placed_length, placed_more}
use Rattle.string_builder.specs.Builder.{stop_at, Retained}
use Rattle.std.proofs.lemmas.List.{drop_min}
use Rattle.diff.specs.declared.diff.Item.{Item}
use Rattle.diff.specs.declared.diff.Item.TheVariants.{Retain, Delete, Insert, Neither}
use Rattle.diff.specs.Items.{item_at, items_of}
use Rattle.diff.specs.Replay.{edit_of, edits_of, replayed}
use Rattle.diff.proofs.Turns.{rest_all, rest_edits, edits-at, edits_none}

pub record Building (o : List ℕ) (xs : List ℤ) (text out₀ : List ℕ) (i position : ℕ) (out : List ℕ) (at : ℕ) : Type 0 where
  pub within : position ≤ length o
  pub same : length out ≡ length out₀
  pub count : at + length (replayed (drop position o) (rest_edits xs text i)) ≡ length (replayed o (edits_of text (items_of xs (length text))))
  pub stands :
      placed out at (replayed (drop position o) (rest_edits xs text i)) ≡ placed out₀ 0 (replayed o (edits_of text (items_of xs (length text))))

pub build_begins : (o : List ℕ) (xs : List ℤ) (text out : List ℕ) → Building o xs text out 0 0 out 0
build_begins o xs text out = record {
  within = zero-le;
  same = refl;
  count = omega (arith, ap (λ (is : List Item). length (replayed o (edits_of text is))) (rest_all xs (length text)));
  stands = ap (λ (is : List Item). placed out 0 (replayed o (edits_of text is))) (rest_all xs (length text));
}

module _ {o : List ℕ} {xs : List ℤ} {text out₀ : List ℕ} {i position : ℕ} {out : List ℕ} {at : ℕ}
    (h : Building o xs text out₀ i position out at) where
  pub build_ends : length xs / 3 ≤ i → Put (replayed o (edits_of text (items_of xs (length text)))) out₀ 0 out at
  unfolding replayed
  build_ends l =
      let n : replayed (drop position o) (rest_edits xs text i) ≡ [] = ap (replayed (drop position o)) (edits_none xs text i l) in
      record {
        next = omega (arith, h.count, ap length n);
        stands = sym (placed_none out at) ∙ ap (placed out at) (sym n) ∙ h.stands;
      }

  module _ (l : i < length xs / 3) (f : length (replayed o (edits_of text (items_of xs (length text)))) ≤ length out₀) where
    -- an edit that puts s, and leaves the original from a position on
    fits : (s t : List ℕ) → replayed (drop position o) (rest_edits xs text i) ≡ s ++ t → at + length s ≤ length out
    fits s t e = omega (arith, h.count, h.same, simp length-append at (ap length e))

    puts :
        {s out' : List ℕ} {at' : ℕ} (next : ℕ) → next ≤ length o
        → replayed (drop position o) (rest_edits xs text i) ≡ s ++ replayed (drop next o) (rest_edits xs text (i + 1))
        → Put s out at out' at' → Building o xs text out₀ (i + 1) next out' at'
    puts {s} {out'} {at'} next w e p =
        let t = replayed (drop next o) (rest_edits xs text (i + 1)) in
        let r : at + length s ≤ length out = fits s t e in
        record {
          within = w;
          same = ap length p.stands ∙ placed_length out at s r ∙ h.same;
          count = omega (arith, p.next, h.count, simp length-append at (ap length e));
          stands = rw (p.stands, p.next) (placed_more out at s _ (omega arith) ∙ ap (placed out at) (sym e) ∙ h.stands);
        }

    module _ {n : ℕ} (e : item_at xs (length text) i ≡ Retain n) where
      text-retain :
          replayed (drop position o) (rest_edits xs text i)
          ≡ take n (drop position o) ++ replayed (drop (stop_at (length o) position n) o) (rest_edits xs text (i + 1))
      unfolding replayed edit_of
      text-retain =
          ap (replayed (drop position o)) (edits-at xs text i l e)
          ∙ ap (λ (r : List ℕ). take n (drop position o) ++ replayed r (rest_edits xs text (i + 1))) (drop-drop n position o ∙ sym (drop_min (position + n) o))

      pub fits_retain : at + length (take n (drop position o)) ≤ length out
      fits_retain = fits (take n (drop position o)) (replayed (drop (stop_at (length o) position n) o) (rest_edits xs text (i + 1))) text-retain

      pub build-retain :
          {out' : List ℕ} {r at' : ℕ} → Retained o position n out at out' r → at' ≡ at + length (take n (drop position o))
          → Building o xs text out₀ (i + 1) r out' at'
      build-retain p k = puts _ (omega (arith, p.moved)) (rw p.moved text-retain) (record { next = k; stands = p.stands })

    pub build_delete : {n : ℕ} → item_at xs (length text) i ≡ Delete n → Building o xs text out₀ (i + 1) (stop_at (length o) position n) out at
    unfolding replayed edit_of
    build_delete {n} e =
        puts (stop_at (length o) position n) (omega arith)
        (ap (replayed (drop position o)) (edits-at xs text i l e)
        ∙ ap (λ (r : List ℕ). replayed r (rest_edits xs text (i + 1))) (drop-drop n position o ∙ sym (drop_min (position + n) o)))
        (put_none out at)

    module _ {s n : ℕ} (e : item_at xs (length text) i ≡ Insert s n) where
      text_insert :
          replayed (drop position o) (rest_edits xs text i) ≡ take n (drop s text) ++ replayed (drop position o) (rest_edits xs text (i + 1))
      unfolding replayed edit_of
      text_insert = ap (replayed (drop position o)) (edits-at xs text i l e)

      pub fits_insert : at + length (take n (drop s text)) ≤ length out
      fits_insert = fits (take n (drop s text)) (replayed (drop position o) (rest_edits xs text (i + 1))) text_insert

      pub build-insert :
          {out' : List ℕ} {at' : ℕ} → Put (take n (drop s text)) out at out' at' → Building o xs text out₀ (i + 1) position out' at'
      build-insert p = puts position h.within text_insert p

    pub build_neither : item_at xs (length text) i ≡ Neither → Building o xs text out₀ (i + 1) position out at
    unfolding replayed edit_of
    build_neither e = puts position h.within (ap (replayed (drop position o)) (edits-at xs text i l e)) (put_none out at)
