-- The walk that writes: what it keeps, its beginning, the ways through a turn, and its end.
-- The rooms with what is still to be put into them are the answer. Assumes nothing.
use Prim.Native.Nat.{ℕ, suc, ◌+◌, ◌-◌, ◌*◌, ◌/◌, ◌%◌, ◌≤◌, ◌<◌, min}
use mathlib.Core.Path.{◌≡◌, refl, sym, ◌∙◌, ap}
use mathlib.Core.Bool.{Bool, true, false, ◌&&◌, not}
use mathlib.Core.List.{List, [], ◌∷◌, ◌++◌}
use native.Mathlib.Omega.{arith}
use native.Mathlib.Nat.{zero-add}
use lib.ListN.{length, get_or, length-append}
use lib.Dec.{eqb}
use Rattle.room.specs.Placed.{placed, answered}
use Rattle.room.proofs.Answers.{at_start}
use Rattle.records.specs.declared.Operation.{Operation}
use Rattle.records.specs.Operations.{flat_operations}
use Rattle.records.specs.Tokens.{tokens_from}
use Rattle.records.proofs.OperationLaws as O
use Rattle.sizes.specs.Texts.{run_text}
use Rattle.raw_lists.specs.declared.Raw.{Raw}
use Rattle.raw_lists.specs.Raws.{Piece, pieces_from, pieces_lent, flat_spans, flat_keys, flat_joins, run_of, runs_of}
use Rattle.raw_lists.specs.Good.{GoodRaw, AllGood, counts}
use Rattle.raw_lists.proofs.Pieces.{length_pieces, length_spans, length_keys, length_joins, spans_append, keys_append, joins_append}
use Rattle.elongate.specs.declared.Current.{Current}
use Rattle.elongate.specs.Elongated.{last_right, first_left, joinable, pieces_length, consumes, all_tokens}
use Rattle.elongate.specs.Currents.{none, extended, fresh, closed, cooked_on}
use Rattle.elongate.specs.Writes.{Fits, Appended, Closed, Ready, Wrote}
use Rattle.room.proofs.Placing.{placed_none, placed_length}
use Rattle.elongate.proofs.Placing.{goes_on}
use Rattle.elongate.proofs.Lengths.{pieces_append, run_sum, first_left_lem, last_right_lem}
use Rattle.elongate.proofs.Cooking.{cooks_joined, cooks_apart, consumes_most}

-- one room: what it holds with the rest put behind is the answer x, and it has room for the rest
pub record Room (d : List ℕ) (a : ℕ) (rest x d₀ : List ℕ) : Type 0 where
  pub same : length d ≡ length d₀
  pub fits : a + length rest ≤ length d
  pub whole : placed d a rest ≡ answered x d₀

room_begins : (d x : List ℕ) (a : ℕ) → a ≡ 0 → length x ≤ length d → Room d a x x d
room_begins d x a e h = record { same = refl; fits = omega arith; whole = rw e (at_start x d) }

room_on : (d d' s t x d₀ : List ℕ) (a b : ℕ) → Room d a (s ++ t) x d₀ → d' ≡ placed d a s → b ≡ a + length s → Room d' b t x d₀
room_on d d' s t x d₀ a b h e f =
    let l : a + (length s + length t) ≤ length d = rw (length-append s t) at h.fits in
    let g : length d' ≡ length d = rw e (placed_length d a s (omega arith)) in
    record { same = omega (arith, h.same); fits = omega arith; whole = goes_on d d' s t (answered x d₀) a b e f (omega arith) h.whole }

room_ends : (d x d₀ : List ℕ) (a : ℕ) → Room d a [] x d₀ → d ≡ answered x d₀
room_ends d x d₀ a h = sym (placed_none d a) ∙ h.whole

-- ls is still to be taken of rs, c is the current operation, w operations are written
pub record Walking (spans keys joins : List ℕ) (n : ℕ) (rs : List Raw) (o₀ s₀ k₀ j₀ : List ℕ) (ls : List Raw) (c : Current) (w : ℕ) (o s k j : List ℕ) : Type 0 where
  pub good : AllGood n spans keys joins ls
  pub small : c.order + c.length + pieces_length (all_tokens (runs_of spans keys joins ls)) ≤ 900000
  pub written : w + length (cooked_on c (runs_of spans keys joins ls)) ≡ length (cooked_on none (runs_of spans keys joins rs))
  pub taken : c.first + c.count + counts ls ≡ counts rs
  pub few : counts rs ≤ 900000
  pub room_o : Room o (w * 6) (flat_operations (cooked_on c (runs_of spans keys joins ls))) (flat_operations (cooked_on none (runs_of spans keys joins rs))) o₀
  pub room_s : Room s ((c.first + c.count) * 2) (flat_spans (all_tokens (runs_of spans keys joins ls))) (flat_spans (all_tokens (runs_of spans keys joins rs))) s₀
  pub room_k : Room k (c.first + c.count) (flat_keys (all_tokens (runs_of spans keys joins ls))) (flat_keys (all_tokens (runs_of spans keys joins rs))) k₀
  pub room_j : Room j (c.first + c.count) (flat_joins (all_tokens (runs_of spans keys joins ls))) (flat_joins (all_tokens (runs_of spans keys joins rs))) j₀

-- as many tokens as are claimed
pub length_tokens : (spans keys joins : List ℕ) (rs : List Raw) → length (all_tokens (runs_of spans keys joins rs)) ≡ counts rs
unfolding all_tokens runs_of counts
length_tokens spans keys joins [] = refl
length_tokens spans keys joins (r ∷ rs) =
    rw (length-append (pieces_from spans keys joins r.first r.count) (all_tokens (runs_of spans keys joins rs)), length_pieces, length_tokens spans keys joins rs)

module _ {spans keys joins : List ℕ} {n : ℕ} {rs : List Raw} {o₀ s₀ k₀ j₀ : List ℕ} where
  pub walk_starts : Ready spans keys joins n rs o₀ s₀ k₀ j₀ → Walking spans keys joins n rs o₀ s₀ k₀ j₀ rs none 0 o₀ s₀ k₀ j₀
  walk_starts h =
      let t = length_tokens spans keys joins rs in
      record {
        good = h.good;
        small = omega (arith, h.small);
        written = zero-add (length (cooked_on none (runs_of spans keys joins rs)));
        taken = omega arith;
        few = h.few;
        room_o = room_begins o₀ _ _ refl (omega (arith, h.operations, O.length_flat (cooked_on none (runs_of spans keys joins rs))));
        room_s = room_begins s₀ _ _ refl (omega (arith, h.in_spans, length_spans (all_tokens (runs_of spans keys joins rs))));
        room_k = room_begins k₀ _ _ refl (omega (arith, h.in_keys, length_keys (all_tokens (runs_of spans keys joins rs))));
        room_j = room_begins j₀ _ _ refl (omega (arith, h.in_joins, length_joins (all_tokens (runs_of spans keys joins rs))));
      }

  module _ {r : Raw} {ls : List Raw} {c : Current} {w : ℕ} {o s k j : List ℕ} (h : Walking spans keys joins n rs o₀ s₀ k₀ j₀ (r ∷ ls) c w o s k j) where
    ps : List Piece
    ps = pieces_from spans keys joins r.first r.count

    rest : List Piece
    rest = all_tokens (runs_of spans keys joins ls)

    good_run : GoodRaw n spans keys joins r
    unfolding AllGood
    good_run = h.good.0

    many : length ps ≡ r.count
    unfolding ps
    many = length_pieces spans keys joins r.first r.count

    sums : c.order + c.length + (pieces_length ps + pieces_length rest) ≤ 900000
    unfolding ps rest runs_of all_tokens
    sums = rw (pieces_append ps rest) at h.small

    left_over : c.first + c.count + (r.count + counts ls) ≡ counts rs
    unfolding counts
    left_over = h.taken

    -- what the callees of a turn ask

    pub appends : Fits spans keys joins r s k j (c.first + c.count)
    unfolding ps rest runs_of all_tokens
    appends =
        let a = length-append ps rest in
        record {
          lent = good_run.lent;
          in_spans = omega (arith, h.room_s.fits, length_spans (ps ++ rest), many);
          in_keys = omega (arith, h.room_k.fits, length_keys (ps ++ rest), many);
          in_joins = omega (arith, h.room_j.fits, length_joins (ps ++ rest), many);
        }

    pub lent_run : r.first + r.count ≤ pieces_lent spans keys joins
    lent_run = good_run.lent

    pub some_run : 0 < r.count
    some_run = good_run.some

    pub tokens_most : c.first + c.count + r.count ≤ 900000
    tokens_most = omega (arith, left_over, h.few)

    module _ {len : ℕ} (e : len ≡ min 1000000 (run_text n (tokens_from spans keys r.first r.count))) where
      exact : len ≡ pieces_length ps
      unfolding ps
      exact = run_sum n spans keys joins r len good_run (omega (arith, sums)) e

      pub sums_most : c.order + c.length + len ≤ 900000
      sums_most = omega (arith, sums, exact)

      module _ {left right : Bool} (el : left ≡ eqb (get_or joins r.first 0 % 2) 1) (er : right ≡ eqb (get_or joins (r.first + r.count - 1) 0 / 2 % 2) 1) where
        begins_left : first_left ps ≡ left
        unfolding ps
        begins_left = first_left_lem spans keys joins r.first r.count good_run.some ∙ sym el

        ends_right : last_right ps ≡ right
        unfolding ps
        ends_right =
            let a : r.count ≡ suc (r.count - 1) = omega (arith, good_run.some) in
            let b : r.first + (r.count - 1) ≡ r.first + r.count - 1 = omega (arith, good_run.some) in
            let z : last_right (pieces_from spans keys joins r.first (suc (r.count - 1))) ≡ eqb (get_or joins (r.first + r.count - 1) 0 / 2 % 2) 1 =
            rw (← b) (last_right_lem spans keys joins r.first (r.count - 1))
            in
            ap (λ (m : ℕ). last_right (pieces_from spans keys joins r.first m)) a ∙ (z ∙ sym er)

        module _ {s' k' j' : List ℕ} (a : Appended (pieces_from spans keys joins r.first r.count) (c.first + c.count) s k j s' k' j') where
          next_s : (b : ℕ) → b ≡ (c.first + c.count + r.count) * 2 → Room s' b (flat_spans rest) (flat_spans (all_tokens (runs_of spans keys joins rs))) s₀
          unfolding ps rest runs_of all_tokens
          next_s b eb =
              room_on s s' (flat_spans ps) (flat_spans rest) (flat_spans (all_tokens (runs_of spans keys joins rs))) s₀ ((c.first + c.count) * 2) b
              (rw (spans_append ps rest) at h.room_s) a.in_spans (omega (arith, length_spans ps, many))

          next_k : (b : ℕ) → b ≡ c.first + c.count + r.count → Room k' b (flat_keys rest) (flat_keys (all_tokens (runs_of spans keys joins rs))) k₀
          unfolding ps rest runs_of all_tokens
          next_k b eb =
              room_on k k' (flat_keys ps) (flat_keys rest) (flat_keys (all_tokens (runs_of spans keys joins rs))) k₀ (c.first + c.count) b
              (rw (keys_append ps rest) at h.room_k) a.in_keys (omega (arith, length_keys ps, many))

          next_j : (b : ℕ) → b ≡ c.first + c.count + r.count → Room j' b (flat_joins rest) (flat_joins (all_tokens (runs_of spans keys joins rs))) j₀
          unfolding ps rest runs_of all_tokens
          next_j b eb =
              room_on j j' (flat_joins ps) (flat_joins rest) (flat_joins (all_tokens (runs_of spans keys joins rs))) j₀ (c.first + c.count) b
              (rw (joins_append ps rest) at h.room_j) a.in_joins (omega (arith, length_joins ps, many))

          -- the run joins the current operation
          pub walk_joins : {c' : Current} → (eqb c.kind r.kind && not (eqb c.kind 2)) && (c.right && left) ≡ true → c' ≡ extended c len r.count right
              → Walking spans keys joins n rs o₀ s₀ k₀ j₀ ls c' w o s' k' j'
          unfolding AllGood rest ps runs_of
          walk_joins {c'} t ec =
              let u : joinable c.kind c.right (run_of spans keys joins r) ≡ true = rw (begins_left) t in
              let v : cooked_on c (runs_of spans keys joins (r ∷ ls)) ≡ cooked_on c' (runs_of spans keys joins ls) =
              cooks_joined c (run_of spans keys joins r) (runs_of spans keys joins ls) u ∙ rw (ec, exact, ends_right, many)
              in
              let x : c'.first + c'.count ≡ c.first + c.count + r.count = rw ec (omega arith) in
              let y : c'.order + c'.length ≡ c.order + (c.length + len) = rw ec in
              record {
                good = h.good.1;
                small = omega (arith, sums, exact, y);
                written = rw v at h.written;
                taken = omega (arith, left_over, x);
                few = h.few;
                room_o = rw v at h.room_o;
                room_s = next_s ((c'.first + c'.count) * 2) (rw x);
                room_k = next_k (c'.first + c'.count) x;
                room_j = next_j (c'.first + c'.count) x;
              }

          -- the current operation is closed, and the run is the next
          pub walk_parts : {c' : Current} {w' : ℕ} {o' : List ℕ} → (eqb c.kind r.kind && not (eqb c.kind 2)) && (c.right && left) ≡ false → Closed c w o o' w'
              → c' ≡ fresh c r.kind len r.count right → Walking spans keys joins n rs o₀ s₀ k₀ j₀ ls c' w' o' s' k' j'
          unfolding AllGood rest ps runs_of
          walk_parts {c'} {w'} {o'} t q ec =
              let u : joinable c.kind c.right (run_of spans keys joins r) ≡ false = rw (begins_left) t in
              let v : cooked_on c (runs_of spans keys joins (r ∷ ls)) ≡ closed c ++ cooked_on c' (runs_of spans keys joins ls) =
              cooks_apart c (run_of spans keys joins r) (runs_of spans keys joins ls) u ∙ rw (ec, exact, ends_right, many)
              in
              let z = rw (v, length-append (closed c) (cooked_on c' (runs_of spans keys joins ls))) at h.written in
              let x : c'.first + c'.count ≡ c.first + c.count + r.count = rw ec in
              let y : c'.order + c'.length ≡ c.order + consumes c.kind c.length + len = rw ec in
              record {
                good = h.good.1;
                small = omega (arith, sums, exact, y, consumes_most c.kind c.length);
                written = omega (arith, z, q.next);
                taken = omega (arith, left_over, x);
                few = h.few;
                room_o =
                    room_on o o' (flat_operations (closed c)) (flat_operations (cooked_on c' (runs_of spans keys joins ls)))
                    (flat_operations (cooked_on none (runs_of spans keys joins rs))) o₀ (w * 6) (w' * 6)
                    (rw (v, O.flat_append (closed c) (cooked_on c' (runs_of spans keys joins ls))) at h.room_o) q.stands
                    (omega (arith, q.next, O.length_flat (closed c)));
                room_s = next_s ((c'.first + c'.count) * 2) (rw x);
                room_k = next_k (c'.first + c'.count) x;
                room_j = next_j (c'.first + c'.count) x;
              }

        pub parts_fits : (eqb c.kind r.kind && not (eqb c.kind 2)) && (c.right && left) ≡ false → (w + length (closed c)) * 6 ≤ length o
        unfolding ps runs_of
        parts_fits t =
            let u : joinable c.kind c.right (run_of spans keys joins r) ≡ false = rw (begins_left) t in
            let more : List Operation = cooked_on (fresh c r.kind (pieces_length ps) (length ps) (last_right ps)) (runs_of spans keys joins ls) in
            let v : cooked_on c (runs_of spans keys joins (r ∷ ls)) ≡ closed c ++ more = cooks_apart c (run_of spans keys joins r) (runs_of spans keys joins ls) u in
            let f = rw v at h.room_o.fits in
            omega (arith, f, O.length_flat (closed c ++ more), length-append (closed c) more)

  module _ {c : Current} {w : ℕ} {o s k j : List ℕ} (h : Walking spans keys joins n rs o₀ s₀ k₀ j₀ [] c w o s k j) where
    pub ends_fits : (w + length (closed c)) * 6 ≤ length o
    unfolding cooked_on runs_of
    ends_fits = omega (arith, h.room_o.fits, O.length_flat (closed c))

    pub walk_ends : {w' : ℕ} {o' : List ℕ} → Closed c w o o' w'
        → Wrote spans keys joins rs o₀ s₀ k₀ j₀ o' s k j (record { operations = w'; tokens = c.first + c.count })
    unfolding cooked_on runs_of all_tokens flat_spans flat_keys flat_joins counts
    walk_ends q =
        record {
          operations = q.next ∙ h.written;
          tokens = omega (arith, h.taken);
          stand = q.stands ∙ h.room_o.whole;
          in_spans = room_ends s _ s₀ _ h.room_s;
          in_keys = room_ends k _ k₀ _ h.room_k;
          in_joins = room_ends j _ j₀ _ h.room_j;
        }
