-- Shown: where the lost front of an operation stands. It ends within the merged text and starts no earlier than any cursor of its side was put before, so that cursors keep their order and none leaves the text.
-- How: `back` says how far before the end of the merged text the next shared text of a side may start; each turn keeps "the cursors put so far are that far from the end", by the kind of the operation and what the other side remembers.
use Prim.Native.Nat.{ℕ, ◌+◌, ◌-◌, min, ◌≤◌, ◌<◌}
use mathlib.Core.Path.{◌≡◌, refl}
use mathlib.Core.Bool.{true, false}
use mathlib.Core.List.{List, [], ◌∷◌, ◌++◌}
use native.Mathlib.Omega.{arith}
use native.Mathlib.Decide.{dec_lt, ℕ_discrete}
use native.Mathlib.Nat.{add-zero}
use lib.Dec.{leb}
use lib.ListN.{drop}
use lib.Seq.{slice}
use borrow.Author.Tests.{le-leb, lt-leb}
use Rattle.overlap.specs.declared.Range.{Range}
use Rattle.merging.specs.declared.Op.{Op}
use Rattle.merging.specs.declared.Op.TheVariants.{Delete, Insert, Retain}
use Rattle.merging.specs.Lent.{Lent, Rules, Lawful, keys_of, lengths_of, sum}
use Rattle.merging.specs.Operations.{length_of}
use Rattle.merging.specs.Meeting.{kept_length, front_of, Remembered, nothing, deleted, retained, inserted, lost_of, met_of, other_of, remember_of, width_of}
use Rattle.merging.specs.Cursors.{Fine, overlap_place, place_of, removed_of, shift_of, moved_index}
use Rattle.merging.proofs.Sums.{sum_nil, sum_append, sum_drop, sum_part, lengths_split, keys_short}
use Rattle.merging.proofs.Meetings.{place_none, place_some, used_all, used_rest, appended_same, appended_new}
use Rattle.merging.proofs.Moving.{index_within, index_shared}
use Rattle.merging.proofs.OneTurn.{Held, Good, place_after, keep_behind, keep_some, lost_r_is, held_any, tiled_le}

-- how far before the end of the merged text the next shared text of a side that stands at p may start: v is remembered of the
-- other side, which stands at q
abbrev pub back : Remembered → ℕ → ℕ → ℕ
back nothing p q = 0
back (deleted o l) p q = 0
back (retained o l) p q = q - p
back (inserted o ks ls) p q = elim (leb p q) [ true ↦ sum ls | false ↦ 0 ]

module _ (o : ℕ) (ks ls : List ℕ) (p q : ℕ) where
  back_at : p ≤ q → back (inserted o ks ls) p q ≡ sum ls
  back_at h = rw (le-leb p q h, back)

  back_past : q < p → back (inserted o ks ls) p q ≡ 0
  back_past h = rw (lt-leb p q h, back)

  back_most : back (inserted o ks ls) p q ≤ sum ls
  back_most = elim (dec_lt q p) [ yes h ↦ omega (arith, back_past h) | no h ↦ omega (arith, back_at (omega arith)) ]

-- a turn of the operation b, already cut, of a side that then stands at `at`. The merged text was m long; cursors of its side stood
-- at most at h, those of the other side, which stands at q, at most at k
pub record Roomed (R : Rules) (b : Op) (u v : Remembered) (q at m h k : ℕ) : Type 0 where
  pub fine : (seen : ℕ) → Fine (shift_of R b v seen m)
  pub rest : length_of R.lent b ≡ removed_of R b (lost_of R b v) + length_of R.lent (met_of R b v)
  pub low : h ≤ (place_of R b v m).start
  -- the cursors of its side now stand at most at top
  pub top : ℕ
  pub grows : h ≤ top
  pub most : top ≤ m + length_of R.lent (met_of R b v)
  pub cap : (seen i : ℕ) → i ≤ seen + length_of R.lent b → moved_index (shift_of R b v seen m) i ≤ top
  pub own : top + back (other_of R b v) at q ≤ m + length_of R.lent (met_of R b v)
  pub other : k + back (remember_of R.lent u (met_of R b v)) q at ≤ m + length_of R.lent (met_of R b v)

-- a turn after which its side's next shared text starts at the end of the merged text
module _ (R : Rules) (b : Op) (u v : Remembered) (q at m h k : ℕ) where
  simple : ((seen : ℕ) → Fine (shift_of R b v seen m)) → length_of R.lent b ≡ removed_of R b (lost_of R b v) + length_of R.lent (met_of R b v)
      → h ≤ (place_of R b v m).start → back (other_of R b v) at q ≡ 0
      → k + back (remember_of R.lent u (met_of R b v)) q at ≤ m + length_of R.lent (met_of R b v) → Roomed R b u v q at m h k
  unfolding shift_of
  simple f r l z o =
      record {
        fine = f;
        rest = r;
        low = l;
        top = m + length_of R.lent (met_of R b v);
        grows = omega (arith, (f 0).within);
        most = omega arith;
        cap = λ seen i g. omega (arith, index_within (shift_of R b v seen m) (f seen) i g);
        own = omega arith;
        other = o;
      }

-- a delete moves no cursor
behind_delete : (o l : ℕ) (v : Remembered) (ls : List Op) (q : ℕ) → 0 < l → o ≤ q → (o < q → Held v (Delete o l ∷ ls) q) → back v (o + l) q ≡ 0
behind_delete o l nothing ls q lp le h = refl
behind_delete o l (deleted o' l') ls q lp le h = refl
behind_delete o l (retained o' l') ls q lp le h = elim (dec_lt o q) [ yes z ↦ absurd (h z) | no z ↦ omega arith ]
behind_delete o l (inserted o' ks ms) ls q lp le h = elim (dec_lt o q) [ yes z ↦ absurd (h z) | no z ↦ back_past o' ks ms (o + l) q (omega arith) ]

room_delete : (R : Rules) (o l : ℕ) (u : Remembered) (ls : List Op) (v : Remembered) (q m h k : ℕ) → 0 < l → o ≤ q → (o < q → Held v (Delete o l ∷ ls) q)
    → h ≤ m → k ≤ m → Roomed R (Delete o l) u v q (o + l) m h k
unfolding met_of shift_of place_of
room_delete R o l u ls v q m h k lp le hd hm km =
    simple R (Delete o l) u v q (o + l) m h k (λ seen. record { lost = omega arith; within = omega arith }) refl hm
    (behind_delete o l v ls q lp le hd) (omega arith)

-- a retain is lost wholly to what the other side remembers, or not at all
module _ (o k : ℕ) (q : ℕ) where
  behind_retain : (v : Remembered) (xs : List Op) → 0 < k → (o < q → Held v xs q) → (o + k < q → Held v [] q) → o ≤ q → back v (o + k) q ≡ 0
  behind_retain nothing xs kp hb hn le = refl
  behind_retain (deleted o' l') xs kp hb hn le = refl
  behind_retain (retained o' l') xs kp hb hn le = elim (dec_lt (o + k) q) [ yes z ↦ absurd (hn z) | no z ↦ omega arith ]
  behind_retain (inserted o' ks ms) xs kp hb hn le = elim (dec_lt o q) [ yes z ↦ absurd (hb z) | no z ↦ back_past o' ks ms (o + k) q (omega arith) ]

  -- where a lost retain stands, with h cursors before it
  place_retain : (R : Rules) (v : Remembered) (m h : ℕ) → lost_of R (Retain o k) v ≡ min k (q - o) → h + back v o q ≤ m
      → (h ≤ (place_of R (Retain o k) v m).start) × ((place_of R (Retain o k) v m).start + (place_of R (Retain o k) v m).shared ≤ m)
  unfolding place_of
  place_retain R nothing m h z g = (omega arith, omega arith)
  place_retain R (deleted o' l') m h z g = (omega arith, omega arith)
  place_retain R (retained o' l') m h z g = (omega arith, omega arith)
  place_retain R (inserted o' ks ms) m h z g = (omega arith, omega arith)

room_retain : (R : Rules) (o k : ℕ) (u v : Remembered) (xs : List Op) (q m h j : ℕ) → 0 < k → o ≤ q → (o < q → o + k ≤ q)
    → (o < q → Held v xs q) → (o + k < q → Held v [] q) → lost_of R (Retain o k) v ≡ min k (q - o)
    → h + back v o q ≤ m → j ≤ m → Roomed R (Retain o k) u v q (o + k) m h j
unfolding met_of shift_of
room_retain R o k u v xs q m h j kp le hl hb hn z hm jm =
    let pl = place_retain o k q R v m h z hm in
    simple R (Retain o k) u v q (o + k) m h j (λ seen. record { lost = omega (arith, z); within = pl.1 }) (omega (arith, z)) pl.0
    (behind_retain o k q v xs kp hb hn le)
    (elim (dec_lt o q) [ yes d ↦ omega (arith, z, hl d) | no d ↦ omega (arith, z) ])

-- what an insert adds to what is remembered of its side, it adds to the merged text
back_remember : (lent : Lent) (u : Remembered) (o f n q p m j : ℕ) → j + back u q p ≤ m → j + back (remember_of lent u (Insert o f n)) q p ≤ m + sum (lengths_of lent f n)
back_remember lent nothing o f n q p m j h = omega (arith, back_most o (keys_of lent f n) (lengths_of lent f n) q p)
back_remember lent (deleted o' l') o f n q p m j h = omega (arith, back_most o (keys_of lent f n) (lengths_of lent f n) q p)
back_remember lent (retained o' l') o f n q p m j h = omega (arith, back_most o (keys_of lent f n) (lengths_of lent f n) q p)
back_remember lent (inserted o' ks ls) o f n q p m j h =
    elim (ℕ_discrete o' o) [
      | yes e ↦
          rw (appended_same o' ks ls o (keys_of lent f n) (lengths_of lent f n) e)
          (elim (dec_lt p q) [
            | yes d ↦ omega (arith, back_past o' (ks ++ keys_of lent f n) (ls ++ lengths_of lent f n) q p d, back_past o' ks ls q p d)
            | no d ↦
                omega (
                  arith,
                  back_at o' (ks ++ keys_of lent f n) (ls ++ lengths_of lent f n) q p (omega arith),
                  back_at o' ks ls q p (omega arith),
                  sum_append ls (lengths_of lent f n),
                )
          ])
      | no e ↦ rw (appended_new o' ks ls o (keys_of lent f n) (lengths_of lent f n) e) (omega (arith, back_most o (keys_of lent f n) (lengths_of lent f n) q p))
    ]

module _ (r : Range) where
  -- the overlap's place lies in the remembered tokens, which end the merged text; what stays remembered behind it stands behind it
  place_in : (ls : List ℕ) (m h : ℕ) → h + sum ls ≤ m
      → (h ≤ (overlap_place r ls m).start) × ((overlap_place r ls m).start + (overlap_place r ls m).shared ≤ m)
      × (0 < width_of r → (overlap_place r ls m).start + (overlap_place r ls m).shared + sum (drop r.end ls) ≤ m)
  place_in ls m h g =
      elim (ℕ_discrete (width_of r) 0) [
        | yes e ↦ rw (place_none r ls m e) (omega arith, omega arith, λ w. absurd (omega arith))
        | no e ↦
            let s : sum (drop r.start ls) ≤ sum ls = sum_drop r.start ls in
            let p : sum (drop r.start ls) ≡ sum (slice r.start r.end ls) + sum (drop r.end ls) = sum_part r.start r.end ls (omega arith) in
            rw (place_some r ls m (omega arith)) (omega arith, omega arith, λ w. omega arith)
      ]

-- an insert that loses z of its tokens
rest_insert : (R : Rules) (o f n : ℕ) (v : Remembered) (z : ℕ) → lost_of R (Insert o f n) v ≡ z → z ≤ n
    → length_of R.lent (Insert o f n) ≡ removed_of R (Insert o f n) (lost_of R (Insert o f n) v) + length_of R.lent (met_of R (Insert o f n) v)
unfolding met_of
rest_insert R o f n v z e h = rw e (lengths_split R.lent z f n h)

-- an insert that meets no insert loses nothing
module _ (R : Rules) (o f n : ℕ) (u : Remembered) (q m h j : ℕ) where
  room_free : (v : Remembered) → lost_of R (Insert o f n) v ≡ 0 → place_of R (Insert o f n) v m ≡ record { start = m; shared = 0 }
      → back (other_of R (Insert o f n) v) o q ≡ 0 → h ≤ m → j + back u q o ≤ m → Roomed R (Insert o f n) u v q o m h j
  unfolding met_of shift_of
  room_free v z pl b hm jm =
      let r = rest_insert R o f n v 0 z (omega arith) in
      simple R (Insert o f n) u v q o m h j (λ seen. record { lost = omega (arith, r); within = rw pl (omega arith) }) r (rw pl hm) b
      (back_remember R.lent u o (f + lost_of R (Insert o f n) v) (n - lost_of R (Insert o f n) v) q o m j jm)

  -- an insert that meets an insert
  room_met : Lawful R → (o' : ℕ) (ks ls : List ℕ) → 0 < n → h + sum ls ≤ m → j + back u q o ≤ m → Roomed R (Insert o f n) u (inserted o' ks ls) q o m h j
  unfolding met_of shift_of place_of lost_of
  room_met law o' ks ls np hm jm =
      let r : Range = R.overlap ks (keys_of R.lent f n) in
      let w : width_of r ≤ n = omega (arith, law.short ks (keys_of R.lent f n), keys_short R.lent f n) in
      let e : length_of R.lent (Insert o f n) ≡ sum (lengths_of R.lent f (width_of r)) + sum (lengths_of R.lent (f + width_of r) (n - width_of r)) =
      rest_insert R o f n (inserted o' ks ls) (width_of r) refl w in
      let pl = place_in r ls m h hm in
      let rem = back_remember R.lent u o (f + width_of r) (n - width_of r) q o m j jm in
      elim (ℕ_discrete (width_of r) n) [
        | yes all ↦
            let none : n - width_of r ≡ 0 = omega arith in
            let nil : sum (lengths_of R.lent (f + width_of r) (n - width_of r)) ≡ 0 = rw none (unfold sum lengths_of in refl) in
            record {
              fine = λ seen. record { lost = omega arith; within = pl.1 };
              rest = e;
              low = pl.0;
              top = (overlap_place r ls m).start + (overlap_place r ls m).shared;
              grows = omega arith;
              most = omega (arith, pl.1);
              cap = λ seen i g. index_shared (shift_of R (Insert o f n) (inserted o' ks ls) seen m) (record { lost = omega arith; within = pl.1 }) i g (omega arith);
              own = rw (used_all r n o' ks ls all) (omega (arith, pl.2 (omega arith), back_most o' (drop r.end ks) (drop r.end ls) o q));
              other = rem;
            }
        | no some ↦
            simple R (Insert o f n) u (inserted o' ks ls) q o m h j (λ seen. record { lost = omega arith; within = pl.1 }) e pl.0
            (rw (used_rest r n o' ks ls some) (omega (arith, back_most o' [] [] o q, sum_nil))) rem
      ]

room_insert : (R : Rules) → Lawful R → (o f n : ℕ) (u : Remembered) (ls : List Op) (v : Remembered) (q m h j : ℕ) → 0 < n → o ≤ q
    → (o < q → Held v (Insert o f n ∷ ls) q) → h + back v o q ≤ m → j + back u q o ≤ m → Roomed R (Insert o f n) u v q o m h j
unfolding lost_of place_of
room_insert R law o f n u ls nothing q m h j np le hd hm jm = room_free R o f n u q m h j nothing refl refl refl (omega arith) jm
room_insert R law o f n u ls (deleted o' l') q m h j np le hd hm jm = room_free R o f n u q m h j (deleted o' l') refl refl refl (omega arith) jm
room_insert R law o f n u ls (retained o' l') q m h j np le hd hm jm =
    elim (dec_lt o q) [ yes z ↦ absurd (hd z) | no z ↦ room_free R o f n u q m h j (retained o' l') refl refl (omega arith) (omega arith) jm ]
room_insert R law o f n u ls (inserted o' ks ms) q m h j np le hd hm jm =
    elim (dec_lt o q) [
      | yes z ↦ absurd (hd z)
      | no z ↦ room_met R o f n u q m h j law o' ks ms np (omega (arith, back_at o' ks ms o q (omega arith))) jm
    ]

-- where a retain was cut
room_cut : (R : Rules) (o l : ℕ) (u : Remembered) (ls : List Op) (v : Remembered) (rs : List Op) (p q n m h j : ℕ)
    → Good u (Retain o l ∷ ls) v rs p q n → p ≤ q → h + back v o q ≤ m → j ≤ m
    → Roomed R (Retain o (kept_length o l rs)) u v q (o + kept_length o l rs) m h j
room_cut R o l u ls v rs p q n m h j g le hm jm =
    let e : o ≡ p = g.tiled_l.0 in
    let lp : 0 < l = g.tiled_l.1 in
    elim (dec_lt p q) [
      | yes d ↦
          let k : kept_length o l rs ≡ min l (q - o) = keep_behind o l rs q n g.tiled_r (omega arith) (tiled_le ls (o + l) n g.tiled_l.2) in
          rw k
          (room_retain R o (min l (q - o)) u v (Retain o l ∷ ls) q m h j (omega arith) (omega arith) (λ z. omega arith) (λ z. g.held_r d)
          (λ z. held_any o l v ls [] q (g.held_r d) (omega arith)) (lost_r_is R o (min l (q - o)) v (Retain o l ∷ ls) q g.ends_r (λ z. g.held_r d)) hm jm)
      | no d ↦
          let k : (0 < kept_length o l rs) × (o ≡ q) = (keep_some o l rs q n g.tiled_r lp (omega arith), omega arith) in
          room_retain R o (kept_length o l rs) u v [] q m h j k.0 (omega arith) (λ z. absurd (omega arith)) (λ z. absurd (omega arith)) (λ z. absurd (omega arith))
          (lost_r_is R o (kept_length o l rs) v [] q g.ends_r (λ z. absurd (omega arith))) hm jm
    ]

-- the turn of the merge
pub roomed : (R : Rules) → Lawful R → (a : Op) (u : Remembered) (ls : List Op) (v : Remembered) (rs : List Op) (p q n : ℕ)
    → Good u (a ∷ ls) v rs p q n → p ≤ q → (m h j : ℕ) → h + back v p q ≤ m → j + back u q p ≤ m
    → Roomed R (front_of a rs) u v q (place_after a rs) m h j
roomed R law (Delete o l) u ls v rs p q n g le m h j hm jm =
    let e : o ≡ p = g.tiled_l.0 in
    room_delete R o l u ls v q m h j g.tiled_l.1 (omega arith) (λ z. g.held_r (omega arith)) (omega arith) (omega arith)
roomed R law (Insert o f k) u ls v rs p q n g le m h j hm jm =
    let e : o ≡ p = g.tiled_l.0 in
    rw (add-zero o)
    (room_insert R law o f k u ls v q m h j g.tiled_l.1 (omega arith) (λ z. g.held_r (omega arith)) (rw (← e) at hm) (rw (← e) at jm))
roomed R law (Retain o l) u ls v rs p q n g le m h j hm jm =
    let e : o ≡ p = g.tiled_l.0 in
    room_cut R o l u ls v rs p q n m h j g le (rw (← e) at hm) (omega arith)
