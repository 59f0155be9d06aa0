-- What is true of the overlap, for whoever uses it: where it lies, which keys it has, that none is longer and none of its length earlier.
-- The exhaustive search keeps these five facts at each length; the rest follows from them by arithmetic. Assumes nothing.
use Prim.Native.Nat.{ℕ, zero, suc, ◌+◌, ◌-◌, ◌≤◌, ◌<◌}
use mathlib.Core.Path.{◌≡◌, refl, sym, subst, ap, ap₂, ◌∙◌}
use mathlib.Core.List.{List, [], ◌∷◌}
use mathlib.Core.Bool.{Bool, true, false}
use mathlib.Core.Logic.{◌⊎◌, inl, inr, ⊎_elim}
use native.Mathlib.Nat.{eq-or-lt_of_le}
use native.Mathlib.Omega.{arith}
use lib.ListN.{length, take, drop, length-take, length-drop}
use lib.Dec.{eqb}
use borrow.Author.Tests.{eqb-true, eq-eqb}
use Rattle.room.proofs.Bools.{and_left, and_right}
use Rattle.overlap.specs.Overlap.{range, same, occurs, first, longest, overlap_of, touched, Answered}
use Rattle.overlap.specs.declared.Range.{Range}
use Rattle.std.specs.Prelude.{Result}
use Rattle.refusal.specs.declared.Refusal.{Refusal}

same_eq : (xs ys : List ℕ) → same xs ys ≡ true → xs ≡ ys
same_eq [] [] h = refl
same_eq [] (y ∷ ys) h = cc
same_eq (x ∷ xs) [] h = cc
same_eq (x ∷ xs) (y ∷ ys) h = ap₂ ◌∷◌ (eqb-true x y (and_left (eqb x y) (same xs ys) h)) (same_eq xs ys (and_right (eqb x y) (same xs ys) h))

same_refl : (xs : List ℕ) → same xs xs ≡ true
same_refl [] = refl
same_refl (x ∷ xs) = rw (eq-eqb x x refl, same_refl xs)

-- the test of an occurrence, and what it says
module _ (old new : List ℕ) (k s : ℕ) where
  pub occurs_eq : occurs old new k s ≡ true → take k (drop s old) ≡ take k new
  occurs_eq h = same_eq _ _ h

  pub eq_occurs : take k (drop s old) ≡ take k new → occurs old new k s ≡ true
  eq_occurs e = ap (λ (l : List ℕ). same l (take k new)) e ∙ same_refl (take k new)

  -- what occurs lies in old
  pub occurs_in : k ≤ length new → 0 < k → occurs old new k s ≡ true → s + k ≤ length old
  occurs_in kn z h = omega (arith, simp (length-take, length-drop) at (ap length (occurs_eq h)))

-- from place s on, r is the first where the first k keys occur
record Place (old new : List ℕ) (k s r : ℕ) : Type 0 where
  here : occurs old new k r ≡ true
  before : (x : ℕ) → s ≤ x → occurs old new k x ≡ true → r ≤ x

-- the search over places finds the first, or there is none
module _ (old new : List ℕ) (k : ℕ) (other : Range) where
  Finds : ℕ → ℕ → Type 0
  Finds n s =
      ((r : ℕ) × Place old new k s r × (first old new k n s other ≡ range r (r + k)))
      ⊎ (((x : ℕ) → s ≤ x → x < s + n → occurs old new k x ≡ true → ⊥) × (first old new k n s other ≡ other))

  finds : (n s : ℕ) → Finds n s
  unfolding first Finds
  finds zero s = inr ((λ x l u h. omega arith), refl)
  finds (suc n) s = go (occurs old new k s) refl (finds n (suc s))
    where
      go : (b : Bool) → occurs old new k s ≡ b → Finds n (suc s) → Finds (suc n) s
      go true e f = inl (s, record { here = e; before = λ x l h. l }, rw e)
      go false e f =
          let past : (x : ℕ) → s ≤ x → occurs old new k x ≡ true → suc s ≤ x =
          λ x l h. ⊎_elim (λ (q : s ≡ x). let z : ◌≡◌ {A = ℕ} 0 1 = cc in absurd (omega arith)) (λ (q : s < x). omega arith) (eq-or-lt_of_le l) in
          ⊎_elim (λ w. inl (w.0, record { here = w.1.here; before = λ x l h. w.1.before x (past x l h) h }, rw e w.2))
          (λ w. inr ((λ x l u h. w.0 x (past x l h) (omega arith) h), rw e w.1)) f

-- r is the longest beginning of new, of at most k keys, that occurs in old, and the first of its length
pub record Overlap (old new : List ℕ) (k : ℕ) (r : Range) : Type 0 where
  pub low : r.start ≤ r.end
  pub high : r.end ≤ length old
  pub fits : r.end - r.start ≤ k
  pub keys : take (r.end - r.start) (drop r.start old) ≡ take (r.end - r.start) new
  pub most : (l s : ℕ) → l ≤ k → occurs old new l s ≡ true → l ≤ r.end - r.start
  pub early : (s : ℕ) → occurs old new (r.end - r.start) s ≡ true → r.start ≤ s

module _ (old new : List ℕ) where
  -- all k keys occur, first at r
  found : (k r : ℕ) → 0 < k → k ≤ length new → Place old new k 0 r → Overlap old new k (range r (r + k))
  found k r z kn p =
      let q : k ≡ r + k - r = omega arith in
      record {
        low = omega arith;
        high = occurs_in old new k r kn z p.here;
        fits = omega arith;
        keys = subst (λ (n : ℕ). take n (drop r old) ≡ take n new) q (occurs_eq old new k r p.here);
        most = λ l s lk h. omega arith;
        early = λ s h. p.before s (omega arith) (subst (λ (n : ℕ). occurs old new n s ≡ true) (sym q) h);
      }

  -- one key more occurs nowhere
  passed : (k : ℕ) {r : Range} → suc k ≤ length new → Overlap old new k r
      → ((x : ℕ) → 0 ≤ x → x < 0 + length old → occurs old new (suc k) x ≡ true → ⊥) → Overlap old new (suc k) r
  passed k kn g none =
      record {
        low = g.low;
        high = g.high;
        fits = omega (arith, g.fits);
        keys = g.keys;
        most = λ l s lk h.
            ⊎_elim (λ (q : l ≡ suc k).
            let o : occurs old new (suc k) s ≡ true = subst (λ (n : ℕ). occurs old new n s ≡ true) q h in
            absurd (none s (omega arith) (omega (arith, occurs_in old new (suc k) s kn (omega arith) o)) o))
            (λ (q : l < suc k). g.most l s (omega arith) h)
            (eq-or-lt_of_le lk);
        early = g.early;
      }

  longest_overlaps : (k : ℕ) → k ≤ length new → Overlap old new k (longest old new k)
  unfolding longest Finds
  longest_overlaps zero kn =
      record {
        low = omega arith;
        high = omega arith;
        fits = omega arith;
        keys = refl;
        most = λ l s lk h. omega arith;
        early = λ s h. omega arith;
      }
  longest_overlaps (suc k) kn =
      ⊎_elim (λ w. rw w.2 (found (suc k) w.0 (omega arith) kn w.1))
      (λ w. rw w.1 (passed k kn (longest_overlaps k (omega arith)) w.0))
      (finds old new (suc k) (longest old new k) (length old) 0)

  pub overlaps : Overlap old new (length new) (overlap_of old new)
  unfolding overlap_of
  overlaps = longest_overlaps (length new) (omega arith)

  -- two ranges that are the longest and the first are one
  pub the_only : {r : Range} → Overlap old new (length new) r → r ≡ overlap_of old new
  the_only {r} g =
      let o = overlaps in
      let f = overlap_of old new in
      let a = o.most (r.end - r.start) r.start g.fits (eq_occurs old new (r.end - r.start) r.start g.keys) in
      let b = g.most (f.end - f.start) f.start o.fits (eq_occurs old new (f.end - f.start) f.start o.keys) in
      let q : r.end - r.start ≡ f.end - f.start = omega arith in
      let c = o.early r.start (subst (λ (n : ℕ). occurs old new n r.start ≡ true) q (eq_occurs old new (r.end - r.start) r.start g.keys)) in
      let d = g.early f.start
      (subst (λ (n : ℕ). occurs old new n f.start ≡ true) (sym q) (eq_occurs old new (f.end - f.start) f.start o.keys)) in
      ap₂ range (omega arith) (omega (arith, g.low, o.low))

  -- of no key, and in no key, there is none
  pub of_none : length new ≡ 0 → overlap_of old new ≡ range 0 0
  of_none z = sym (the_only
      (record { low = omega arith; high = omega arith; fits = omega arith; keys = refl; most = λ l s lk h. omega arith; early = λ s h. omega arith }))

  pub in_none : length old ≡ 0 → overlap_of old new ≡ range 0 0
  in_none z = ap₂ range (omega (arith, overlaps.high, overlaps.low)) (omega (arith, overlaps.high))

-- equal lists overlap whole
pub whole : (keys : List ℕ) → overlap_of keys keys ≡ range 0 (length keys)
whole keys =
    let o = overlaps keys keys in
    let m = o.most (length keys) 0 (omega arith) (same_refl (take (length keys) keys)) in
    ap₂ range (omega (arith, o.high)) (omega (arith, o.high))

-- any two outcomes that the call's statement allows are one answer, and leave the same past what the call may change
pub only : {old new before after after' : List ℕ} {r r' : Result Range Refusal} → Answered old new before after r → Answered old new before after' r'
    → (r ≡ r') × (drop (touched r (length new)) after ≡ drop (touched r (length new)) after')
only {r = r} {r' = r'} a b =
    let e : r ≡ r' = a.answer ∙ sym b.answer in
    (e, a.kept ∙ sym (rw (e) b.kept))
