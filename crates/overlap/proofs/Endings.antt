-- The laws of Knuth, Morris and Pratt's search, over p, what is looked for, and t, where it is looked for: how what ends one place of t follows from what ends the place before it.
-- Each is arithmetic over free indexes. Assumes nothing.
use Prim.Native.Nat.{ℕ, ◌+◌, ◌-◌, ◌≤◌, ◌<◌}
use mathlib.Core.Path.{◌≡◌, sym, subst, ap, ◌∙◌}
use mathlib.Core.List.{List}
use mathlib.Core.Logic.{⊎_elim}
use native.Mathlib.Nat.{eq-or-lt_of_le}
use native.Mathlib.Omega.{arith}
use lib.ListN.{get_or, set, length}
use lib.Seq.{get_or-set_same, get_or-set_other}
use Rattle.numbers.proofs.Orders.{le_or_lt}
use Rattle.overlap.specs.Table.{Ends, Best, Table}

-- a candidate for the next place: k keys end the first i, and no l keys with the next one, l < b, end the first i + 1 with l above k
pub record Cand (p t : List ℕ) (b i k : ℕ) : Type 0 where
  pub ends : Ends p t i k
  pub under : k < b
  pub most : (l : ℕ) → l < b → Ends p t (i + 1) (l + 1) → l ≤ k

module _ {p t : List ℕ} where
  pub none : (i : ℕ) → Ends p t i 0
  none i = record { low = omega arith; same = λ a b la q. absurd (omega arith) }

  pub grow : {i k : ℕ} → Ends p t i k → get_or t i 0 ≡ get_or p k 0 → Ends p t (i + 1) (k + 1)
  grow {i} {k} e h = record {
    low = omega arith;
    same = λ a b la q.
        ⊎_elim (λ (x : a ≡ k). let y : b ≡ i = omega arith in cc) (λ (x : a < k). e.same a b x (omega arith))
        (eq-or-lt_of_le (omega arith));
  }

  pub less : {i k : ℕ} → Ends p t (i + 1) (k + 1) → Ends p t i k
  less e = record { low = omega arith; same = λ a b la q. e.same a b (omega arith) (omega arith) }

  pub last : (i k : ℕ) → Ends p t (i + 1) (k + 1) → get_or t i 0 ≡ get_or p k 0
  last i k e = e.same k i (omega arith) (omega arith)

  pub within : {i k l : ℕ} → Ends p t i k → Ends p t i l → l ≤ k → Ends p p k l
  within {i} {k} {l} e f h = record {
    low = h;
    same = λ a b la q. sym (e.same b (i - l + a) (omega arith) (omega arith)) ∙ f.same a (i - l + a) la (omega arith);
  }

  pub chain : {i k l : ℕ} → Ends p t i k → Ends p p k l → Ends p t i l
  chain {i} {k} {l} e f = record {
    low = omega arith;
    same = λ a b la q. e.same (k - l + a) b (omega arith) (omega arith) ∙ f.same a (k - l + a) la (omega arith);
  }

  pub begin : {b c i k : ℕ} → Best p t c i k → b ≤ c → k < b → Cand p t b i k
  begin g bc kb = record { ends = g.ends; under = kb; most = λ l lb e. g.most l (omega arith) (less e) }

  -- the candidate does not go on, and the next is the greatest that ends it
  pub fall : {b i k m : ℕ} → Cand p t b i k → (get_or t i 0 ≡ get_or p k 0 → ⊥) → Best p p k k m → Cand p t b i m
  fall {b} {i} {k} {m} g ne f = record {
    ends = chain g.ends f.ends;
    under = omega arith;
    most = λ l lb e.
        ⊎_elim (λ (x : l ≡ k). absurd (ne (subst (λ (z : ℕ). get_or t i 0 ≡ get_or p z 0) x (last i l e))))
        (λ (x : l < k). f.most l x (within g.ends (less e) (omega arith)))
        (eq-or-lt_of_le (g.most l lb e));
  }

  -- what ends one place more is nothing, or one key more than what ends the place
  pub by_one : (i : ℕ) {l : ℕ} (P : Type 0) → Ends p t (i + 1) l → (l ≡ 0 → P) → ((m : ℕ) → l ≡ m + 1 → Ends p t (i + 1) (m + 1) → P) → P
  by_one i {l} P e z s =
      ⊎_elim (λ (x : 0 ≡ l). z (sym x))
      (λ (x : 0 < l). let q : l ≡ l - 1 + 1 = omega arith in s (l - 1) q (subst (λ (n : ℕ). Ends p t (i + 1) n) q e))
      (eq-or-lt_of_le (omega arith))

  pub hit : {b i k : ℕ} → Cand p t b i k → get_or t i 0 ≡ get_or p k 0 → Best p t (b + 1) (i + 1) (k + 1)
  hit {b} {i} {k} g h = record {
    ends = grow g.ends h;
    under = omega arith;
    most = λ l lb e. by_one i (l ≤ k + 1) e (λ z. omega arith) (λ m q f. omega (arith, g.most m (omega arith) f));
  }

  pub miss : {b i k : ℕ} → Cand p t b i k → k ≡ 0 → (get_or t i 0 ≡ get_or p k 0 → ⊥) → Best p t (b + 1) (i + 1) k
  miss {b} {i} {k} g z ne = record {
    ends = subst (λ (n : ℕ). Ends p t (i + 1) n) (sym z) (none (i + 1));
    under = omega arith;
    most = λ l lb e. by_one i (l ≤ k) e (λ y. omega arith)
        (λ m q f.
        let mk : m ≡ k = omega (arith, g.most m (omega arith) f) in
        absurd (ne (subst (λ (n : ℕ). get_or t i 0 ≡ get_or p n 0) mk (last i m f))));
  }

-- the table's first entry, and the next
pub table_one : (p w : List ℕ) → 0 < length w → Table p (set w 0 0) 1
table_one p w h = record {
  at = λ j hj h1.
      let z : j - 1 ≡ 0 = omega arith in
      subst (λ (x : ℕ). Best p p j j x) (sym (ap (λ (n : ℕ). get_or (set w 0 0) n 0) z ∙ get_or-set_same w 0 0 0 h))
      (record { ends = none j; under = hj; most = λ l lb e. omega arith });
}

pub table_more : {p w : List ℕ} {i : ℕ} (k : ℕ) → Table p w i → i < length w → Best p p (i + 1) (i + 1) k → Table p (set w i k) (i + 1)
table_more {p} {w} {i} k g h f = record {
  at = λ j hj hi.
      ⊎_elim (λ (x : j ≡ i + 1).
      let z : j - 1 ≡ i = omega arith in
      subst (λ (n : ℕ). Best p p n n (get_or (set w i k) (j - 1) 0)) (sym x)
      (subst (λ (n : ℕ). Best p p (i + 1) (i + 1) n) (sym (ap (λ (n : ℕ). get_or (set w i k) n 0) z ∙ get_or-set_same w i k 0 h)) f))
      (λ (x : j < i + 1).
      subst (λ (n : ℕ). Best p p j j n) (sym (get_or-set_other w i (j - 1) k 0 (omega arith))) (g.at j hj (omega arith)))
      (eq-or-lt_of_le hi);
}

-- of what ends the first i of t or fewer, e - s is the greatest, m at most, and e the first place where it ends
pub record Seen (p t : List ℕ) (m i s e : ℕ) : Type 0 where
  pub low : s ≤ e
  pub high : e ≤ i
  pub ends : Ends p t e (e - s)
  pub fits : e - s ≤ m
  pub most : (l j : ℕ) → l ≤ m → j ≤ i → Ends p t j l → l ≤ e - s
  pub first : (l j : ℕ) → l ≤ m → j ≤ i → Ends p t j l → e - s ≤ l → e ≤ j

module _ {p t : List ℕ} {m : ℕ} where
  pub seen_none : Seen p t m 0 0 0
  seen_none = record {
    low = omega arith;
    high = omega arith;
    ends = none 0;
    fits = omega arith;
    most = λ l j lm ji e. omega arith;
    first = λ l j lm ji e h. omega arith;
  }

  pub seen_longer : {i s e k : ℕ} → Seen p t m i s e → Best p t (m + 1) (i + 1) k → e - s < k → Seen p t m (i + 1) (i + 1 - k) (i + 1)
  seen_longer {i} {s} {e} {k} g f h =
      let q : k ≡ i + 1 - (i + 1 - k) = omega (arith, f.ends.low) in
      record {
        low = omega arith;
        high = omega arith;
        ends = subst (λ (n : ℕ). Ends p t (i + 1) n) q f.ends;
        fits = omega (arith, f.under);
        most = λ l j lm ji x.
            ⊎_elim (λ (y : j ≡ i + 1). omega (arith, f.most l (omega arith) (subst (λ (n : ℕ). Ends p t n l) y x)))
            (λ (y : j < i + 1). omega (arith, g.most l j lm (omega arith) x))
            (eq-or-lt_of_le ji);
        first = λ l j lm ji x hl.
            ⊎_elim (λ (y : j ≡ i + 1). omega arith) (λ (y : j < i + 1). absurd (omega (arith, g.most l j lm (omega arith) x))) (eq-or-lt_of_le ji);
      }

  pub seen_kept : {i s e k : ℕ} → Seen p t m i s e → Best p t (m + 1) (i + 1) k → k ≤ e - s → Seen p t m (i + 1) s e
  seen_kept {i} {s} {e} {k} g f h = record {
    low = g.low;
    high = omega (arith, g.high);
    ends = g.ends;
    fits = g.fits;
    most = λ l j lm ji x.
        ⊎_elim (λ (y : j ≡ i + 1). omega (arith, f.most l (omega arith) (subst (λ (n : ℕ). Ends p t n l) y x)))
        (λ (y : j < i + 1). g.most l j lm (omega arith) x)
        (eq-or-lt_of_le ji);
    first = λ l j lm ji x hl.
        ⊎_elim (λ (y : j ≡ i + 1). omega (arith, g.high)) (λ (y : j < i + 1). g.first l j lm (omega arith) x hl) (eq-or-lt_of_le ji);
  }

  -- all of p was found: nothing past this place matters
  pub seen_whole : {i s e : ℕ} (n : ℕ) → Seen p t m i s e → i ≤ n → m ≤ e - s → Seen p t m n s e
  seen_whole {i} {s} {e} n g h w = record {
    low = g.low;
    high = omega (arith, g.high);
    ends = g.ends;
    fits = g.fits;
    most = λ l j lm jn x. omega arith;
    first = λ l j lm jn x hl.
        ⊎_elim (λ (y : j ≤ i). g.first l j lm y x hl) (λ (y : i < j). omega (arith, g.high)) (le_or_lt j i);
  }
