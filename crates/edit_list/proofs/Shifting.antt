-- Shown: the operations of a cooked list, each first token moved on, are the list cooked with its tokens further on; and that moving them passes no size.
-- How: by induction on the runs; the loop keeps that what is left to move gives the whole answer. Assumes nothing.
use mathlib.Core.Path.{◌≡◌, refl, sym, ap, ◌∙◌}
use mathlib.Core.List.{List, [], ◌∷◌, ◌++◌, append_assoc}
use Prim.Native.Nat.{ℕ, zero, suc, ◌+◌, ◌-◌, ◌*◌, ◌≤◌, ◌<◌, zero-le}
use native.Mathlib.Omega.{arith}
use lib.ListN.{length, get_or, set, length-append, length-set}
use lib.Seq.{get_or-set_other, get_or-append-add, set_at}
use Rattle.records.specs.Operations.{flat_operations}
use Rattle.raw_lists.specs.Raws.{Run}
use Rattle.elongate.specs.Elongated.{cooked_from, pieces_length, consumes, all_tokens}
use Rattle.edit_list.specs.Steps.{shifted_from}

-- the loop: o is what o₀ became when the first i were moved
pub record Shifting (o₀ : List ℕ) (count by : ℕ) (o : List ℕ) (i : ℕ) : Type 0 where
  pub most : i ≤ count
  pub same : length o ≡ length o₀
  pub rest : (j : ℕ) → i ≤ j → get_or o (j * 6 + 4) 0 ≡ get_or o₀ (j * 6 + 4) 0
  pub whole : shifted_from o by i (count - i) ≡ shifted_from o₀ by 0 count

pub begins : (o : List ℕ) (count by : ℕ) → Shifting o count by o 0
begins o count by = record { most = zero-le; same = refl; rest = λ j h. refl; whole = let e : count - 0 ≡ count = omega arith in rw e }

module _ {o₀ o : List ℕ} {count by i : ℕ} (h : Shifting o₀ count by o i) where
  pub goes_on : i < count → Shifting o₀ count by (set o (i * 6 + 4) (get_or o (i * 6 + 4) 0 + by)) (i + 1)
  unfolding shifted_from
  goes_on l = record {
    most = omega arith;
    same = length-set o (i * 6 + 4) (get_or o (i * 6 + 4) 0 + by) ∙ h.same;
    rest = λ j g. get_or-set_other o (i * 6 + 4) (j * 6 + 4) (get_or o (i * 6 + 4) 0 + by) 0 (λ e. omega arith) ∙ h.rest j (omega arith);
    whole = let e : count - i ≡ suc (count - (i + 1)) = omega arith in rw e at h.whole;
  }

  pub ends : count ≤ i → o ≡ shifted_from o₀ by 0 count
  unfolding shifted_from
  ends l = let e : count - i ≡ 0 = omega arith in rw e at h.whole

-- one first token moved on
moved : (p t : List ℕ) (i a b c d e g by : ℕ) → length p ≡ i * 6
    → set (p ++ (a ∷ b ∷ c ∷ d ∷ e ∷ g ∷ t)) (i * 6 + 4) (get_or (p ++ (a ∷ b ∷ c ∷ d ∷ e ∷ g ∷ t)) (i * 6 + 4) 0 + by)
    ≡ p ++ (a ∷ b ∷ c ∷ d ∷ (e + by) ∷ g ∷ t)
moved p t i a b c d e g by h =
    let x : get_or (p ++ (a ∷ b ∷ c ∷ d ∷ e ∷ g ∷ t)) (i * 6 + 4) 0 ≡ e = rw (← h) (get_or-append-add p (a ∷ b ∷ c ∷ d ∷ e ∷ g ∷ t) 4 0) in
    let l : length (p ++ (a ∷ b ∷ c ∷ d ∷ [])) ≡ i * 6 + 4 = rw (length-append) (omega arith) in
    let y : p ++ (a ∷ b ∷ c ∷ d ∷ e ∷ g ∷ t) ≡ (p ++ (a ∷ b ∷ c ∷ d ∷ [])) ++ (e ∷ g ∷ t) = sym (append_assoc p (a ∷ b ∷ c ∷ d ∷ []) (e ∷ g ∷ t)) in
    ap (λ (n : ℕ). set (p ++ (a ∷ b ∷ c ∷ d ∷ e ∷ g ∷ t)) (i * 6 + 4) (n + by)) x
    ∙ ap (λ (q : List ℕ). set q (i * 6 + 4) (e + by)) y
    ∙ set_at (p ++ (a ∷ b ∷ c ∷ d ∷ [])) e (g ∷ t) (e + by) (i * 6 + 4) l
    ∙ append_assoc p (a ∷ b ∷ c ∷ d ∷ []) ((e + by) ∷ g ∷ t)

pub shifts : (rs : List Run) (p r : List ℕ) (i at f by : ℕ) → length p ≡ i * 6
    → shifted_from (p ++ (flat_operations (cooked_from rs at f) ++ r)) by i (length rs) ≡ p ++ (flat_operations (cooked_from rs at (f + by)) ++ r)
unfolding shifted_from cooked_from flat_operations
shifts [] p r i at f by h = refl
shifts (x ∷ rs) p r i at f by h =
    let n : ℕ = length x.tokens in
    let k : ℕ = pieces_length x.tokens in
    let at' : ℕ = at + consumes x.kind k in
    let t : List ℕ = flat_operations (cooked_from rs at' (f + n)) ++ r in
    let p' : List ℕ = p ++ (x.kind ∷ at ∷ k ∷ 0 ∷ (f + by) ∷ n ∷ []) in
    let l : length p' ≡ (i + 1) * 6 = rw (length-append) (omega arith) in
    let e : f + n + by ≡ f + by + n = omega arith in
    let m : shifted_from (p' ++ t) by (i + 1) (length rs) ≡ p' ++ (flat_operations (cooked_from rs at' (f + n + by)) ++ r) = shifts rs p' r (i + 1) at' (f + n) by l in
    let six : List ℕ = x.kind ∷ at ∷ k ∷ 0 ∷ (f + by) ∷ n ∷ [] in
    ap (λ (o : List ℕ). shifted_from o by (i + 1) (length rs)) (moved p t i x.kind at k 0 f n by h ∙ sym (append_assoc p six t))
    ∙ m
    ∙ ap (λ (z : ℕ). p' ++ (flat_operations (cooked_from rs at' z) ++ r)) e
    ∙ append_assoc p six (flat_operations (cooked_from rs at' (f + by + n)) ++ r)

-- no first token is past the last
pub firsts : (rs : List Run) (r : List ℕ) (at f j : ℕ) → j < length rs → get_or (flat_operations (cooked_from rs at f) ++ r) (j * 6 + 4) 0 ≤ f + length (all_tokens rs)
unfolding cooked_from flat_operations all_tokens
firsts [] r at f j h = absurd (omega arith)
firsts (x ∷ rs) r at f zero h = omega arith
firsts (x ∷ rs) r at f (suc j) h =
    let n : ℕ = length x.tokens in
    let k : ℕ = pieces_length x.tokens in
    let e : suc j * 6 + 4 ≡ 6 + (j * 6 + 4) = omega arith in
    let g = get_or-append-add (x.kind ∷ at ∷ k ∷ 0 ∷ f ∷ n ∷ []) (flat_operations (cooked_from rs (at + consumes x.kind k) (f + n)) ++ r) (j * 6 + 4) 0 in
    let m = firsts rs r (at + consumes x.kind k) (f + n) j (omega arith) in
    let l = length-append x.tokens (all_tokens rs) in
    rw (e, g) (omega (arith, m, l))
