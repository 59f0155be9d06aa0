-- What the scan has seen to be the longest and the first is the overlap.
-- An ending of a place is an occurrence before it and the other way round; the overlap is the only range of its kind. Assumes nothing.
use Prim.Native.Nat.{ℕ, ◌+◌, ◌-◌, ◌≤◌, ◌<◌}
use mathlib.Core.Path.{◌≡◌, sym, subst, ap, ◌∙◌}
use mathlib.Core.Bool.{true}
use mathlib.Core.Logic.{⊎_elim}
use mathlib.Core.List.{List}
use native.Mathlib.Omega.{arith}
use lib.ListN.{get_or, length, take, drop, length-drop}
use lib.Seq.{get_or-take, get_or-drop, ext_get_or, length-take-le}
use Rattle.overlap.specs.Table.{Ends}
use Rattle.overlap.specs.Overlap.{range, occurs, overlap_of}
use Rattle.numbers.proofs.Orders.{le_or_lt}
use Rattle.overlap.proofs.Endings.{Seen, none}
use Rattle.overlap.proofs.Overlaps.{occurs_eq, occurs_in, the_only}

module _ (p t : List ℕ) (k s : ℕ) where
  occurs_ends : occurs t p k s ≡ true → Ends p t (s + k) k
  occurs_ends h = record {
    low = omega arith;
    same = λ a b ak q.
        let y : b ≡ s + a = omega arith in
        ap (λ (n : ℕ). get_or t n 0) y ∙ sym (get_or-drop s t a 0) ∙ sym (get_or-take k (drop s t) a 0 ak) ∙ ap (λ (l : List ℕ). get_or l a 0)
        (occurs_eq t p k s h) ∙ get_or-take k p a 0 ak;
  }

  ends_keys : k ≤ length p → s + k ≤ length t → Ends p t (s + k) k → take k (drop s t) ≡ take k p
  ends_keys kp st e =
      let l : length (take k (drop s t)) ≡ k = length-take-le k (drop s t) (simp length-drop (omega arith)) in
      ext_get_or 0 (take k (drop s t)) (take k p) (l ∙ sym (length-take-le k p kp))
      (λ a h. let ak : a < k = omega arith in
      get_or-take k (drop s t) a 0 ak ∙ get_or-drop s t a 0 ∙ e.same a (s + a) ak (omega arith) ∙ sym (get_or-take k p a 0 ak))

pub overlap_seen : (p t : List ℕ) (s e : ℕ) → Seen p t (length p) (length t) s e → range s e ≡ overlap_of t p
overlap_seen p t s e g =
    let q : e ≡ s + (e - s) = omega (arith, g.low) in
    the_only t p (record {
      low = g.low;
      high = g.high;
      fits = g.fits;
      keys = ends_keys p t (e - s) s g.fits (omega (arith, g.high)) (subst (λ (n : ℕ). Ends p t n (e - s)) q g.ends);
      most = λ l x lp h.
          ⊎_elim (λ (z : l ≤ 0). omega arith)
          (λ (z : 0 < l). g.most l (x + l) lp (occurs_in t p l x lp z h) (occurs_ends p t l x h))
          (le_or_lt l 0);
      early = λ x h.
          ⊎_elim (λ (z : e - s ≤ 0). omega (arith, g.low, g.first 0 0 (omega arith) (omega arith) (none 0) z))
          (λ (z : 0 < e - s).
          omega (arith, g.low, g.first (e - s) (x + (e - s)) g.fits (occurs_in t p (e - s) x g.fits z h) (occurs_ends p t (e - s) x h) (omega arith)))
          (le_or_lt (e - s) 0);
    })
