-- The code points of an add line: the loop's invariant, and one law for each way through a turn.
-- What is left after the code points so far decides what was left at the line's first; `pointed` takes it one further. Assumes nothing.
use Rattle.std.specs.Prelude.{Option, Some, None}
use mathlib.Core.Path.{◌≡◌, refl, ◌∙◌}
use mathlib.Core.List.{List, [], ◌∷◌, ◌++◌}
use Prim.Native.Nat.{ℕ, ◌+◌, ◌≤◌, ◌<◌}
use native.Mathlib.Omega.{arith}
use lib.ListN.{length, drop, length-append}
use Rattle.edit_format.specs.Items.{Item, added}
use Rattle.edit_format.specs.Written.{Head}
use Rattle.edit_format.specs.Reading.{gap, item, adding, found}
use Rattle.edit_lines.specs.Scan.{point_at}
use Rattle.edit_read.specs.Judged.{PointsRead}
use Rattle.edit_lines.specs.declared.Point.{Point}
use Rattle.edit_lines.specs.declared.Point.TheVariants.{More, Last}
use Rattle.edit_lines.proofs.Scanning.{Pointed, pointed, crowded}

-- a place after a code point is a place of the bytes
abbrev Inside : List ℕ → Option Point → Type 0
Inside p (Some (More v j)) = j ≤ length p
Inside p (Some (Last v j)) = j ≤ length p
Inside p None = Unit {0}

inside_of : (h : Head) (p : List ℕ) (i : ℕ) (r : Option Point) → Pointed h [] [] p i r → Inside p r
inside_of h p i (Some (More v j)) q = q.0
inside_of h p i (Some (Last v j)) q = q.0
inside_of h p i None q = tt

pub inside : (p : List ℕ) (i : ℕ) → Inside p (point_at p i)
unfolding added
inside p i =
    let h : Head = record { original = 0; result = 0; count = 0 } in
    inside_of h p i (point_at p i) (pointed h [] (omega arith) [] p i (omega arith))

pub record SoFar (p : List ℕ) (at a k i : ℕ) : Type 0 where
  pub most : i ≤ length p
  pub room : a + k ≤ 131070
  pub reads :
      (h : Head) (is : List Item) → added is ≡ a → length is < 8192
      → (cs : List ℕ) × (length cs ≡ k) × (found (gap (item h is adding) []) (drop at p) ≡ found (gap (item h is adding) cs) (drop i p))

pub starts : (p : List ℕ) (at a : ℕ) → at ≤ length p → a ≤ 131070 → SoFar p at a 0 at
starts p at a h g = record { most = h; room = omega arith; reads = λ x is e f. ([], refl, refl) }

module _ (p : List ℕ) (at a k i : ℕ) (s : SoFar p at a k i) where
  pub goes_on : {v j : ℕ} → a + k < 131070 → point_at p i ≡ Some (More v j) → SoFar p at a (k + 1) j
  goes_on {v} {j} g e = record {
    most = (rw e at (inside p i));
    room = omega arith;
    reads = λ h is f w. turned h is f w (s.reads h is f w);
  }
    where
      turned :
          (h : Head) (is : List Item) → added is ≡ a → length is < 8192
          → (cs : List ℕ) × (length cs ≡ k) × (found (gap (item h is adding) []) (drop at p) ≡ found (gap (item h is adding) cs) (drop i p))
          → (cs : List ℕ) × (length cs ≡ k + 1) × (found (gap (item h is adding) []) (drop at p) ≡ found (gap (item h is adding) cs) (drop j p))
      turned h is f w (cs, l, q) =
          let t : Pointed h is cs p i (Some (More v j)) = rw e at (pointed h is w cs p i (omega arith)) in
          (cs ++ v ∷ [], length-append cs (v ∷ []) ∙ omega arith, q ∙ t.1)

  pub ends : {v j : ℕ} → a + k < 131070 → point_at p i ≡ Some (Last v j) → PointsRead p at a (Some (record { count = k + 1; next = j }))
  ends {v} {j} g e = record {
    fit = (omega arith, rw e at (inside p i));
    says = λ h is f w.
        let r = s.reads h is f w in
        let l : length r.0 ≡ k = r.1 in
        let t : Pointed h is r.0 p i (Some (Last v j)) = rw e at (pointed h is w r.0 p i (omega arith)) in
        (r.0 ++ v ∷ [], length-append r.0 (v ∷ []) ∙ omega arith, r.2 ∙ t.1);
  }

  pub fails : a + k < 131070 → point_at p i ≡ None → PointsRead p at a None
  fails g e = record {
    fit = tt;
    says = λ h is f w.
        let r = s.reads h is f w in
        let l : length r.0 ≡ k = r.1 in
        let t : Pointed h is r.0 p i None = rw e at (pointed h is w r.0 p i (omega arith)) in
        r.2 ∙ t;
  }

  pub is_full : 131070 ≤ a + k → PointsRead p at a None
  is_full g = record {
    fit = tt;
    says = λ h is f w.
        let r = s.reads h is f w in
        let l : length r.0 ≡ k = r.1 in
        r.2 ∙ crowded h is w r.0 p i (omega arith);
  }
