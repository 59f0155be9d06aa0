-- Shown: a pass from the front that holds a retain back gives the same items as the definition, which joins from the back.
-- How: by cases on what stands behind the retain.
use Prim.Native.Nat.{ℕ, zero, suc, ◌+◌, ◌<◌}
use mathlib.Core.Path.{◌≡◌, refl, sym, ◌∙◌, ap}
use mathlib.Core.Bool.{Bool, true, false}
use mathlib.Core.List.{List, [], ◌∷◌, ◌++◌}
use native.Mathlib.Omega.{arith}
use native.Mathlib.Nat.{add_assoc}
use lib.ListN.{length}
use Rattle.diff.specs.Replay.{Edit, retain, delete, insert, added as addedBy}
use Rattle.edit_format.specs.Items.{Drop, Add, added}
use Rattle.merging.specs.Outputs.{joined}
use Rattle.to_diff.specs.Items.{item_of, items_of}
use Rattle.to_diff.specs.Writes.{keeps}

-- items are as many as edits, and add what they add
pub length_items : (es : List Edit) → length (items_of es) ≡ length es
unfolding items_of
length_items [] = refl
length_items (e ∷ es) = ap suc (length_items es)

pub added_items : (es : List Edit) → added (items_of es) ≡ addedBy es
unfolding items_of item_of added addedBy
added_items [] = refl
added_items (retain n ∷ es) = added_items es
added_items (delete n ∷ es) = added_items es
added_items (insert s ∷ es) = ap (λ (n : ℕ). length s + n) (added_items es)

-- edits with a retain held back before them: 0 is none
unfoldable pub pended : ℕ → List Edit → List Edit
pended zero es = es
pended (suc p) es = joined (suc p) es

pend_some : (p : ℕ) (es : List Edit) → 0 < p → pended p es ≡ joined p es
unfolding pended
pend_some zero es h = absurd (omega arith)
pend_some (suc p) es h = refl

joined_joined : (p l : ℕ) (es : List Edit) → joined p (joined l es) ≡ joined (p + l) es
joined_joined p l [] = refl
joined_joined p l (retain n ∷ es) = ap (λ (m : ℕ). retain m ∷ es) (sym (add_assoc p l n))
joined_joined p l (delete n ∷ es) = refl
joined_joined p l (insert s ∷ es) = refl

-- a retain behind the one held back joins it
pub pend_more : (p l : ℕ) (es : List Edit) → 0 < l → pended p (joined l es) ≡ pended (p + l) es
unfolding pended
pend_more zero l es h = let e : l ≡ 0 + l = omega arith in ap (λ (m : ℕ). joined m es) e ∙ sym (pend_some (0 + l) es (omega arith))
pend_more (suc p) l es h = joined_joined (suc p) l es ∙ sym (pend_some (suc p + l) es (omega arith))

-- what is held back is written before a delete, an insert, and the end
pub pend_none : (p : ℕ) → items_of (pended p []) ≡ keeps p
unfolding pended items_of item_of keeps
pend_none zero = refl
pend_none (suc p) = refl

pub pend_delete : (p n : ℕ) (es : List Edit) → items_of (pended p (delete n ∷ es)) ≡ keeps p ++ Drop n ∷ items_of es
unfolding pended items_of item_of keeps
pend_delete zero n es = refl
pend_delete (suc p) n es = refl

pub pend_insert : (p : ℕ) (s : List ℕ) (es : List Edit) → items_of (pended p (insert s ∷ es)) ≡ keeps p ++ Add s ∷ items_of es
unfolding pended items_of item_of keeps
pend_insert zero s es = refl
pend_insert (suc p) s es = refl

-- the edits that are not counted yet, where a retain before them is
unfoldable pub behind : Bool → List Edit → List Edit
behind false es = es
behind true [] = []
behind true (retain n ∷ es) = es
behind true (delete n ∷ es) = delete n ∷ es
behind true (insert s ∷ es) = insert s ∷ es

pub behind_first : (l : ℕ) (es : List Edit) → length (joined l es) ≡ suc (length (behind true es))
unfolding behind
behind_first l [] = refl
behind_first l (retain n ∷ es) = refl
behind_first l (delete n ∷ es) = refl
behind_first l (insert s ∷ es) = refl

pub behind_joined : (l : ℕ) (es : List Edit) → behind true (joined l es) ≡ behind true es
unfolding behind
behind_joined l [] = refl
behind_joined l (retain n ∷ es) = refl
behind_joined l (delete n ∷ es) = refl
behind_joined l (insert s ∷ es) = refl

pub behind_delete : (j : Bool) (n : ℕ) (es : List Edit) → behind j (delete n ∷ es) ≡ delete n ∷ es
unfolding behind
behind_delete true n es = refl
behind_delete false n es = refl

pub behind_insert : (j : Bool) (s : List ℕ) (es : List Edit) → behind j (insert s ∷ es) ≡ insert s ∷ es
unfolding behind
behind_insert true s es = refl
behind_insert false s es = refl
