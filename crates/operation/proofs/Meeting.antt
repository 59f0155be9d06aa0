-- The code's own terms are the merge's definition: what is lost, what stays remembered, where the shared text stands, what is cut.
-- By cases on the operation and the remembered one; a moved start is a drop. Assumes nothing.
use Prim.Native.Nat.{ℕ, zero, suc, ◌+◌, ◌-◌, ◌*◌}
use mathlib.Core.Path.{◌≡◌, refl, sym, ap, ap₂, ◌∙◌}
use mathlib.Core.Bool.{Bool, true, false}
use mathlib.Core.List.{List, [], ◌∷◌}
use native.Mathlib.Nat.{add_assoc}
use lib.Dec.{eqb, ltb}
use lib.ListN.{take, drop, get_or}
use lib.Seq.{slice, slice_empty, drop-drop}
use Rattle.std.specs.Prelude.{Some, None}
use Rattle.overlap.specs.declared.Range.{Range}
use Rattle.overlap.specs.Overlap.{overlap_of}
use Rattle.merging.specs.declared.Op.{Op}
use Rattle.merging.specs.declared.Op.TheVariants.{Delete, Insert, Retain}
use Rattle.merging.specs.Lent.{Lent, rules_of, keys_of, lengths_of, sum}
use Rattle.merging.specs.Operations.{length_of}
use Rattle.merging.specs.Meeting.{inserted, kept_length, tail_of, behind_cut, lost_of, other_of, used_up}
use Rattle.merging.specs.Cursors.{place_of, removed_of}
use Rattle.operation.specs.declared.Last.{Last}
use Rattle.operation.specs.declared.Last.TheVariants.{Nothing, Deleted, Retained, Inserted}
use Rattle.operation.specs.Views.{heads, last_of, of_spans}
use Rattle.operation.specs.Meets.{tail_by, lost_by, met_by, used_by, place_by}

-- a tail in front of what stands behind it
pub tail_next : (a : Op) (rs ls : List Op) → heads (tail_by a rs) ls ≡ tail_of a rs ls
unfolding tail_by behind_cut
tail_next (Delete o l) rs ls = refl
tail_next (Insert o f n) rs ls = refl
tail_next (Retain o l) rs ls = go (ltb (kept_length o l rs) l)
  where
    go :
        (t : Bool)
        → heads (elim t [ true ↦ Some (Retain (o + kept_length o l rs) (l - kept_length o l rs)) | false ↦ None ]) ls
        ≡ elim t [ true ↦ Retain (o + kept_length o l rs) (l - kept_length o l rs) ∷ ls | false ↦ ls ]
    go true = refl
    go false = refl

module _ (lent : Lent) (w : List ℕ) (half fill : ℕ) where
  -- "loses the overlap", "lose from the front the part before the earlier one's end"
  pub lost_is : (a : Op) (v : Last) → (met_by lent.keys w fill a v).lost ≡ lost_of (rules_of lent) a (last_of w half fill v)
  unfolding met_by lost_by lost_of keys_of
  lost_is (Delete o l) Nothing = refl
  lost_is (Delete o l) (Deleted o' l') = refl
  lost_is (Delete o l) (Retained o' l') = refl
  lost_is (Delete o l) (Inserted o' from) = refl
  lost_is (Insert o f n) Nothing = refl
  lost_is (Insert o f n) (Deleted o' l') = refl
  lost_is (Insert o f n) (Retained o' l') = refl
  lost_is (Insert o f n) (Inserted o' from) = refl
  lost_is (Retain o l) Nothing = refl
  lost_is (Retain o l) (Deleted o' l') = refl
  lost_is (Retain o l) (Retained o' l') = refl
  lost_is (Retain o l) (Inserted o' from) = refl

  -- a start that moved by e
  moved_start : (o from e : ℕ) → last_of w half fill (Inserted o (from + e)) ≡ inserted o (drop e (slice from fill w)) (drop e (slice (half + from) (half + fill) w))
  moved_start o from e =
      ap₂ (inserted o) (sym (drop-drop e from (take fill w)))
      (ap (λ (n : ℕ). drop n (take (half + fill) w)) (sym (add_assoc half from e)) ∙ sym (drop-drop e (half + from) (take (half + fill) w)))

  used_all : (o : ℕ) → last_of w half fill (Inserted o fill) ≡ inserted o [] []
  used_all o = ap₂ (inserted o) (slice_empty fill w) (slice_empty (half + fill) w)

  -- "the remembered tokens up to the overlap's end are used up, else all are"
  pub used_is : (a : Op) (v : Last) → last_of w half fill (used_by a v (met_by lent.keys w fill a v) fill) ≡ other_of (rules_of lent) a (last_of w half fill v)
  unfolding met_by used_by used_up keys_of
  used_is (Delete o l) v = refl
  used_is (Insert o f n) Nothing = refl
  used_is (Insert o f n) (Deleted o' l') = refl
  used_is (Insert o f n) (Retained o' l') = refl
  used_is (Insert o f n) (Inserted o' from) = go (eqb (r.end - r.start) n)
    where
      r : Range
      r = overlap_of (slice from fill w) (slice f (f + n) lent.keys)

      go :
          (t : Bool)
          → last_of w half fill (elim t [ true ↦ Inserted o' (from + r.end) | false ↦ Inserted o' fill ])
          ≡ elim t [
            | true ↦ inserted o' (drop r.end (slice from fill w)) (drop r.end (slice (half + from) (half + fill) w))
            | false ↦ inserted o' [] []
          ]
      go true = moved_start o' from r.end
      go false = used_all o'
  used_is (Retain o l) v = refl

  -- "the overlap's place for inserts, the end of merged text for a retain lost to a retain, one point for a retain lost to a delete"
  pub place_is : (a : Op) (v : Last) (merged : ℕ) → place_by w half fill a v (met_by lent.keys w fill a v) merged ≡ place_of (rules_of lent) a (last_of w half fill v) merged
  unfolding met_by lost_by place_by place_of lost_of keys_of
  place_is (Delete o l) v merged = refl
  place_is (Insert o f n) Nothing merged = refl
  place_is (Insert o f n) (Deleted o' l') merged = refl
  place_is (Insert o f n) (Retained o' l') merged = refl
  place_is (Insert o f n) (Inserted o' from) merged = refl
  place_is (Retain o l) Nothing merged = refl
  place_is (Retain o l) (Deleted o' l') merged = refl
  place_is (Retain o l) (Retained o' l') merged = refl
  place_is (Retain o l) (Inserted o' from) merged = refl

-- lengths are read from the spans alone
pub lengths_of_lem : (lent : Lent) (i k : ℕ) → lengths_of (of_spans lent.spans) i k ≡ lengths_of lent i k
unfolding lengths_of
lengths_of_lem lent i zero = refl
lengths_of_lem lent i (suc k) = ap (λ (ls : List ℕ). get_or lent.spans (i * 2 + 1) 0 ∷ ls) (lengths_of_lem lent (i + 1) k)

pub length_is : (lent : Lent) (a : Op) → length_of (of_spans lent.spans) a ≡ length_of lent a
length_is lent (Delete o l) = refl
length_is lent (Insert o f n) = ap sum (lengths_of_lem lent f n)
length_is lent (Retain o l) = refl

pub removed_is : (lent : Lent) (a : Op) (z : ℕ) → removed_of (rules_of (of_spans lent.spans)) a z ≡ removed_of (rules_of lent) a z
removed_is lent (Delete o l) z = refl
removed_is lent (Insert o f n) z = ap sum (lengths_of_lem lent f z)
removed_is lent (Retain o l) z = refl
