-- What a taken operation meets, in the code's own terms; the laws of proofs/Meeting.antt tie each to the merge's definition.
-- Assumes nothing.
use Rattle.std.specs.Prelude.{ℕ, ◌+◌, ◌-◌, min, ◌≡◌, true, false, List, Option, Some, None, eqb, ltb}
use Rattle.std.proofs.Math.Seq.{slice}
use Rattle.overlap.specs.declared.Range.{Range}
use Rattle.overlap.specs.Overlap.{overlap_of}
use Rattle.merging.specs.declared.Op.{Op}
use Rattle.merging.specs.declared.Op.TheVariants.{Delete, Insert, Retain}
use Rattle.merging.specs.Meeting.{kept_length}
use Rattle.merging.specs.Cursors.{Place, overlap_place}
use Rattle.operation.specs.declared.Last.{Last}
use Rattle.operation.specs.declared.Last.TheVariants.{Nothing, Deleted, Retained, Inserted}
use Rattle.operation.specs.declared.Met.{Met}
use Rattle.operation.specs.declared.Place.{Place as Spot}

-- "The tail stays next."
unfoldable pub tail_by : Op → List Op → Option Op
tail_by (Delete o l) rs = None
tail_by (Insert o f n) rs = None
tail_by (Retain o l) rs =
    elim (ltb (kept_length o l rs) l) [ true ↦ Some (Retain (o + kept_length o l rs) (l - kept_length o l rs)) | false ↦ None ]

-- "delete after delete, retain after retain, retain after delete lose from the front the part before the earlier one's end"
unfoldable pub lost_by : Op → Last → ℕ
lost_by (Delete o l) Nothing = 0
lost_by (Delete o l) (Deleted o' l') = min l (o' + l' - o)
lost_by (Delete o l) (Retained o' l') = 0
lost_by (Delete o l) (Inserted o' from) = 0
lost_by (Insert o f n) v = 0
lost_by (Retain o l) Nothing = 0
lost_by (Retain o l) (Deleted o' l') = min l (o' + l' - o)
lost_by (Retain o l) (Retained o' l') = min l (o' + l' - o)
lost_by (Retain o l) (Inserted o' from) = 0

-- what was lost, where there is no overlap
abbrev pub met : ℕ → Met
met z = record { lost = z; overlap = record { start = 0; end = 0 } }

-- "Insert after remembered insert loses the overlap": by its range
abbrev pub met_in : Range → Met
met_in r = record { lost = r.end - r.start; overlap = r }

-- "Insert after remembered insert loses the overlap": the remembered keys stand in the work room w up to fill
unfoldable pub met_by : List ℕ → List ℕ → ℕ → Op → Last → Met
met_by keys w fill (Delete o l) v = met (lost_by (Delete o l) v)
met_by keys w fill (Insert o f n) Nothing = met 0
met_by keys w fill (Insert o f n) (Deleted o' l') = met 0
met_by keys w fill (Insert o f n) (Retained o' l') = met 0
met_by keys w fill (Insert o f n) (Inserted o' from) = met_in (overlap_of (slice from fill w) (slice f (f + n) keys))
met_by keys w fill (Retain o l) v = met (lost_by (Retain o l) v)

-- "if all its tokens were lost, the remembered tokens up to the overlap's end are used up, else all are"
unfoldable pub used_by : Op → Last → Met → ℕ → Last
used_by (Delete o l) v m fill = v
used_by (Insert o f n) Nothing m fill = Nothing
used_by (Insert o f n) (Deleted o' l') m fill = Deleted o' l'
used_by (Insert o f n) (Retained o' l') m fill = Retained o' l'
used_by (Insert o f n) (Inserted o' from) m fill = elim (eqb m.lost n) [ true ↦ Inserted o' (from + m.overlap.end) | false ↦ Inserted o' fill ]
used_by (Retain o l) v m fill = v

-- "one point": the end of the merged text
abbrev pub point : ℕ → Place
point merged = record { start = merged; shared = 0 }

-- "the overlap's place for inserts, the end of merged text for a retain lost to a retain, one point for a retain lost to a delete"
unfoldable pub place_by : List ℕ → ℕ → ℕ → Op → Last → Met → ℕ → Place
place_by w half fill (Delete o l) v m merged = point merged
place_by w half fill (Insert o f n) Nothing m merged = point merged
place_by w half fill (Insert o f n) (Deleted o' l') m merged = point merged
place_by w half fill (Insert o f n) (Retained o' l') m merged = point merged
place_by w half fill (Insert o f n) (Inserted o' from) m merged =
    overlap_place m.overlap (slice (half + from) (half + fill) w) merged
place_by w half fill (Retain o l) Nothing m merged = point merged
place_by w half fill (Retain o l) (Deleted o' l') m merged = point merged
place_by w half fill (Retain o l) (Retained o' l') m merged = record { start = merged - m.lost; shared = m.lost }
place_by w half fill (Retain o l) (Inserted o' from) m merged = point merged

-- the code's place is the definition's
pub record Placed (r : Spot) (p : Place) : Type 0 where
  pub start : r.start ≡ p.start
  pub shared : r.shared ≡ p.shared
