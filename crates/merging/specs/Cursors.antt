-- The cursor rules. Assumes nothing.
use Rattle.std.specs.Prelude.{ℕ, ◌+◌, ◌-◌, min, ◌≤◌, true, false, List, [], ◌∷◌, eqb, leb, drop}
use Rattle.std.proofs.Math.Seq.{slice}
use Rattle.overlap.specs.declared.Range.{Range}
use Rattle.records.specs.declared.Cursor.{Cursor}
use Rattle.records.specs.Cursors.{at_index}
use Rattle.merging.specs.declared.Op.{Op}
use Rattle.merging.specs.declared.Op.TheVariants.{Delete, Insert, Retain}
use Rattle.merging.specs.declared.Shift.{Shift}
use Rattle.merging.specs.Lent.{Rules, keys_of, lengths_of, sum}
use Rattle.merging.specs.Operations.{length_of}
use Rattle.merging.specs.Meeting.{Remembered, nothing, deleted, retained, inserted, width_of, lost_of}

-- "the shared text": where it starts in the merged text, and its length
pub record Place : Type 0 where
  pub start : ℕ
  pub shared : ℕ

-- "the overlap's place for inserts": the remembered tokens, of lengths ls, end the merged text; no overlap has no place, and
-- then its one point is the end of the merged text
unfoldable pub overlap_place : Range → List ℕ → ℕ → Place
overlap_place r ls merged =
    elim (eqb (width_of r) 0) [
      | true ↦ record { start = merged; shared = 0 }
      | false ↦ record { start = merged - sum (drop r.start ls); shared = sum (slice r.start r.end ls) }
    ]

-- "the overlap's place for inserts, the end of merged text for a retain lost to a retain, one point for a retain lost to a delete"
unfoldable pub place_of : Rules → Op → Remembered → ℕ → Place
place_of R (Delete o l) v merged = record { start = merged; shared = 0 }
place_of R (Insert o f n) nothing merged = record { start = merged; shared = 0 }
place_of R (Insert o f n) (deleted o' l') merged = record { start = merged; shared = 0 }
place_of R (Insert o f n) (retained o' l') merged = record { start = merged; shared = 0 }
place_of R (Insert o f n) (inserted o' ks ls) merged = overlap_place (R.overlap ks (keys_of R.lent f n)) ls merged
place_of R (Retain o l) nothing merged = record { start = merged; shared = 0 }
place_of R (Retain o l) (deleted o' l') merged = record { start = merged; shared = 0 }
place_of R (Retain o l) (retained o' l') merged =
    record { start = merged - lost_of R (Retain o l) (retained o' l'); shared = lost_of R (Retain o l) (retained o' l') }
place_of R (Retain o l) (inserted o' ks ls) merged = record { start = merged; shared = 0 }

-- "Inside the lost front": its length in the side's own text, z being lost of the operation
abbrev pub removed_of : Rules → Op → ℕ → ℕ
removed_of R (Delete o l) z = 0
removed_of R (Insert o f n) z = sum (lengths_of R.lent f z)
removed_of R (Retain o l) z = z

-- "those up to the operation's end in their own text move with a retain or insert": how, when a is taken and v is remembered of the
-- other side
unfoldable pub shift_of : Rules → Op → Remembered → ℕ → ℕ → Shift
shift_of R a v seen merged =
    record {
      seen = seen;
      length = length_of R.lent a;
      removed = removed_of R a (lost_of R a v);
      start = (place_of R a v merged).start;
      shared = (place_of R a v merged).shared;
      merged = merged;
    }

-- "the same offset of the shared text": the lost front is a part of the operation, and the shared text a part of the merged text
pub record Fine (t : Shift) : Type 0 where
  pub lost : t.removed ≤ t.length
  pub within : t.start + t.shared ≤ t.merged

-- "Inside the lost front, its end included, they go to the same offset of the shared text, capped at its length [..]. Otherwise
-- they go to the offset in the rest."
unfoldable pub moved_index : Shift → ℕ → ℕ
moved_index t i =
    elim (leb (i - t.seen) t.removed) [
      | true ↦ t.start + min (i - t.seen) t.shared
      | false ↦ t.merged + (i - t.seen) - t.removed
    ]

-- "those up to the operation's end in their own text move": of cursors sorted by index, those that move
unfoldable pub moved : Shift → List Cursor → List Cursor
moved t [] = []
moved t (c ∷ cs) = elim (leb c.index (t.seen + t.length)) [ true ↦ at_index c (moved_index t c.index) ∷ moved t cs | false ↦ [] ]

-- "those up to the operation's end in their own text move": those that do not
unfoldable pub behind : Shift → List Cursor → List Cursor
behind t [] = []
behind t (c ∷ cs) = elim (leb c.index (t.seen + t.length)) [ true ↦ behind t cs | false ↦ c ∷ cs ]

-- "move with a retain or insert": with a delete none does
abbrev pub moved_by : Op → Shift → List Cursor → List Cursor
moved_by (Delete o l) t cs = []
moved_by (Insert o f n) t cs = moved t cs
moved_by (Retain o l) t cs = moved t cs

-- "move with a retain or insert": those that do not move
abbrev pub behind_of : Op → Shift → List Cursor → List Cursor
behind_of (Delete o l) t cs = cs
behind_of (Insert o f n) t cs = behind t cs
behind_of (Retain o l) t cs = behind t cs

-- "Leftovers go to the end"
unfoldable pub ended : ℕ → List Cursor → List Cursor
ended e [] = []
ended e (c ∷ cs) = at_index c e ∷ ended e cs
