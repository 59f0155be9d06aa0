-- What a taken operation meets is the definition's: the overlap's table is written off what is remembered, so all that is read afterwards is as before.
-- By cases on the operation and the remembered one. Assumes nothing.
use Prim.Native.Nat.{ℕ, ◌+◌, ◌≤◌}
use mathlib.Core.Path.{◌≡◌, refl, sym, ap, ap₂, ◌∙◌, subst}
use mathlib.Core.Bool.{Bool, true, false}
use mathlib.Core.List.{List}
use mathlib.Core.Logic.{inr}
use native.Mathlib.Omega.{arith}
use native.Mathlib.Decide.{dec_lt}
use lib.Dec.{eqb}
use lib.Seq.{slice, length-slice}
use Rattle.room.specs.Choice.{pick}
use Rattle.overlap.specs.Overlap.{overlap_of}
use Rattle.overlap.proofs.Overlaps.{overlaps}
use Rattle.merging.specs.declared.Op.{Op}
use Rattle.merging.specs.declared.Op.TheVariants.{Delete, Insert, Retain}
use Rattle.merging.specs.declared.Shift.{Shift}
use Rattle.merging.specs.Lent.{Lent, rules_of}
use Rattle.merging.specs.Operations.{length_of}
use Rattle.merging.specs.Meeting.{Remembered, inserted, lost_of, other_of}
use Rattle.merging.specs.Cursors.{Place, shift_of, place_of, removed_of}
use Rattle.operation.specs.declared.Last.{Last}
use Rattle.operation.specs.declared.Last.TheVariants.{Nothing, Deleted, Retained, Inserted}
use Rattle.operation.specs.declared.Met.{Met}
use Rattle.operation.specs.Views.{LastFits, Keyed, Away, Meetable, Reaches, Placeable, Scratched, tokens, size, of_spans, last_of}
use Rattle.operation.specs.Meets.{lost_by, met_by, met_in, used_by, place_by}
use Rattle.operation.proofs.Scratch.{untouched}
use Rattle.operation.proofs.Places.{place_none, place_some}
use Rattle.operation.proofs.Meeting.{lost_is, used_is, place_is, length_is, removed_is}
use Rattle.turns.specs.Remembering.{Since}
use Rattle.merge.specs.Meetings.{placed_if, Shifted, Facing, Meets}

-- the shared text starts in the merged text
pub place_low : (w : List ℕ) (half fill : ℕ) (a : Op) (v : Last) (m : Met) (merged : ℕ) → (place_by w half fill a v m merged).start ≤ merged
unfolding place_by
place_low w half fill (Delete o l) v m merged = omega arith
place_low w half fill (Insert o f n) Nothing m merged = omega arith
place_low w half fill (Insert o f n) (Deleted o' l') m merged = omega arith
place_low w half fill (Insert o f n) (Retained o' l') m merged = omega arith
place_low w half fill (Insert o f n) (Inserted o' from) m merged =
    elim (dec_lt m.overlap.start m.overlap.end) [
      | yes h ↦ subst (λ (p : Place). p.start ≤ merged) (sym (place_some m.overlap _ merged h)) (omega arith)
      | no h ↦ subst (λ (p : Place). p.start ≤ merged) (sym (place_none m.overlap _ merged (omega arith))) (omega arith)
    ]
place_low w half fill (Retain o l) Nothing m merged = omega arith
place_low w half fill (Retain o l) (Deleted o' l') m merged = omega arith
place_low w half fill (Retain o l) (Retained o' l') m merged = omega arith
place_low w half fill (Retain o l) (Inserted o' from) m merged = omega arith

-- an operation loses no more than it has
pub lost_most : (keys w : List ℕ) (fill : ℕ) (a : Op) (v : Last) → Keyed keys a → (met_by keys w fill a v).lost ≤ size a
unfolding met_by lost_by
lost_most keys w fill (Delete o l) Nothing k = omega arith
lost_most keys w fill (Delete o l) (Deleted o' l') k = omega arith
lost_most keys w fill (Delete o l) (Retained o' l') k = omega arith
lost_most keys w fill (Delete o l) (Inserted o' from) k = omega arith
lost_most keys w fill (Insert o f n) Nothing k = omega arith
lost_most keys w fill (Insert o f n) (Deleted o' l') k = omega arith
lost_most keys w fill (Insert o f n) (Retained o' l') k = omega arith
lost_most keys w fill (Insert o f n) (Inserted o' from) k =
    omega (arith, (overlaps (slice from fill w) (slice f (f + n) keys)).fits, length-slice f (f + n) keys k)
lost_most keys w fill (Retain o l) Nothing k = omega arith
lost_most keys w fill (Retain o l) (Deleted o' l') k = omega arith
lost_most keys w fill (Retain o l) (Retained o' l') k = omega arith
lost_most keys w fill (Retain o l) (Inserted o' from) k = omega arith

pub used_fits : (fill : ℕ) (a : Op) (v : Last) (m : Met) → LastFits v → LastFits (used_by a v m fill)
unfolding used_by
used_fits fill (Delete o l) v m h = h
used_fits fill (Insert o f n) Nothing m h = h
used_fits fill (Insert o f n) (Deleted o' l') m h = h
used_fits fill (Insert o f n) (Retained o' l') m h = h
used_fits fill (Insert o f n) (Inserted o' from) m h = go (eqb m.lost n)
  where
    go : (t : Bool) → LastFits (elim t [ true ↦ Inserted o' (from + m.overlap.end) | false ↦ Inserted o' fill ])
    go true = tt
    go false = tt
used_fits fill (Retain o l) v m h = h

pub used_since : (fill : ℕ) (a : Op) (v : Last) (m : Met) (base : ℕ) → Reaches v m fill → Since v base fill → Since (used_by a v m fill) base fill
unfolding used_by
used_since fill (Delete o l) v m base r h = h
used_since fill (Insert o f n) Nothing m base r h = h
used_since fill (Insert o f n) (Deleted o' l') m base r h = h
used_since fill (Insert o f n) (Retained o' l') m base r h = h
used_since fill (Insert o f n) (Inserted o' from) m base r h = go (eqb m.lost n)
  where
    go : (t : Bool) → Since (elim t [ true ↦ Inserted o' (from + m.overlap.end) | false ↦ Inserted o' fill ]) base fill
    go true = (omega (arith, h.0), r.0)
    go false = (omega (arith, h.0, h.1), omega arith)
used_since fill (Retain o l) v m base r h = h

-- a shift is its numbers
same-shift :
    {r t : Shift} → r.seen ≡ t.seen → r.length ≡ t.length → r.removed ≡ t.removed → r.start ≡ t.start → r.shared ≡ t.shared
    → r.merged ≡ t.merged → r ≡ t
same-shift a b c d e f = λ i. record { seen = a i; length = b i; removed = c i; start = d i; shared = e i; merged = f i }

module _ {spans keys w : List ℕ} {half fill table : ℕ} where
  pub meetable : (a : Op) (v : Last) → Facing spans keys w half fill table a v → LastFits v × Meetable keys w a v fill table
  meetable a v f =
      (f.fits, record { lent = f.keyed; few = f.few; place = omega (arith, f.place, f.room); filled = omega (arith, f.filled, f.room); apart = f.away })

  -- the overlap lies in what is remembered
  pub reaches : (a : Op) (v : Last) → Facing spans keys w half fill table a v → Reaches v (met_by keys w fill a v) fill
  unfolding met_by
  reaches a Nothing f = tt
  reaches a (Deleted o l) f = tt
  reaches a (Retained o l) f = tt
  reaches (Delete o l) (Inserted o' from) f = (omega (arith, f.away.0), omega arith)
  reaches (Insert o i n) (Inserted o' from) f =
      let v = overlaps (slice from fill w) (slice i (i + n) keys) in
      (omega (arith, v.high, length-slice from fill w (omega (arith, f.filled, f.room)), f.away.0), v.low)
  reaches (Retain o l) (Inserted o' from) f = (omega (arith, f.away.0), omega arith)

  module _ {w' : List ℕ} (a : Op) (v : Last) (f : Facing spans keys w half fill table a v) (s : Scratched w w' table (tokens a)) where
    -- what is remembered stands off the table
    old_keys : (o from : ℕ) → v ≡ Inserted o from → slice from fill w' ≡ slice from fill w
    old_keys o from e =
        let p : Away (Inserted o from) fill table (tokens a) = rw e at f.away in
        untouched s from fill p.0 (omega (arith, f.filled, f.room)) p.1

    old_lengths : (o from : ℕ) → v ≡ Inserted o from → slice (half + from) (half + fill) w' ≡ slice (half + from) (half + fill) w
    old_lengths o from e =
        let p : Away (Inserted o from) fill table (tokens a) = rw e at f.away in
        untouched s (half + from) (half + fill) (omega (arith, p.0)) (omega (arith, f.filled, f.room)) (inr (omega (arith, f.place)))

    pub same_last : last_of w' half fill v ≡ last_of w half fill v
    same_last = go v refl
      where
        go : (u : Last) → v ≡ u → last_of w' half fill u ≡ last_of w half fill u
        go Nothing e = refl
        go (Deleted o l) e = refl
        go (Retained o l) e = refl
        go (Inserted o from) e = ap₂ (inserted o) (old_keys o from e) (old_lengths o from e)

    pub same_met : met_by keys w' fill a v ≡ met_by keys w fill a v
    unfolding met_by
    same_met = go a v refl
      where
        go : (b : Op) (u : Last) → v ≡ u → met_by keys w' fill b u ≡ met_by keys w fill b u
        go (Delete o l) u e = refl
        go (Insert o i n) Nothing e = refl
        go (Insert o i n) (Deleted o' l') e = refl
        go (Insert o i n) (Retained o' l') e = refl
        go (Insert o i n) (Inserted o' from) e = ap (λ (old : List ℕ). met_in (overlap_of old (slice i (i + n) keys))) (old_keys o' from e)
        go (Retain o l) u e = refl

    pub placeable : (m : Met) → m ≡ met_by keys w fill a v → Placeable w' half fill v m
    placeable m e =
        record {
          reaches = subst (λ (x : Met). Reaches v x fill) (sym e) (reaches a v f);
          within = omega (arith, s.same, f.filled, f.room);
          few = omega (arith, f.filled, f.small);
        }

    -- the whole of it, from what the functions called ensure
    pub meets :
        (m : Met) (t : Shift) (u : Last) (awaited : Bool) (seen own merged : ℕ) → own ≡ length_of (of_spans spans) a → m ≡ met_by keys w fill a v
        → Shifted spans w' half fill a v m awaited seen own merged t → u ≡ used_by a v m fill
        → Meets spans keys w w' half fill table a v awaited seen merged (record { lost = m.lost; shift = t; last = u })
    unfolding shift_of
    meets m t u awaited seen own merged el em st eu =
        record {
          lost = λ lent es ek. ap (λ (x : Met). x.lost) (em ∙ ap (λ (k : List ℕ). met_by k w fill a v) (sym ek)) ∙ lost_is lent w half fill a v;
          most = subst (λ (x : Met). x.lost ≤ size a) (sym em) (lost_most keys w fill a v f.keyed);
          shift = λ lent es ek. shifts lent es ek;
          start = subst (λ (x : ℕ). x ≤ merged) (sym st.start_is) (low awaited);
          stays = λ lent es ek. stays lent es ek;
          fits = subst LastFits (sym eu) (used_fits fill a v m f.fits);
          since = λ base h. subst (λ (x : Last). Since x base fill) (sym eu) (used_since fill a v m base (subst (λ (x : Met). Reaches v x fill) (sym em) (reaches a v f)) h);
          scratched = s;
        }
      where
        low : (b : Bool) → pick b (place_by w' half fill a v m merged).start merged ≤ merged
        low true = place_low w' half fill a v m merged
        low false = omega arith

        -- the same meeting, over the room as it is now
        now_met : (lent : Lent) → lent.keys ≡ keys → m ≡ met_by lent.keys w' fill a v
        now_met lent ek = em ∙ sym same_met ∙ ap (λ (k : List ℕ). met_by k w' fill a v) (sym ek)

        stays : (lent : Lent) → lent.spans ≡ spans → lent.keys ≡ keys → last_of w' half fill u ≡ other_of (rules_of lent) a (last_of w half fill v)
        stays lent es ek =
            ap (last_of w' half fill) (eu ∙ ap (λ (x : Met). used_by a v x fill) (now_met lent ek))
            ∙ used_is lent w' half fill a v
            ∙ ap (other_of (rules_of lent) a) same_last

        place : (lent : Lent) → lent.keys ≡ keys → place_by w' half fill a v m merged ≡ place_of (rules_of lent) a (last_of w half fill v) merged
        place lent ek =
            ap (λ (x : Met). place_by w' half fill a v x merged) (now_met lent ek)
            ∙ place_is lent w' half fill a v merged
            ∙ ap (λ (x : Remembered). place_of (rules_of lent) a x merged) same_last

        shifts : (lent : Lent) → lent.spans ≡ spans → lent.keys ≡ keys → t ≡ placed_if awaited (shift_of (rules_of lent) a (last_of w half fill v) seen merged)
        shifts lent es ek =
            let q = place lent ek in
            let z : removed_of (rules_of (of_spans spans)) a m.lost ≡ removed_of (rules_of lent) a (lost_of (rules_of lent) a (last_of w half fill v)) =
            ap (λ (x : List ℕ). removed_of (rules_of (of_spans x)) a m.lost) (sym es)
            ∙ removed_is lent a m.lost
            ∙ ap (removed_of (rules_of lent) a) (ap (λ (x : Met). x.lost) (em ∙ ap (λ (k : List ℕ). met_by k w fill a v) (sym ek)) ∙ lost_is lent w half fill a v) in
            same-shift st.seen_is
            (st.length_is ∙ el ∙ ap (λ (x : List ℕ). length_of (of_spans x) a) (sym es) ∙ length_is lent a)
            (st.removed_is ∙ z)
            (st.start_is ∙ ap (λ (p : Place). pick awaited p.start merged) q)
            (st.shared_is ∙ ap (λ (p : Place). pick awaited p.shared 0) q)
            st.merged_is
