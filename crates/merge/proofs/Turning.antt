-- A turn from its parts: the front of an operation asks no more than the operation, what is written in the work room is off what is remembered, and the values that the functions called give are the definition's.
-- By cases on the operation taken, and by what the functions called ensure, field by field. Assumes nothing.
use Rattle.std.specs.Prelude.{Option}
use Prim.Native.Nat.{ℕ, ◌+◌, ◌-◌, ◌*◌, ◌≤◌}
use mathlib.Core.Path.{◌≡◌, refl, sym, ap, ap₂, ◌∙◌, subst}
use mathlib.Core.Bool.{Bool, true, false}
use mathlib.Core.List.{List, [], ◌++◌}
use mathlib.Core.Logic.{inl, inr, ⊎_elim}
use native.Mathlib.Omega.{arith}
use lib.ListN.{length}
use Rattle.room.specs.Placed.{answered}
use Rattle.records.specs.declared.Cursor.{Cursor}
use Rattle.records.specs.Cursors.{flat_cursors}
use Rattle.records.specs.Operations.{flat_operations}
use Rattle.merging.specs.declared.Op.{Op}
use Rattle.merging.specs.declared.Op.TheVariants.{Delete, Insert, Retain}
use Rattle.merging.specs.declared.Shift.{Shift}
use Rattle.merging.specs.Lent.{Lent, rules_of}
use Rattle.merging.specs.Operations.{length_of, span_of, records_of}
use Rattle.merging.specs.Meeting.{inserted, front_of, shortened, met_of, remember_of}
use Rattle.merging.specs.Cursors.{shift_of, removed_of, moved_by, behind_of}
use Rattle.merging.specs.Turn.{emitted}
use Rattle.merging.proofs.OneTurn.{keep_less}
use Rattle.merging.proofs.Sums.{lengths_split}
use Rattle.operation.specs.declared.Last.{Last}
use Rattle.operation.specs.declared.Last.TheVariants.{Nothing, Deleted, Retained, Inserted}
use Rattle.numbers.specs.Sizes.{most}
use Rattle.operation.specs.Views.{heads, last_of, size, tokens, of_spans, Away, Scratched}
use Rattle.operation.specs.Meets.{tail_by}
use Rattle.operation.proofs.Scratch.{untouched}
use Rattle.operation.proofs.Meeting.{length_is}
use Rattle.turns.specs.declared.Ahead.{Ahead}
use Rattle.operation.specs.declared.Memory.{Memory}
use Rattle.turns.specs.Looking.{Looks}
use Rattle.turns.specs.Remembering.{Began, Since, Kept, Rememberable, Remembers}
use Rattle.turns.specs.Emitting.{Emits}
use Rattle.cursor_position.specs.declared.Progress.{Progress}
use Rattle.cursor_position.specs.Moves.{waits, Fits, Went}
use Rattle.cursor_position.proofs.Waiting.{none_moves, all_stay}
use Rattle.merge.specs.declared.Meeting.{Meeting}
use Rattle.merge.specs.declared.Side.{Side}
use Rattle.merge.specs.declared.Totals.{Totals}
use Rattle.merge.specs.declared.Sides.{Sides}
use Rattle.merge.specs.Meetings.{placed_if, Facing, Meets}
use Rattle.merge.specs.Turning.{Sound, memory_of, cursors_left, taken, result, shift_by, Turnable, Made, Turns}

-- a retain is cut, never grown
pub front_sound : {spans keys : List ℕ} (a : Op) (rs : List Op) → Sound spans keys a → Sound spans keys (front_of a rs)
front_sound (Delete o l) rs s = s
front_sound (Insert o f n) rs s = s
front_sound (Retain o l) rs s = record { reaches = omega (arith, s.reaches, keep_less o l rs); lies = tt; keyed = tt; few = s.few }

pub front_tokens : (a : Op) (rs : List Op) → tokens (front_of a rs) ≡ tokens a
front_tokens (Delete o l) rs = refl
front_tokens (Insert o f n) rs = refl
front_tokens (Retain o l) rs = refl

pub front_length : (lent : Lent) (a : Op) (rs : List Op) → length_of lent (front_of a rs) ≤ length_of lent a
front_length lent (Delete o l) rs = omega arith
front_length lent (Insert o f n) rs = omega arith
front_length lent (Retain o l) rs = keep_less o l rs

pub front_span : (a : Op) (rs : List Op) → span_of (front_of a rs) ≤ span_of a
front_span (Delete o l) rs = omega arith
front_span (Insert o f n) rs = omega arith
front_span (Retain o l) rs = keep_less o l rs

-- what is left of an operation that lost z
pub rest_length : (lent : Lent) (b : Op) (z : ℕ) → z ≤ size b → length_of lent b ≡ removed_of (rules_of lent) b z + length_of lent (shortened b z)
rest_length lent (Delete o l) z h = omega arith
rest_length lent (Insert o f n) z h = lengths_split lent z f n h
rest_length lent (Retain o l) z h = omega arith

pub rest_tokens : (b : Op) (z : ℕ) → tokens (shortened b z) ≤ tokens b
rest_tokens (Delete o l) z = omega arith
rest_tokens (Insert o f n) z = omega arith
rest_tokens (Retain o l) z = omega arith

pub rest_span : (b : Op) (z : ℕ) → span_of (shortened b z) ≤ span_of b
rest_span (Delete o l) z = omega arith
rest_span (Insert o f n) z = omega arith
rest_span (Retain o l) z = omega arith

pub rest_sound : {spans keys : List ℕ} (b : Op) (z : ℕ) → z ≤ size b → Sound spans keys b → Sound spans keys (shortened b z)
rest_sound (Delete o l) z h s = record { reaches = omega (arith, s.reaches); lies = tt; keyed = tt; few = s.few }
rest_sound (Insert o f n) z h s =
    record { reaches = omega (arith, s.reaches); lies = (omega (arith, s.lies), omega (arith, s.lies)); keyed = omega (arith, s.keyed); few = omega (arith, s.few) }
rest_sound (Retain o l) z h s = record { reaches = omega (arith, s.reaches); lies = tt; keyed = tt; few = s.few }

-- what is remembered, when the work room changes off it
module _ {w w' : List ℕ} {half : ℕ} where
  pub same_scratched : {at n : ℕ} → Scratched w w' at n → (fill : ℕ) (v : Last) → Away v fill at n → fill ≤ half → at + n ≤ half → half + half ≤ length w
      → last_of w' half fill v ≡ last_of w half fill v
  same_scratched s fill Nothing a f h k = refl
  same_scratched s fill (Deleted o l) a f h k = refl
  same_scratched s fill (Retained o l) a f h k = refl
  same_scratched s fill (Inserted o from) a f h k =
      ap₂ (inserted o) (untouched s from fill a.0 (omega arith) a.1) (untouched s (half + from) (half + fill) (omega (arith, a.0)) (omega arith) (inr (omega arith)))

  pub same_kept : {at n : ℕ} → Kept w w' half at n → (m fill : ℕ) (v : Last) → Away v fill at m → n ≤ m → fill ≤ half → at + m ≤ half
      → last_of w' half fill v ≡ last_of w half fill v
  same_kept s m fill Nothing a l f h = refl
  same_kept s m fill (Deleted o l') a l f h = refl
  same_kept s m fill (Retained o l') a l f h = refl
  same_kept {at} {n} s m fill (Inserted o from) a l f h =
      ⊎_elim
      (λ (q : fill ≤ at). ap₂ (inserted o) (s.front from fill q) (s.middle (half + from) (half + fill) (omega arith) (omega arith)))
      (λ (q : at + m ≤ from). ap₂ (inserted o) (s.middle from fill (omega arith) (omega arith)) (s.back (half + from) (half + fill) (omega arith)))
      a.1

-- what stays remembered stands where it stood
pub away_of : (fill at n : ℕ) (v u : Last) → Away v fill at n → ((base : ℕ) → Since v base fill → Since u base fill) → Away u fill at n
away_of fill at n v Nothing a h = tt
away_of fill at n v (Deleted o l) a h = tt
away_of fill at n v (Retained o l) a h = tt
away_of fill at n Nothing (Inserted o from) a h = let s = h (fill + 1) tt in absurd (omega (arith, s.0, s.1))
away_of fill at n (Deleted o' l') (Inserted o from) a h = let s = h (fill + 1) tt in absurd (omega (arith, s.0, s.1))
away_of fill at n (Retained o' l') (Inserted o from) a h = let s = h (fill + 1) tt in absurd (omega (arith, s.0, s.1))
away_of fill at n (Inserted o' from') (Inserted o from) a h =
    ⊎_elim (λ (q : fill ≤ at). ((h 0 (omega arith, a.0)).1, inl q)) (λ (q : at + n ≤ from'). let s = h (at + n) (q, a.0) in (s.1, inr s.0)) a.1

own_away : (v : Last) (fill n : ℕ) → Began v fill → Away v fill fill n
own_away Nothing fill n b = tt
own_away (Deleted o l) fill n b = tt
own_away (Retained o l) fill n b = tt
own_away (Inserted o from) fill n b = (b, inl (omega arith))

-- where no cursor waits for it, the place of a shift is of no use
module _ (a : Op) (t : Shift) (cs : List Cursor) where
  pub moved_if : moved_by a (placed_if (waits (t.seen + t.length) cs) t) cs ≡ moved_by a t cs
  moved_if = go (waits (t.seen + t.length) cs) refl
    where
      go : (b : Bool) → waits (t.seen + t.length) cs ≡ b → moved_by a (placed_if b t) cs ≡ moved_by a t cs
      go true e = refl
      go false e = none_moves a (placed_if false t) cs e ∙ sym (none_moves a t cs e)

  pub behind_if : behind_of a (placed_if (waits (t.seen + t.length) cs) t) cs ≡ behind_of a t cs
  behind_if = go (waits (t.seen + t.length) cs) refl
    where
      go : (b : Bool) → waits (t.seen + t.length) cs ≡ b → behind_of a (placed_if b t) cs ≡ behind_of a t cs
      go true e = refl
      go false e = all_stay a (placed_if false t) cs e ∙ sym (all_stay a t cs e)

-- what was lent, as far as a turn sees it
abbrev seen_of : List ℕ → List ℕ → Lent
seen_of spans keys = record { original = []; inserted = []; spans = spans; keys = keys }

-- what the functions that a turn calls ensure, b being what is taken
pub record Parts (spans keys ops cs w w₁ w₂ : List ℕ) (half : ℕ) (own other : Side) (totals : Totals) (number : ℕ) (out out' moved moved' : List ℕ)
    (b : Op) (tail : Option Op) (awaited : Bool) (r : Meeting) (p : Progress) (m : Op) (kept : Memory) (place span : ℕ) (coming : Ahead) : Type 0 where
  pub awaits : awaited ≡ waits (own.seen + length_of (of_spans spans) b) (cursors_left cs own.cursor)
  pub meets : Meets spans keys w w₁ half other.memory.fill own.memory.fill b other.memory.last awaited own.seen totals.merged r
  pub went : Went cs (moved_by b r.shift (cursors_left cs own.cursor)) (behind_of b r.shift (cursors_left cs own.cursor)) moved moved'
      (record { next = own.cursor; count = totals.cursors }) p
  pub rest : m ≡ shortened b r.lost
  pub remembers : Remembers spans keys w₁ w₂ half own.memory m kept
  pub emits : Emits out out' totals.operations number totals.consumed m (r.shift.length - r.shift.removed) place
  pub looks : Looks ops tail own.ahead.behind own.ahead.at coming
  pub spans_is : span ≡ span_of m

-- what the code makes of them
abbrev resulting : Side → Side → Totals → Meeting → Progress → Memory → ℕ → ℕ → Ahead → Sides
resulting own other totals r p kept place span coming =
    record {
      own = record { ahead = coming; memory = kept; seen = own.seen + r.shift.length; cursor = p.next };
      other = record { ahead = other.ahead; memory = record { last = r.last; fill = other.memory.fill }; seen = other.seen; cursor = other.cursor };
      totals =
          record {
            merged = totals.merged + (r.shift.length - r.shift.removed);
            consumed = totals.consumed + span;
            operations = place;
            cursors = p.count;
          };
    }

module _ {spans keys ops cs w : List ℕ} {half : ℕ} {a : Op} {own other : Side} {totals : Totals} {number : ℕ} {out moved : List ℕ}
    (T : Turnable spans keys ops cs w half a own other totals number out moved) where
  pub facing : Facing spans keys w half other.memory.fill own.memory.fill (taken a other) other.memory.last
  facing =
      let s = front_sound a (heads other.ahead.next []) T.sound in
      let e = front_tokens a (heads other.ahead.next []) in
      record {
        fits = T.last;
        lies = s.lies;
        keyed = s.keyed;
        few = s.few;
        place = omega (arith, T.place, e);
        filled = T.filled;
        small = T.small;
        room = T.halves;
        away = subst (Away other.memory.last other.memory.fill own.memory.fill) (sym e) T.away;
      }

  pub taken_sound : Sound spans keys (taken a other)
  taken_sound = front_sound a (heads other.ahead.next []) T.sound

  pub end_most : own.seen + length_of (of_spans spans) (taken a other) ≤ most
  end_most = omega (arith, T.seen, front_length (of_spans spans) a (heads other.ahead.next []))

  module _ {w₁ : List ℕ} {awaited : Bool} {r : Meeting}
      (M : Meets spans keys w w₁ half other.memory.fill own.memory.fill (taken a other) other.memory.last awaited own.seen totals.merged r) where
    module _ (lent : Lent) (es : lent.spans ≡ spans) (ek : lent.keys ≡ keys) where
      pub length_of_lem : r.shift.length ≡ length_of lent (taken a other)
      unfolding shift_of
      length_of_lem = ap (λ (t : Shift). t.length) (M.shift lent es ek)

      removed_of_lem : r.shift.removed ≡ removed_of (rules_of lent) (taken a other) r.lost
      unfolding shift_of
      removed_of_lem = ap (λ (t : Shift). t.removed) (M.shift lent es ek) ∙ ap (removed_of (rules_of lent) (taken a other)) (sym (M.lost lent es ek))

      whole : length_of lent (taken a other) ≡ removed_of (rules_of lent) (taken a other) r.lost + length_of lent (shortened (taken a other) r.lost)
      whole = rest_length lent (taken a other) r.lost M.most

      pub text_of_lem : r.shift.length - r.shift.removed ≡ length_of lent (shortened (taken a other) r.lost)
      text_of_lem = omega (arith, length_of_lem, removed_of_lem, whole)

      pub result_of : shortened (taken a other) r.lost ≡ result lent w half a other
      unfolding met_of
      result_of = ap (shortened (taken a other)) (M.lost lent es ek)

      -- the shift is the definition's but for its place, where no cursor waits
      module _ (e : awaited ≡ waits (own.seen + length_of (of_spans spans) (taken a other)) (cursors_left cs own.cursor)) where
        shift_if : r.shift ≡ placed_if (waits ((shift_by lent w half a own other totals.merged).seen + (shift_by lent w half a own other totals.merged).length) (cursors_left cs own.cursor)) (shift_by lent w half a own other totals.merged)
        unfolding shift_of
        shift_if =
            M.shift lent es ek
            ∙ ap (λ (x : Bool). placed_if x (shift_by lent w half a own other totals.merged))
            (e ∙ ap (λ (n : ℕ). waits (own.seen + n) (cursors_left cs own.cursor)) (ap (λ (x : List ℕ). length_of (of_spans x) (taken a other)) (sym es) ∙ length_is lent (taken a other)))

        pub moves : moved_by (taken a other) r.shift (cursors_left cs own.cursor) ≡ moved_by (taken a other) (shift_by lent w half a own other totals.merged) (cursors_left cs own.cursor)
        moves = ap (λ (t : Shift). moved_by (taken a other) t (cursors_left cs own.cursor)) shift_if ∙ moved_if (taken a other) (shift_by lent w half a own other totals.merged) (cursors_left cs own.cursor)

        pub stays : behind_of (taken a other) r.shift (cursors_left cs own.cursor) ≡ behind_of (taken a other) (shift_by lent w half a own other totals.merged) (cursors_left cs own.cursor)
        stays = ap (λ (t : Shift). behind_of (taken a other) t (cursors_left cs own.cursor)) shift_if ∙ behind_if (taken a other) (shift_by lent w half a own other totals.merged) (cursors_left cs own.cursor)

    pub removed_most : r.shift.removed ≤ r.shift.length
    removed_most =
        omega (arith, length_of_lem (seen_of spans keys) refl refl, removed_of_lem (seen_of spans keys) refl refl, whole (seen_of spans keys) refl refl)

    pub length_most : r.shift.length ≤ length_of (of_spans spans) a
    length_most =
        omega (arith, length_of_lem (seen_of spans keys) refl refl, length_is (seen_of spans keys) (taken a other), front_length (of_spans spans) a (heads other.ahead.next []))

    -- the operation's end in its side's text
    pub end_of : r.shift.seen + r.shift.length ≡ own.seen + length_of (of_spans spans) (taken a other)
    unfolding shift_of
    end_of = ap (λ (t : Shift). t.seen + t.length) (M.shift (seen_of spans keys) refl refl) ∙ ap (λ (n : ℕ). own.seen + n) (sym (length_is (seen_of spans keys) (taken a other)))

    pub awaits_shift : (n : ℕ) → n ≡ length_of (of_spans spans) (taken a other) → awaited ≡ waits (own.seen + n) (cursors_left cs own.cursor)
        → awaited ≡ waits (r.shift.seen + r.shift.length) (cursors_left cs own.cursor)
    awaits_shift n en e = e ∙ ap (λ (x : ℕ). waits x (cursors_left cs own.cursor)) (ap (λ (k : ℕ). own.seen + k) en ∙ sym end_of)

    pub shift_fits : Fits r.shift
    unfolding shift_of
    shift_fits =
        let e = M.shift (seen_of spans keys) refl refl in
        let s : r.shift.seen ≡ own.seen = ap (λ (t : Shift). t.seen) e in
        let m : r.shift.merged ≡ totals.merged = ap (λ (t : Shift). t.merged) e in
        record {
          own = omega (arith, s, length_most, T.seen);
          rest = omega (arith, m, length_most, T.merged);
          front = omega (arith, m, M.start);
        }

    pub rememberable : Rememberable spans keys w₁ half own.memory (shortened (taken a other) r.lost)
    rememberable =
        let s = rest_sound (taken a other) r.lost M.most taken_sound in
        let t = rest_tokens (taken a other) r.lost in
        let e = front_tokens a (heads other.ahead.next []) in
        record {
          began = T.began;
          spans = s.lies;
          keys = s.keyed;
          apart = omega (arith, t, e, T.place);
          place = omega (arith, t, e, T.place, T.halves, M.scratched.same);
        }

    pub emittable : (totals.operations + length (emitted number totals.consumed (shortened (taken a other) r.lost))) * 6 ≤ length out
    emittable =
        subst (λ (x : Op). (totals.operations + length (emitted number totals.consumed x)) * 6 ≤ length out) (sym (result_of (seen_of spans keys) refl refl))
        (T.room (seen_of spans keys) refl refl)

    pub span_most : span_of (shortened (taken a other) r.lost) ≤ span_of a
    span_most = omega (arith, rest_span (taken a other) r.lost, front_span a (heads other.ahead.next []))

  -- the turn, from its parts
  pub assembled :
      {w₁ w₂ out' moved' : List ℕ} {tail : Option Op} {awaited : Bool} {r : Meeting} {p : Progress} {m : Op} {kept : Memory} {place span : ℕ} {coming : Ahead}
      → Parts spans keys ops cs w w₁ w₂ half own other totals number out out' moved moved' (taken a other) tail awaited r p m kept place span coming
      → tail ≡ tail_by a (heads other.ahead.next [])
      → Turns spans keys ops cs w w₂ half a own other totals number out out' moved moved'
      (resulting own other totals r p kept place span coming)
  assembled {w₁} {w₂} {out'} {moved'} {tail} {awaited} {r} {p} {m} {kept} {place} {span} {coming} P et =
      record {
        looks = subst (λ (x : Option Op). Looks ops x own.ahead.behind own.ahead.at coming) et P.looks;
        made = λ lent es ek. made lent es ek;
        ahead = refl;
        waited = refl;
        stood = refl;
        fits = M.fits;
        own_fits = P.remembers.fits (rw P.rest (rest_sound (taken a other) r.lost M.most taken_sound).reaches);
        filled = omega (arith, P.remembers.fill, few, front_tokens a (heads other.ahead.next []));
        grown = omega (arith, P.remembers.fill);
        heard_fill = refl;
        since = λ base h. M.since base h;
        own_since = λ base l h. P.remembers.since base l h;
        space = P.went.space;
        same = P.remembers.kept.same ∙ M.scratched.same;
      }
    where
      M : Meets spans keys w w₁ half other.memory.fill own.memory.fill (taken a other) other.memory.last awaited own.seen totals.merged r
      M = P.meets

      few : tokens m ≤ tokens (taken a other)
      few = rw P.rest (rest_tokens (taken a other) r.lost)

      place_most : own.memory.fill + tokens (taken a other) ≤ half
      place_most = facing.place

      own_same : last_of w₁ half own.memory.fill own.memory.last ≡ memory_of w half own.memory
      own_same =
          same_scratched M.scratched own.memory.fill own.memory.last
          (own_away own.memory.last own.memory.fill (tokens (taken a other)) T.began)
          (omega (arith, place_most))
          place_most
          T.halves

      heard_same : last_of w₂ half other.memory.fill r.last ≡ last_of w₁ half other.memory.fill r.last
      heard_same =
          same_kept P.remembers.kept (tokens (taken a other)) other.memory.fill r.last
          (away_of other.memory.fill own.memory.fill (tokens (taken a other)) other.memory.last r.last facing.away (λ base h. M.since base h))
          few
          T.filled
          place_most

      is : (lent : Lent) → lent.spans ≡ spans → lent.keys ≡ keys → m ≡ result lent w half a other
      is lent es ek = P.rest ∙ result_of M lent es ek

      made : (lent : Lent) → lent.spans ≡ spans → lent.keys ≡ keys
          → Made lent cs w w₂ half a own other totals number out out' moved moved' (resulting own other totals r p kept place span coming)
      made lent es ek =
          record {
            last = P.remembers.last lent es ek ∙ ap₂ (remember_of lent) own_same (is lent es ek);
            heard = heard_same ∙ M.stays lent es ek;
            seen = ap (λ (x : ℕ). own.seen + x) (length_of_lem M lent es ek);
            cursors = P.went.left ∙ stays M lent es ek P.awaits;
            merged = ap (λ (x : ℕ). totals.merged + x) (text_of_lem M lent es ek ∙ ap (length_of lent) (result_of M lent es ek));
            consumed = ap (λ (x : ℕ). totals.consumed + x) (P.spans_is ∙ ap span_of (is lent es ek));
            operations = P.emits.count ∙ ap (λ (x : Op). totals.operations + length (emitted number totals.consumed x)) (is lent es ek);
            out_grows = λ outs d e f.
                subst (λ (x : Op). out' ≡ answered (flat_operations (records_of lent (outs ++ emitted number totals.consumed x))) d) (is lent es ek)
                (P.emits.grows lent outs d (text_of_lem M lent es ek ∙ ap (length_of lent) (sym P.rest)) e f);
            moved_count = P.went.count ∙ ap (λ (cs' : List Cursor). totals.cursors + length cs') (moves M lent es ek P.awaits);
            moved_grows = λ ms d e f.
                subst (λ (cs' : List Cursor). moved' ≡ answered (flat_cursors (ms ++ cs')) d) (moves M lent es ek P.awaits) (P.went.grows ms d e f);
          }
