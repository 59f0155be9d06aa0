-- The run of all turns: an invariant of the code's loop that each turn of either side keeps.
-- It is seen from the side that takes its turn: the right sees it with the sides exchanged. The definition's invariant, Sound, gives what a turn asks. Assumes nothing.
use Rattle.std.specs.Prelude.{Option, Some}
use Prim.Native.Nat.{ℕ, suc, ◌+◌, ◌-◌, ◌*◌, ◌/◌, ◌≤◌, ◌<◌}
use mathlib.Core.Path.{◌≡◌, refl, sym, ap, ◌∙◌, subst}
use mathlib.Core.List.{List, ◌∷◌, ◌++◌, append_assoc}
use mathlib.Core.Logic.{◌⊎◌, inl, inr, ⊎_elim}
use native.Mathlib.Omega.{arith}
use lib.ListN.{length, length-append}
use Rattle.room.specs.Placed.{answered}
use Rattle.records.specs.declared.Cursor.{Cursor}
use Rattle.records.specs.Cursors.{flat_cursors}
use Rattle.records.specs.Operations.{flat_operations}
use Rattle.merging.specs.declared.Op.{Op}
use Rattle.std.specs.declared.cmp.Ordering.{Ordering}
use Rattle.merging.specs.Lent.{Lent, Rules, rules_of, lent_of}
use Rattle.merging.specs.Operations.{Out, order_of, length_of, span_of, records_of}
use Rattle.merging.specs.Meeting.{shortened, met_of}
use Rattle.merging.specs.Turn.{State, Turned, turned, emitted, turn_left, turn_right, from_left, from_right, taken_of}
use Rattle.merging.specs.Merge.{Outcome, before, run, work}
use Rattle.merging.specs.Tiling.{Tiled, Inserts, tokens_of}
use Rattle.merging.proofs.OneTurn.{place_after, tiled_le, starts}
use Rattle.merging.proofs.Turns.{Turning, left_less, right_less, run_left, run_right, fuel, taken_is}
use Rattle.merging.proofs.Sound.{Sound, text_of_all, next_within, sound_turned, sound_next}
use Rattle.merging.proofs.Lawful.{lawful}
use Rattle.numbers.specs.Sizes.{most}
use Rattle.operation.specs.Views.{tokens, of_spans}
use Rattle.operation.proofs.Meeting.{length_is}
use Rattle.turns.specs.Looking.{list_from, ahead_of, span_next}
use Rattle.order.specs.Readable.{Run}
use Rattle.merge.specs.declared.Side.{Side}
use Rattle.merge.specs.declared.Totals.{Totals}
use Rattle.merge.specs.declared.Sides.{Sides}
use Rattle.merge.specs.Turning.{memory_of, taken, result, Turnable, Turns}
use Rattle.merge.specs.Running.{list_of, outcome, Listed, Runnable}
use Rattle.merge.proofs.OneTurn.{state_of, same_front, turned_out, turned_cursors, turned-state}
use Rattle.merge.proofs.SideLaws.{SideFits, own_fits, other_fits, fine, next_fits, tokens_first, began_of, away_from, first_fits, lost_keys, text_first}

-- what the turns from a state on give
abbrev pub rest : Rules → Ordering → State → Outcome
rest R priority s = run R priority (work s.left.next + work s.right.next) s

module _ (R : Rules) (priority : Ordering) (s : State) where
  abbrev left_over : ℕ
  left_over = work s.left.next + work s.right.next

  -- one turn, and the rest
  goes : (t : Turned) → run R priority (suc left_over) s ≡ before t (run R priority left_over t.state)
      → work t.state.left.next + work t.state.right.next < left_over → rest R priority s ≡ before t (rest R priority t.state)
  goes t e l =
      fuel R priority left_over (suc left_over) s (omega arith) (omega arith)
      ∙ e
      ∙ ap (before t) (fuel R priority left_over (work t.state.left.next + work t.state.right.next) t.state (omega arith) (omega arith))

  pub goes_left : (a : Op) (xs : List Op) → taken_of R.lent priority s.left.next s.right.next ≡ from_left a xs
      → rest R priority s ≡ before (turn_left R 0 a xs s) (rest R priority (turn_left R 0 a xs s).state)
  goes_left a xs e =
      goes (turn_left R 0 a xs s) (run_left R priority left_over s a xs e)
      (left_less R 0 s a xs (taken_is R.lent priority s.left.next s.right.next (from_left a xs) e))

  pub goes_right : (b : Op) (ys : List Op) → taken_of R.lent priority s.left.next s.right.next ≡ from_right b ys
      → rest R priority s ≡ before (turn_left R 1 b ys (turned s)) (rest R priority (turned (turn_left R 1 b ys (turned s)).state))
  unfolding turn_right
  goes_right b ys e =
      goes (turn_right R 1 b ys s) (run_right R priority left_over s b ys e)
      (right_less R 1 s b ys (taken_is R.lent priority s.left.next s.right.next (from_right b ys) e))

-- a side's share: its list, its cursors, and its part of the work room
pub record Share : Type 0 where
  pub ops : List ℕ
  pub cs : List ℕ
  pub base : ℕ
  pub top : ℕ

-- what no turn changes, seen from the side `own`: the rooms as they were lent, what all turns give, and what those from a state on do
pub record Frame : Type 0 where
  pub lent : Lent
  pub own : Share
  pub other : Share
  pub half : ℕ
  pub room : List ℕ
  pub out : List ℕ
  pub moved : List ℕ
  pub whole : Outcome
  pub rest : State → Outcome

-- as the left sees it, and as the other side does
abbrev pub frame : List ℕ → List ℕ → List ℕ → List ℕ → List ℕ → List ℕ → List ℕ → List ℕ → Ordering → ℕ → ℕ → List ℕ → List ℕ → List ℕ → Frame
frame original text spans keys lops rops lcs rcs priority mid half w out moved =
    record {
      lent = lent_of original text spans keys;
      own = record { ops = lops; cs = lcs; base = 0; top = mid };
      other = record { ops = rops; cs = rcs; base = mid; top = half };
      half = half;
      room = w;
      out = out;
      moved = moved;
      whole = outcome (lent_of original text spans keys) priority lops rops lcs rcs;
      rest = rest (rules_of (lent_of original text spans keys)) priority;
    }

abbrev pub exchanged : Frame → Frame
exchanged F =
    record {
      lent = F.lent;
      own = F.other;
      other = F.own;
      half = F.half;
      room = F.room;
      out = F.out;
      moved = F.moved;
      whole = F.whole;
      rest = λ s. F.rest (turned s);
    }

-- two checked lists, and rooms as asked
pub record Ready (F : Frame) : Type 0 where
  pub original_most : length F.lent.original ≤ 65535
  pub own : Listed F.lent.original F.lent.inserted F.lent.spans F.lent.keys F.own.ops
  pub other : Listed F.lent.original F.lent.inserted F.lent.spans F.lent.keys F.other.ops
  pub apart : (F.own.top ≤ F.other.base) ⊎ (F.other.top ≤ F.own.base)
  pub own_top : F.own.top ≤ F.half
  pub other_top : F.other.top ≤ F.half
  pub small : F.half ≤ 65536
  pub halves : F.half + F.half ≤ length F.room
  pub room : length F.whole.outs * 6 ≤ length F.out
  pub space : (length F.own.cs / 2 + length F.other.cs / 2) * 2 ≤ length F.moved
  pub spans_fit : length F.lent.spans / 2 ≤ most

pub ready : {original text spans keys lops rops lcs rcs : List ℕ} {priority : Ordering} {mid half : ℕ} {w out moved : List ℕ}
    → Runnable original text spans keys lops rops lcs rcs priority w mid half out moved → Ready (frame original text spans keys lops rops lcs rcs priority mid half w out moved)
ready K =
    record {
      original_most = K.original_most;
      own = K.left;
      other = K.right;
      apart = inl (omega arith);
      own_top = omega (arith, K.half_is);
      other_top = omega arith;
      small = omega (arith, K.half_is, K.mid_is, K.left.tokens, K.right.tokens);
      halves = K.halves;
      room = K.room;
      space = K.space;
      spans_fit = K.spans_fit;
    }

abbrev pub state_in : Frame → List ℕ → Side → Side → Totals → State
state_in F w own other totals = state_of F.own.ops F.other.ops F.own.cs F.other.cs w F.half own other totals

-- what holds between two turns: outs and ms came out so far, and the turns from here on give what is left of the whole
pub record Going (F : Frame) (w out moved : List ℕ) (own other : Side) (totals : Totals) : Type 0 where
  pub ready : Ready F
  pub p : ℕ
  pub q : ℕ
  pub sound : Sound (rules_of F.lent) (Run F.lent.inserted F.lent.spans F.lent.keys) (list_of F.own.ops) (list_of F.other.ops) (length F.lent.original)
      (state_in F w own other totals) p q
  pub owns : SideFits F.own.ops F.own.base F.own.top p own
  pub others : SideFits F.other.ops F.other.base F.other.top q other
  pub outs : List Out
  pub ms : List Cursor
  pub operations : totals.operations ≡ length outs
  pub out_is : out ≡ answered (flat_operations (records_of F.lent outs)) F.out
  pub cursors : totals.cursors ≡ length ms
  pub moved_is : moved ≡ answered (flat_cursors ms) F.moved
  pub all_outs : F.whole.outs ≡ outs ++ (F.rest (state_in F w own other totals)).outs
  pub all_cursors : F.whole.cursors ≡ ms ++ (F.rest (state_in F w own other totals)).cursors
  pub space : totals.cursors + (length F.own.cs / 2 - own.cursor) + (length F.other.cs / 2 - other.cursor) ≡ length F.own.cs / 2 + length F.other.cs / 2
  pub same : length w ≡ length F.room
  pub out_same : length out ≡ length F.out
  pub moved_same : length moved ≡ length F.moved

-- the other side sees the same
unfoldable pub exchange : {F : Frame} {w out moved : List ℕ} {own other : Side} {totals : Totals} → Going F w out moved own other totals → Going (exchanged F) w out moved other own totals
exchange G =
    let K = G.ready in
    record {
      ready =
          record {
            original_most = K.original_most;
            own = K.other;
            other = K.own;
            apart = ⊎_elim inr inl K.apart;
            own_top = K.other_top;
            other_top = K.own_top;
            small = K.small;
            halves = K.halves;
            room = K.room;
            space = omega (arith, K.space);
            spans_fit = K.spans_fit;
          };
      p = G.q;
      q = G.p;
      sound = sound_turned G.sound;
      owns = G.others;
      others = G.owns;
      outs = G.outs;
      ms = G.ms;
      operations = G.operations;
      out_is = G.out_is;
      cursors = G.cursors;
      moved_is = G.moved_is;
      all_outs = G.all_outs;
      all_cursors = G.all_cursors;
      space = omega (arith, G.space);
      same = G.same;
      out_same = G.out_same;
      moved_same = G.moved_same;
    }

-- the side `own` takes a
pub record Taking (F : Frame) (w : List ℕ) (own other : Side) (totals : Totals) (p q number : ℕ) (a : Op) : Type 0 where
  pub next : own.ahead.next ≡ Some a
  pub turning : Turning (state_in F w own other totals) a (list_from F.own.ops own.ahead.behind own.ahead.at) p q (length F.lent.original)
  pub goes : F.rest (state_in F w own other totals)
      ≡ before (turn_left (rules_of F.lent) number a (list_from F.own.ops own.ahead.behind own.ahead.at) (state_in F w own other totals))
      (F.rest (turn_left (rules_of F.lent) number a (list_from F.own.ops own.ahead.behind own.ahead.at) (state_in F w own other totals)).state)

module _ {F : Frame} {w out moved : List ℕ} {own other : Side} {totals : Totals} (G : Going F w out moved own other totals) {number : ℕ} {a : Op}
    (t : Taking F w own other totals G.p G.q number a) where
  abbrev L : Lent
  L = F.lent

  abbrev Q : ℕ → ℕ → Type 0
  Q = Run L.inserted L.spans L.keys

  abbrev S : State
  S = state_in F w own other totals

  abbrev xs : List Op
  xs = list_from F.own.ops own.ahead.behind own.ahead.at

  abbrev n : ℕ
  n = length L.original

  abbrev D : Turned
  D = turn_left (rules_of L) number a xs S

  -- what is still to come, after this turn
  outs_on : F.whole.outs ≡ G.outs ++ (D.out ++ (F.rest D.state).outs)
  outs_on = G.all_outs ∙ ap (λ (o : Outcome). G.outs ++ o.outs) t.goes

  cursors_on : F.whole.cursors ≡ G.ms ++ (D.cursors ++ (F.rest D.state).cursors)
  cursors_on = G.all_cursors ∙ ap (λ (o : Outcome). G.ms ++ o.cursors) t.goes

  pub side_turnable : Turnable L.spans L.keys F.own.ops F.own.cs w F.half a own other totals number out moved
  unfolding met_of
  side_turnable =
      let K = G.ready in
      let g = G.sound in
      let tn = t.turning in
      let h : ahead_of F.own.ops own.ahead ≡ a ∷ xs = tn.next in
      let tiled : Tiled (a ∷ xs) G.p n = tn.good.tiled_l in
      let tk : tokens_of (a ∷ xs) ≤ 8192 = omega (arith, K.own.tokens, g.tokens_left, ap tokens_of h) in
      let len : length_of (of_spans L.spans) a ≤ text_of_all L (ahead_of F.own.ops own.ahead) = omega (arith, length_is L a, text_first L a xs, ap (text_of_all L) h) in
      let p1 = tokens_first a xs in
      let p2 = ap tokens_of h in
      record {
        sound = fine L.inserted L.spans L.keys K.spans_fit a xs G.p n K.original_most tiled (subst (Inserts Q) h g.inserts_left) tk;
        next = next_fits L.inserted L.spans L.keys K.spans_fit other.ahead.next (list_from F.other.ops other.ahead.behind other.ahead.at) G.q n K.original_most
            tn.good.tiled_r g.inserts_right;
        last = G.others.fits;
        away = away_from other.memory.last F.other.base other.memory.fill own.memory.fill (tokens a) G.others.since
            (⊎_elim (λ (q : F.own.top ≤ F.other.base). inr (omega (arith, G.owns.place, p1, p2)))
            (λ (q : F.other.top ≤ F.own.base). inl (omega (arith, G.others.place, G.owns.low)))
            K.apart);
        began = began_of own.memory.last F.own.base own.memory.fill G.owns.since;
        place = omega (arith, G.owns.place, p1, p2, K.own_top);
        filled = omega (arith, G.others.place, K.other_top);
        small = K.small;
        halves = omega (arith, K.halves, G.same);
        seen = omega (arith, len, g.seen_left, K.own.text_most);
        merged = omega (arith, len, g.seen_left, g.seen_right, g.merged_most, K.own.text_most, K.other.text_most);
        consumed =
            omega (
              arith,
              tn.at,
              K.original_most,
              next_within a xs G.p n tiled,
              starts a xs G.p n tiled,
              tiled_le (ahead_of F.other.ops other.ahead) G.q n tn.good.tiled_r,
            );
        first = first_fits a xs G.p n own.ahead.at K.original_most tiled (subst (λ (x : Option Op). G.p + span_next x ≡ own.ahead.at) t.next G.owns.at);
        space = omega (arith, G.space, K.space, G.moved_same);
        room = λ lent' es ek.
            let s : result lent' w F.half a other ≡ result L w F.half a other =
            ap (shortened (taken a other)) (lost_keys lent' L ek (taken a other) (memory_of w F.half other.memory)) in
            let d : length (emitted number totals.consumed (result lent' w F.half a other)) ≡ length D.out =
            ap (λ (x : Op). length (emitted number totals.consumed x)) s
            ∙ ap length (turned_out L F.own.ops F.other.ops F.own.cs F.other.cs w F.half a own other totals number G.others.ends) in
            omega (
              arith,
              d,
              K.room,
              G.out_same,
              G.operations,
              ap length outs_on,
              length-append G.outs (D.out ++ (F.rest D.state).outs),
              length-append D.out (F.rest D.state).outs,
            );
      }

  module _ {w' out' moved' : List ℕ} {r : Sides} (T : Turns L.spans L.keys F.own.ops F.own.cs w w' F.half a own other totals number out out' moved moved' r) where
    -- the state after the turn is the definition's
    es : state_in F w' r.own r.other r.totals ≡ D.state
    es = turned-state L F.own.ops F.other.ops F.own.cs F.other.cs w F.half a own other totals number G.others.ends refl refl T

    pub side_less : work (ahead_of F.own.ops r.own.ahead) + work (ahead_of F.other.ops r.other.ahead)
        < work (ahead_of F.own.ops own.ahead) + work (ahead_of F.other.ops other.ahead)
    side_less =
        omega (arith, ap (λ (s : State). work s.left.next) es, ap (λ (s : State). work s.right.next) es, left_less (rules_of L) number S a xs t.turning.next)

    pub side_step : length out' ≡ length out → length moved' ≡ length moved → Going F w' out' moved' r.own r.other r.totals
    side_step eo em =
        let m = T.made L refl refl in
        let f = same_front L F.own.ops F.other.ops F.own.cs F.other.cs w F.half a own other totals number G.others.ends in
        let eo' = turned_out L F.own.ops F.other.ops F.own.cs F.other.cs w F.half a own other totals number G.others.ends in
        let ec' = turned_cursors L F.own.ops F.other.ops F.own.cs F.other.cs w F.half a own other totals number G.others.ends in
        record {
          ready = G.ready;
          p = place_after a S.right.next;
          q = G.q;
          sound = subst (λ (s : State). Sound (rules_of L) Q (list_of F.own.ops) (list_of F.other.ops) n s (place_after a S.right.next) G.q) (sym es)
              (sound_next (lawful L) G.sound number a xs t.turning);
          owns = subst (λ (b : Op). SideFits F.own.ops F.own.base F.own.top (order_of a + span_of b) r.own) f
              (own_fits T n G.owns t.next t.turning.good.tiled_l);
          others = other_fits T G.others;
          outs = G.outs ++ D.out;
          ms = G.ms ++ D.cursors;
          operations = omega (arith, m.operations, G.operations, ap length eo', length-append G.outs D.out);
          out_is = m.out_grows G.outs F.out G.operations G.out_is
              ∙ ap (λ (o : List Out). answered (flat_operations (records_of L (G.outs ++ o))) F.out) eo';
          cursors = omega (arith, m.moved_count, G.cursors, ap length ec', length-append G.ms D.cursors);
          moved_is = m.moved_grows G.ms F.moved G.cursors G.moved_is ∙ ap (λ (o : List Cursor). answered (flat_cursors (G.ms ++ o)) F.moved) ec';
          all_outs = outs_on ∙ sym (append_assoc G.outs D.out (F.rest D.state).outs) ∙ ap (λ (s : State). (G.outs ++ D.out) ++ (F.rest s).outs) (sym es);
          all_cursors = cursors_on ∙ sym (append_assoc G.ms D.cursors (F.rest D.state).cursors) ∙ ap (λ (s : State). (G.ms ++ D.cursors) ++ (F.rest s).cursors) (sym es);
          space = omega (arith, G.space, T.space, ap (λ (i : ℕ). length F.other.cs / 2 - i) T.stood);
          same = T.same ∙ G.same;
          out_same = eo ∙ G.out_same;
          moved_same = em ∙ G.moved_same;
        }
