-- A turn of the code is a turn of the definition: the state after it, what it emits and the cursors it moves.
-- What is next on the other side counts by its first operation alone; the rest is what `turn` ensures, field by field. Assumes nothing.
use Rattle.std.specs.Prelude.{Option, Some, None}
use Prim.Native.Nat.{ℕ, ◌+◌}
use mathlib.Core.Path.{◌≡◌, refl, sym, ap, ◌∙◌}
use mathlib.Core.List.{List, []}
use Rattle.merging.specs.declared.Op.{Op}
use Rattle.merging.specs.declared.Op.TheVariants.{Delete, Insert, Retain}
use Rattle.merging.specs.Lent.{Lent, rules_of}
use Rattle.merging.specs.Operations.{length_of, span_of}
use Rattle.merging.specs.Meeting.{kept_length, front_of, tail_of, met_of, other_of, remember_of}
use Rattle.merging.specs.Cursors.{shift_of, moved_by, behind_of}
use Rattle.merging.specs.Turn.{Stream, State, Turned, emitted, turn_left, turn_with}
use Rattle.operation.specs.Views.{heads}
use Rattle.operation.proofs.Meeting.{tail_next}
use Rattle.turns.specs.Looking.{list_from, ahead_of}
use Rattle.merge.specs.declared.Side.{Side}
use Rattle.merge.specs.declared.Totals.{Totals}
use Rattle.merge.specs.declared.Sides.{Sides}
use Rattle.merge.specs.Turning.{memory_of, cursors_left, taken, result, shift_by, Turns}

-- the cut looks at the next operation alone
pub front_heads : (a : Op) (x : Option Op) (ys : List Op) → (x ≡ None → ys ≡ []) → front_of a (heads x []) ≡ front_of a (heads x ys)
unfolding kept_length
front_heads (Delete o l) x ys h = refl
front_heads (Insert o f n) x ys h = refl
front_heads (Retain o l) (Some y) ys h = refl
front_heads (Retain o l) None ys h = ap (λ (zs : List Op). Retain o (kept_length o l zs)) (sym (h refl))

pub tail_heads : (a : Op) (x : Option Op) (ys xs : List Op) → (x ≡ None → ys ≡ []) → tail_of a (heads x []) xs ≡ tail_of a (heads x ys) xs
unfolding kept_length
tail_heads (Delete o l) x ys xs h = refl
tail_heads (Insert o f n) x ys xs h = refl
tail_heads (Retain o l) (Some y) ys xs h = refl
tail_heads (Retain o l) None ys xs h = ap (λ (zs : List Op). tail_of (Retain o l) zs xs) (sym (h refl))

-- a side of the code, as a stream of the definition
abbrev pub stream_of : List ℕ → List ℕ → List ℕ → ℕ → Side → Stream
stream_of ops cs w half s = record { next = ahead_of ops s.ahead; last = memory_of w half s.memory; seen = s.seen; cursors = cursors_left cs s.cursor }

abbrev pub state_of : List ℕ → List ℕ → List ℕ → List ℕ → List ℕ → ℕ → Side → Side → Totals → State
state_of ops ops' cs cs' w half own other t =
    record { left = stream_of ops cs w half own; right = stream_of ops' cs' w half other; merged = t.merged; consumed = t.consumed }

same_stream : {s t : Stream} → s.next ≡ t.next → s.last ≡ t.last → s.seen ≡ t.seen → s.cursors ≡ t.cursors → s ≡ t
same_stream a b c d = λ i. record { next = a i; last = b i; seen = c i; cursors = d i }

same_state : {s t : State} → s.left ≡ t.left → s.right ≡ t.right → s.merged ≡ t.merged → s.consumed ≡ t.consumed → s ≡ t
same_state a b c d = λ i. record { left = a i; right = b i; merged = c i; consumed = d i }

-- the turn of the definition
abbrev pub turn_of : Lent → List ℕ → List ℕ → List ℕ → List ℕ → List ℕ → ℕ → Op → Side → Side → Totals → ℕ → Turned
turn_of lent ops ops' cs cs' w half a own other totals number =
    turn_left (rules_of lent) number a (list_from ops own.ahead.behind own.ahead.at) (state_of ops ops' cs cs' w half own other totals)

-- what a turn of the side `own`, which takes a, emits and moves, as the definition has it
module _ (lent : Lent) (ops ops' cs cs' w : List ℕ) (half : ℕ) (a : Op) (own other : Side) (totals : Totals) (number : ℕ)
    (ends : other.ahead.next ≡ None → list_from ops' other.ahead.behind other.ahead.at ≡ []) where
  pub same_front : taken a other ≡ front_of a (ahead_of ops' other.ahead)
  same_front = front_heads a other.ahead.next (list_from ops' other.ahead.behind other.ahead.at) ends

  -- "Empty results aren't emitted."
  pub turned_out : emitted number totals.consumed (result lent w half a other) ≡ (turn_of lent ops ops' cs cs' w half a own other totals number).out
  unfolding turn_left turn_with
  turned_out = ap (λ (b : Op). emitted number totals.consumed (met_of (rules_of lent) b (memory_of w half other.memory))) same_front

  pub turned_cursors : moved_by (taken a other) (shift_by lent w half a own other totals.merged) (cursors_left cs own.cursor) ≡ (turn_of lent ops ops' cs cs' w half a own other totals number).cursors
  unfolding turn_left turn_with
  turned_cursors =
      ap (λ (b : Op). moved_by b (shift_of (rules_of lent) b (memory_of w half other.memory) own.seen totals.merged) (cursors_left cs own.cursor)) same_front

  -- and the state after it
  pub turned-state :
      {spans keys w' out out' moved moved' : List ℕ} {r : Sides} → lent.spans ≡ spans → lent.keys ≡ keys
      → Turns spans keys ops cs w w' half a own other totals number out out' moved moved' r
      → state_of ops ops' cs cs' w' half r.own r.other r.totals ≡ (turn_of lent ops ops' cs cs' w half a own other totals number).state
  unfolding turn_left turn_with
  turned-state es ek T =
      let m = T.made lent es ek in
      let v = memory_of w half other.memory in
      let xs = list_from ops own.ahead.behind own.ahead.at in
      same_state
      (same_stream
      (T.looks.view ∙ tail_next a (heads other.ahead.next []) xs ∙ tail_heads a other.ahead.next (list_from ops' other.ahead.behind other.ahead.at) xs ends)
      (m.last ∙ ap (λ (b : Op). remember_of lent (memory_of w half own.memory) (met_of (rules_of lent) b v)) same_front)
      (m.seen ∙ ap (λ (b : Op). own.seen + length_of lent b) same_front)
      (m.cursors ∙ ap (λ (b : Op). behind_of b (shift_of (rules_of lent) b v own.seen totals.merged) (cursors_left cs own.cursor)) same_front))
      (same_stream (ap (ahead_of ops') T.ahead) (m.heard ∙ ap (λ (b : Op). other_of (rules_of lent) b v) same_front) T.waited (ap (cursors_left cs') T.stood))
      (m.merged ∙ ap (λ (b : Op). totals.merged + length_of lent (met_of (rules_of lent) b v)) same_front)
      (m.consumed ∙ ap (λ (b : Op). totals.consumed + span_of (met_of (rules_of lent) b v)) same_front)
