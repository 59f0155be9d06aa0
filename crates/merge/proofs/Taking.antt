-- A turn of the side that a choice takes: what it needs, that work is left over, and that the loop's invariant is kept.
-- By the choice: a turn of the left, or, with the sides exchanged, one of the right. Assumes nothing.
use Rattle.std.specs.Prelude.{Option, Some, None}
use Prim.Native.Nat.{ℕ, ◌+◌, ◌<◌}
use mathlib.Core.Path.{◌≡◌, sym, subst}
use mathlib.Core.List.{List}
use native.Mathlib.Omega.{arith}
use lib.ListN.{length}
use Rattle.merging.specs.Lent.{Lent, rules_of, lent_of}
use Rattle.merging.specs.declared.Op.{Op}
use Rattle.std.specs.declared.cmp.Ordering.{Ordering}
use Rattle.merging.specs.Turn.{State, none, from_left, from_right, taken_of}
use Rattle.merging.specs.Merge.{work}
use Rattle.merging.proofs.Turns.{turning_by}
use Rattle.turns.specs.Looking.{list_from, ahead_of}
use Rattle.merge.specs.declared.Side.{Side}
use Rattle.merge.specs.declared.Totals.{Totals}
use Rattle.merge.specs.declared.Sides.{Sides}
use Rattle.merge.specs.declared.Which.{Which}
use Rattle.merge.specs.declared.Which.TheVariants.{Left, Right}
use Rattle.merge.specs.declared.Choice.{Choice}
use Rattle.merge.specs.Choosing.{choice_of, of_which, number_of}
use Rattle.merge.specs.Turning.{Turnable, Turns}
use Rattle.merge.proofs.OneTurn.{state_of}
use Rattle.merge.proofs.Running.{Frame, frame, exchanged, Going, exchange, Taking, goes_left, goes_right, side_turnable, side_less, side_step}
use Rattle.merge.proofs.Ends.{ChosenOf, Chosen, chosen}

module _ (priority : Ordering) {original text spans keys lops rops lcs rcs : List ℕ} {mid half : ℕ} {w₀ out₀ moved₀ w out moved : List ℕ} {left right : Side} {totals : Totals}
    (G : Going (frame original text spans keys lops rops lcs rcs priority mid half w₀ out₀ moved₀) w out moved left right totals) where
  abbrev F : Frame
  F = frame original text spans keys lops rops lcs rcs priority mid half w₀ out₀ moved₀

  abbrev L : Lent
  L = lent_of original text spans keys

  abbrev S : State
  S = state_of lops rops lcs rcs w half left right totals

  abbrev xs : List Op
  xs = list_from lops left.ahead.behind left.ahead.at

  abbrev ys : List Op
  ys = list_from rops right.ahead.behind right.ahead.at

  -- what a choice says of the definition's
  abbrev Takes : Option Choice → Type 0
  Takes y = Chosen y (taken_of L priority S.left.next S.right.next) left.ahead.next right.ahead.next xs ys

  takes : (x : Option Choice) → x ≡ choice_of L priority left.ahead.next right.ahead.next → Takes x
  takes x chose = subst Takes (sym chose) (chosen L priority left.ahead.next right.ahead.next xs ys G.owns.ends G.others.ends)

  pub none_taken : None ≡ choice_of L priority left.ahead.next right.ahead.next → taken_of L priority S.left.next S.right.next ≡ none
  none_taken chose = takes None chose

  -- what a choice of one side says
  abbrev TakesOf : Which → Op → Type 0
  TakesOf s a = ChosenOf s a (taken_of L priority S.left.next S.right.next) left.ahead.next right.ahead.next xs ys

  takes_left : (a : Op) → TakesOf Left a → Taking F w left right totals G.p G.q 0 a
  takes_left a k =
      record {
        next = k.0;
        turning = turning_by L priority S G.p G.q (length original) G.sound.stands (from_left a xs) k.1;
        goes = goes_left (rules_of L) priority S a xs k.1;
      }

  takes_right : (b : Op) → TakesOf Right b → Taking (exchanged F) w right left totals (exchange G).p (exchange G).q 1 b
  unfolding exchange
  takes_right b k =
      record {
        next = k.0;
        turning = turning_by L priority S G.p G.q (length original) G.sound.stands (from_right b ys) k.1;
        goes = goes_right (rules_of L) priority S b ys k.1;
      }

  taking_turnable : (s : Which) (a : Op) → TakesOf s a
      → Turnable spans keys (of_which s lops rops) (of_which s lcs rcs) w half a (of_which s left right) (of_which s right left) totals (number_of s) out moved
  taking_turnable Left a k = side_turnable G (takes_left a k)
  taking_turnable Right b k = side_turnable (exchange G) (takes_right b k)

  -- a turn of the code, as a side takes it
  abbrev Turned_by : Which → Op → List ℕ → List ℕ → List ℕ → Sides → Type 0
  Turned_by s a w' out' moved' r =
      Turns spans keys (of_which s lops rops) (of_which s lcs rcs) w w' half a (of_which s left right) (of_which s right left) totals (number_of s) out out' moved moved' r

  module _ {w' out' moved' : List ℕ} {r : Sides} where
    taking_less : (s : Which) (a : Op) → TakesOf s a → Turned_by s a w' out' moved' r
        → work (ahead_of lops (of_which s r.own r.other).ahead) + work (ahead_of rops (of_which s r.other r.own).ahead)
        < work (ahead_of lops left.ahead) + work (ahead_of rops right.ahead)
    taking_less Left a k T = side_less G (takes_left a k) T
    taking_less Right b k T = omega (arith, side_less (exchange G) (takes_right b k) T)

    taking_step : (s : Which) (a : Op) → TakesOf s a → Turned_by s a w' out' moved' r → length out' ≡ length out → length moved' ≡ length moved
        → Going F w' out' moved' (of_which s r.own r.other) (of_which s r.other r.own) r.totals
    taking_step Left a k T eo em = side_step G (takes_left a k) T eo em
    taking_step Right b k T eo em = exchange (side_step (exchange G) (takes_right b k) T eo em)

  -- what the code hands to a turn, as it was chosen
  module _ (x : Choice) (chose : Some x ≡ choice_of L priority left.ahead.next right.ahead.next) {ops cs : List ℕ} {own other : Side}
      (eo : ops ≡ of_which x.side lops rops) (ec : cs ≡ of_which x.side lcs rcs) (ew : own ≡ of_which x.side left right) (eh : other ≡ of_which x.side right left) where
    pub seat_turnable : Turnable spans keys ops cs w half x.op own other totals (number_of x.side) out moved
    seat_turnable = rw (eo, ec, ew, eh) (taking_turnable x.side x.op (takes (Some x) chose))

    module _ {w' out' moved' : List ℕ} {r : Sides} {l' r' : Side} (T : Turns spans keys ops cs w w' half x.op own other totals (number_of x.side) out out' moved moved' r)
        (el : l' ≡ of_which x.side r.own r.other) (er : r' ≡ of_which x.side r.other r.own) where
      taking : Turned_by x.side x.op w' out' moved' r
      taking = rw (eo, ec, ew, eh) at T

      pub seat_less : work (ahead_of lops l'.ahead) + work (ahead_of rops r'.ahead) < work (ahead_of lops left.ahead) + work (ahead_of rops right.ahead)
      seat_less = rw (el, er) (taking_less x.side x.op (takes (Some x) chose) taking)

      pub seat_step : length out' ≡ length out → length moved' ≡ length moved → Going F w' out' moved' l' r' r.totals
      seat_step so sm = rw (el, er) (taking_step x.side x.op (takes (Some x) chose) taking so sm)
