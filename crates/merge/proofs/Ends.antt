-- The loop's first state, the side that is chosen, and what the rooms hold when both sides are done.
-- By the invariant of Running, and by cases on what is next. Assumes nothing.
use Rattle.std.specs.Prelude.{Option, Some, None}
use Prim.Native.Nat.{ℕ, suc, ◌+◌, ◌-◌, ◌/◌, ◌≤◌}
use mathlib.Core.Path.{◌≡◌, refl, sym, ap, ◌∙◌, subst}
use mathlib.Core.Bool.{Bool, true, false}
use mathlib.Core.List.{List, [], ◌∷◌, ◌++◌, append-nil, append_assoc}
use native.Mathlib.Omega.{arith}
use lib.ListN.{length, length-append}
use Rattle.room.specs.Placed.{answered}
use Rattle.records.specs.declared.Cursor.{Cursor}
use Rattle.records.specs.Cursors.{cursors_from, cursors_of, flat_cursors}
use Rattle.records.specs.Operations.{operations_from, operations_of, flat_operations}
use Rattle.merging.specs.declared.Op.{Op}
use Rattle.merging.specs.declared.Op.TheVariants.{Delete, Insert, Retain}
use Rattle.std.specs.declared.cmp.Ordering.{Ordering}
use Rattle.merging.specs.Lent.{Lent, rules_of, lent_of}
use Rattle.merging.specs.Operations.{Out, ops_from, records_of}
use Rattle.merging.specs.OrderRule.{goes_left, order_rule}
use Rattle.merging.specs.Cursors.{ended}
use Rattle.merging.specs.Turn.{State, Taken, none, from_left, from_right, taken_of}
use Rattle.merging.specs.Merge.{Outcome, leftovers, work}
use Rattle.merging.specs.Tiling.{Tiled, Inserts, tokens_of}
use Rattle.merging.proofs.Turns.{run_none, fuel}
use Rattle.merging.proofs.Sound.{Sound, next_within, sound_start}
use Rattle.operation.specs.Views.{heads}
use Rattle.turns.specs.declared.Ahead.{Ahead}
use Rattle.turns.specs.Looking.{list_from, ahead_of, FirstFits, Looks}
use Rattle.order.specs.Readable.{Run}
use Rattle.merge.specs.declared.Side.{Side}
use Rattle.merge.specs.declared.Totals.{Totals}
use Rattle.merge.specs.declared.Which.{Which}
use Rattle.merge.specs.declared.Which.TheVariants.{Left, Right}
use Rattle.merge.specs.declared.Choice.{Choice}
use Rattle.merge.specs.Choosing.{NextReadable, choice_of}
use Rattle.merge.specs.Running.{starting, list_of, begin, outcome, Runnable, Ran}
use Rattle.cursor_position.specs.declared.Progress.{Progress}
use Rattle.cursor_position.specs.Moves.{Went}
use Rattle.merge.specs.Turning.{cursors_left}
use Rattle.merge.proofs.OneTurn.{state_of}
use Rattle.merge.proofs.SideLaws.{SideFits}
use Rattle.merge.proofs.Running.{rest, frame, ready, Going}
use Rattle.std.specs.Ordering.{ordering_then, is_lt}

-- all of a list, from its first record on
pub list_all : (ops : List ℕ) → list_from ops 0 0 ≡ list_of ops
unfolding operations_of
list_all ops = let e : length ops / 6 - 0 ≡ length ops / 6 = omega arith in ap (λ (k : ℕ). ops_from 0 (operations_from ops 0 k)) e

cursors_all : (cs : List ℕ) → cursors_from cs 0 (length cs / 2 - 0) ≡ cursors_of cs
unfolding cursors_of
cursors_all cs = let e : length cs / 2 - 0 ≡ length cs / 2 = omega arith in ap (cursors_from cs 0) e

first_of_lem : (zs : List Op) (n : ℕ) → n ≤ 65535 → Tiled zs 0 n → FirstFits 0 zs
first_of_lem [] n small t = tt
first_of_lem (z ∷ zs) n small t = omega (arith, next_within z zs 0 n t)

pub first_fits : (ops : List ℕ) (n : ℕ) → n ≤ 65535 → Tiled (list_of ops) 0 n → FirstFits 0 (list_from ops 0 0)
first_fits ops n small t = subst (FirstFits 0) (sym (list_all ops)) (first_of_lem (list_of ops) n small t)

-- what is next may be read
pub next_readable : (text spans keys : List ℕ) (x : Option Op) (xs : List Op) → Inserts (Run text spans keys) (heads x xs) → NextReadable text spans keys x
unfolding Inserts
next_readable text spans keys None xs i = tt
next_readable text spans keys (Some (Delete o l)) xs i = tt
next_readable text spans keys (Some (Insert o f n)) xs i = i.0
next_readable text spans keys (Some (Retain o l)) xs i = tt

-- what a choice says of the definition's
abbrev pub ChosenOf : Which → Op → Taken → Option Op → Option Op → List Op → List Op → Type 0
ChosenOf Left a t l r xs ys = (l ≡ Some a) × (t ≡ from_left a xs)
ChosenOf Right b t l r xs ys = (r ≡ Some b) × (t ≡ from_right b ys)

abbrev pub Chosen : Option Choice → Taken → Option Op → Option Op → List Op → List Op → Type 0
Chosen None t l r xs ys = t ≡ none
Chosen (Some x) t l r xs ys = ChosenOf x.side x.op t l r xs ys

pub chosen : (lent : Lent) (priority : Ordering) (l r : Option Op) (xs ys : List Op) → (l ≡ None → xs ≡ []) → (r ≡ None → ys ≡ [])
    → Chosen (choice_of lent priority l r) (taken_of lent priority (heads l xs) (heads r ys)) l r xs ys
unfolding choice_of taken_of goes_left
chosen lent priority None None xs ys hx hy = ap (λ (zs : List Op). taken_of lent priority zs ys) (hx refl) ∙ ap (taken_of lent priority []) (hy refl)
chosen lent priority None (Some b) xs ys hx hy = (refl, ap (λ (zs : List Op). taken_of lent priority zs (b ∷ ys)) (hx refl))
chosen lent priority (Some a) None xs ys hx hy = (refl, ap (taken_of lent priority (a ∷ xs)) (hy refl))
chosen lent priority (Some a) (Some b) xs ys hx hy =
    go (is_lt (ordering_then (order_rule lent a b) priority))
  where
    go : (t : Bool)
        → Chosen (elim t [ true ↦ Some (record { side = Left; op = a }) | false ↦ Some (record { side = Right; op = b }) ]) (elim t [ true ↦ from_left a xs | false ↦ from_right b ys ]) (Some a) (Some b) xs ys
    go true = (refl, refl)
    go false = (refl, refl)

module _ {original text spans keys lops rops lcs rcs : List ℕ} {priority : Ordering} {mid half : ℕ} {w out moved : List ℕ}
    (K : Runnable original text spans keys lops rops lcs rcs priority w mid half out moved) where
  abbrev L : Lent
  L = lent_of original text spans keys

  abbrev zero_totals : Totals
  zero_totals = record { merged = 0; consumed = 0; operations = 0; cursors = 0 }

  side_starts : (ops : List ℕ) (h : Ahead) (base top fill : ℕ) → Looks ops None 0 0 h → base ≤ fill → fill + tokens_of (list_of ops) ≤ top → SideFits ops base top 0 (starting h fill)
  side_starts ops h base top fill k b t =
      record {
        ends = λ d. ap (λ (x : Option Op). heads x (list_from ops h.behind h.at)) (sym d) ∙ k.ends d;
        fits = tt;
        since = tt;
        low = b;
        place = omega (arith, t, ap tokens_of (k.view ∙ list_all ops));
        at = k.from 0 (omega arith);
      }

  pub started : (h k : Ahead) → Looks lops None 0 0 h → Looks rops None 0 0 k
      → Going (frame original text spans keys lops rops lcs rcs priority mid half w out moved) w out moved (starting h 0) (starting k mid) zero_totals
  unfolding records_of flat_operations flat_cursors
  started h k lh lk =
      let es : state_of lops rops lcs rcs w half (starting h 0) (starting k mid) zero_totals ≡ begin lops rops lcs rcs =
      (λ i. record {
        left = record { next = (lh.view ∙ list_all lops) i; last = (begin lops rops lcs rcs).left.last; seen = 0; cursors = cursors_all lcs i };
        right = record { next = (lk.view ∙ list_all rops) i; last = (begin lops rops lcs rcs).right.last; seen = 0; cursors = cursors_all rcs i };
        merged = 0;
        consumed = 0;
      }) in
      record {
        ready = ready K;
        p = 0;
        q = 0;
        sound = subst (λ (s : State). Sound (rules_of L) (Run text spans keys) (list_of lops) (list_of rops) (length original) s 0 0) (sym es)
            (sound_start (rules_of L) (Run text spans keys) (list_of lops) (list_of rops) (cursors_of lcs) (cursors_of rcs) (length original) K.left.tiled K.right.tiled
            K.left.inserts K.right.inserts);
        owns = side_starts lops h 0 mid 0 lh (omega arith) (omega (arith, K.mid_is));
        others = side_starts rops k mid half mid lk (omega arith) (omega (arith, K.half_is));
        outs = [];
        ms = [];
        operations = refl;
        out_is = refl;
        cursors = refl;
        moved_is = refl;
        all_outs = ap (λ (s : State). (rest (rules_of L) priority s).outs) (sym es);
        all_cursors = ap (λ (s : State). (rest (rules_of L) priority s).cursors) (sym es);
        space = omega arith;
        same = refl;
        out_same = refl;
        moved_same = refl;
      }

-- with no turn left, the leftovers are all that comes
pub rest_none : (lent : Lent) (priority : Ordering) (s : State) → taken_of lent priority s.left.next s.right.next ≡ none
    → rest (rules_of lent) priority s ≡ record { outs = []; cursors = leftovers s }
rest_none lent priority s e =
    let k = work s.left.next + work s.right.next in
    fuel (rules_of lent) priority k (suc k) s (omega arith) (omega arith) ∙ run_none (rules_of lent) priority k s e

-- what the rooms hold when both sides are done: "Leftovers go to the end, left before right."
pub finished :
    {original text spans keys lops rops lcs rcs : List ℕ} {priority : Ordering} {mid half : ℕ} {w₀ out₀ moved₀ w out moved moved₁ moved₂ : List ℕ} {left right : Side} {totals : Totals}
    {p₁ p₂ : Progress}
    → Going (frame original text spans keys lops rops lcs rcs priority mid half w₀ out₀ moved₀) w out moved left right totals
    → taken_of (lent_of original text spans keys) priority (ahead_of lops left.ahead) (ahead_of rops right.ahead) ≡ none
    → Went lcs (ended totals.merged (cursors_left lcs left.cursor)) [] moved moved₁ (record { next = left.cursor; count = totals.cursors }) p₁
    → Went rcs (ended totals.merged (cursors_left rcs right.cursor)) [] moved₁ moved₂ (record { next = right.cursor; count = p₁.count }) p₂
    → Ran original text spans keys lops rops lcs rcs priority out₀ out moved₀ moved₂
    (record { merged = totals.merged; consumed = totals.consumed; operations = totals.operations; cursors = p₂.count })
finished {original} {text} {spans} {keys} {lops} {rops} {lcs} {rcs} {priority} {mid} {half} {w₀} {out₀} {moved₀} {w} {left = left} {right} {totals} {p₁} G e a b =
    let L = lent_of original text spans keys in
    let O = outcome L priority lops rops lcs rcs in
    let l = ended totals.merged (cursors_left lcs left.cursor) in
    let r = ended totals.merged (cursors_left rcs right.cursor) in
    let none_left = rest_none L priority (state_of lops rops lcs rcs w half left right totals) e in
    let eo : O.outs ≡ G.outs = G.all_outs ∙ ap (λ (o : Outcome). G.outs ++ o.outs) none_left ∙ append-nil G.outs in
    let ec : O.cursors ≡ (G.ms ++ l) ++ r =
    G.all_cursors ∙ ap (λ (o : Outcome). G.ms ++ o.cursors) none_left ∙ sym (append_assoc G.ms l r) in
    let c₁ : p₁.count ≡ length (G.ms ++ l) = omega (arith, a.count, G.cursors, length-append G.ms l) in
    record {
      operations = omega (arith, G.operations, ap length eo);
      out_is = G.out_is ∙ ap (λ (o : List Out). answered (flat_operations (records_of L o)) out₀) (sym eo);
      cursors = omega (arith, b.count, c₁, ap length ec, length-append (G.ms ++ l) r);
      moved_is = b.grows (G.ms ++ l) moved₀ c₁ (a.grows G.ms moved₀ G.cursors G.moved_is) ∙ ap (λ (cs : List Cursor). answered (flat_cursors cs) moved₀) (sym ec);
    }
