-- What the code keeps of a side between turns, and what it gives a turn: every number fits, and each side stays in its part of the work room.
-- By cases on the operation taken. Assumes nothing.
use Rattle.std.specs.Prelude.{Option, Some, None}
use Prim.Native.Nat.{ℕ, ◌+◌, ◌-◌, ◌/◌, ◌≤◌}
use mathlib.Core.Path.{◌≡◌, refl, sym, ap, ◌∙◌, subst}
use mathlib.Core.Bool.{Bool, true, false}
use mathlib.Core.List.{List, [], ◌∷◌}
use mathlib.Core.Logic.{◌⊎◌, inl, inr, ⊎_elim}
use native.Mathlib.Omega.{arith}
use native.Mathlib.Decide.{dec_lt}
use lib.Dec.{ltb}
use lib.ListN.{length}
use lib.Seq.{slice}
use Rattle.overlap.specs.Overlap.{overlap_of}
use Rattle.merging.specs.declared.Op.{Op}
use Rattle.merging.specs.declared.Op.TheVariants.{Delete, Insert, Retain}
use Rattle.merging.specs.Lent.{Lent, rules_of, keys_of}
use Rattle.merging.specs.Operations.{order_of, length_of, span_of}
use Rattle.merging.specs.Meeting.{Remembered, nothing, deleted, retained, inserted, kept_length, front_of, lost_of, width_of}
use Rattle.merging.specs.Tiling.{Tiled, total_of, tokens_of, Inserts}
use Rattle.merging.proofs.OneTurn.{starts}
use Rattle.merging.proofs.Sound.{text_of_all, next_within}
use Rattle.operation.specs.declared.Last.{Last}
use Rattle.operation.specs.declared.Last.TheVariants.{Nothing, Deleted, Retained, Inserted}
use Rattle.numbers.specs.Sizes.{most}
use Rattle.operation.specs.Views.{heads, reach, tokens, NextFits, LastFits, Away}
use Rattle.operation.specs.Meets.{tail_by}
use Rattle.operation.proofs.Cuts.{tail_cut, tail_whole}
use Rattle.turns.specs.declared.Ahead.{Ahead}
use Rattle.turns.specs.Looking.{list_from, ahead_of, span_next, FirstFits}
use Rattle.turns.specs.Remembering.{Began, Since}
use Rattle.order.specs.Readable.{Run}
use Rattle.merge.specs.declared.Side.{Side}
use Rattle.merge.specs.declared.Totals.{Totals}
use Rattle.merge.specs.declared.Sides.{Sides}
use Rattle.merge.specs.Turning.{taken, Turns}
use Rattle.merge.specs.Turning.{Sound as Fine}
use Rattle.merging.proofs.OneTurn.{keep_less}

-- base and top bound the side's part of the work room; its list stands at p of the original
pub record SideFits (ops : List ℕ) (base top p : ℕ) (s : Side) : Type 0 where
  pub ends : s.ahead.next ≡ None → list_from ops s.ahead.behind s.ahead.at ≡ []
  pub fits : LastFits s.memory.last
  pub since : Since s.memory.last base s.memory.fill
  pub low : base ≤ s.memory.fill
  pub place : s.memory.fill + tokens_of (ahead_of ops s.ahead) ≤ top
  pub at : p + span_next s.ahead.next ≡ s.ahead.at

pub tokens_first : (a : Op) (xs : List Op) → tokens_of (a ∷ xs) ≡ tokens a + tokens_of xs
unfolding total_of
tokens_first (Delete o l) xs = refl
tokens_first (Insert o f n) xs = refl
tokens_first (Retain o l) xs = refl

tail_tokens : (a : Op) (rs xs : List Op) → tokens_of (heads (tail_by a rs) xs) ≡ tokens_of xs
unfolding tail_by total_of
tail_tokens (Delete o l) rs xs = refl
tail_tokens (Insert o f n) rs xs = refl
tail_tokens (Retain o l) rs xs = go (ltb (kept_length o l rs) l)
  where
    go : (t : Bool) → tokens_of (heads (elim t [ true ↦ Some (Retain (o + kept_length o l rs) (l - kept_length o l rs)) | false ↦ None ]) xs) ≡ tokens_of xs
    go true = omega arith
    go false = refl

-- what is taken and what stays next are the operation
span_split : (a : Op) (rs : List Op) → span_of (front_of a rs) + span_next (tail_by a rs) ≡ span_of a
unfolding tail_by
span_split (Delete o l) rs = omega arith
span_split (Insert o f n) rs = omega arith
span_split (Retain o l) rs =
    elim (dec_lt (kept_length o l rs) l) [
      | yes h ↦ omega (arith, ap span_next (tail_cut o l (kept_length o l rs) rs refl h))
      | no h ↦ omega (arith, ap span_next (tail_whole o l (kept_length o l rs) rs refl (omega arith)), keep_less o l rs)
    ]

module _ {spans keys ops cs w w' : List ℕ} {half : ℕ} {a : Op} {own other : Side} {totals : Totals} {number : ℕ} {out out' moved moved' : List ℕ} {r : Sides}
    (T : Turns spans keys ops cs w w' half a own other totals number out out' moved moved' r) where
  -- the side that took a
  pub own_fits : {base top p : ℕ} (n : ℕ) → SideFits ops base top p own → own.ahead.next ≡ Some a → Tiled (a ∷ list_from ops own.ahead.behind own.ahead.at) p n
      → SideFits ops base top (order_of a + span_of (taken a other)) r.own
  own_fits {base} {top} {p} n s e t =
      let xs = list_from ops own.ahead.behind own.ahead.at in
      let rs = heads other.ahead.next [] in
      let h : ahead_of ops own.ahead ≡ a ∷ xs = ap (λ (x : Option Op). heads x xs) e in
      record {
        ends = λ d. ap (λ (x : Option Op). heads x (list_from ops r.own.ahead.behind r.own.ahead.at)) (sym d) ∙ T.looks.ends d;
        fits = T.own_fits;
        since = T.own_since base s.low s.since;
        low = omega (arith, s.low, T.grown);
        place = omega (arith, s.place, T.filled, ap tokens_of h, tokens_first a xs, ap tokens_of T.looks.view, tail_tokens a rs xs);
        at = T.looks.from (order_of a + span_of (taken a other)) (omega (arith, span_split a rs, starts a xs p n t, s.at, ap span_next e));
      }

  -- the side that waited
  pub other_fits : {ops' : List ℕ} {base top q : ℕ} → SideFits ops' base top q other → SideFits ops' base top q r.other
  other_fits {ops'} {base} {top} {q} s =
      record {
        ends = subst (λ (h : Ahead). h.next ≡ None → list_from ops' h.behind h.at ≡ []) (sym T.ahead) s.ends;
        fits = T.fits;
        since = T.since base s.since;
        low = omega (arith, s.low, T.heard_fill);
        place = subst (λ (h : Ahead). r.other.memory.fill + tokens_of (ahead_of ops' h) ≤ top) (sym T.ahead) (omega (arith, s.place, T.heard_fill));
        at = subst (λ (h : Ahead). q + span_next h.next ≡ h.at) (sym T.ahead) s.at;
      }

-- what an operation of a checked list is
module _ (text spans keys : List ℕ) (fit : length spans / 2 ≤ most) where
  reach_within : (a : Op) (xs : List Op) (p n : ℕ) → n ≤ 65535 → Tiled (a ∷ xs) p n → Inserts (Run text spans keys) (a ∷ xs) → reach a ≤ most
  unfolding Inserts
  reach_within (Delete o l) xs p n small t i = omega (arith, next_within (Delete o l) xs p n t)
  reach_within (Insert o f k) xs p n small t i = omega (arith, i.0.lent)
  reach_within (Retain o l) xs p n small t i = omega (arith, next_within (Retain o l) xs p n t)

  pub fine : (a : Op) (xs : List Op) (p n : ℕ) → n ≤ 65535 → Tiled (a ∷ xs) p n → Inserts (Run text spans keys) (a ∷ xs) → tokens_of (a ∷ xs) ≤ 8192 → Fine spans keys a
  unfolding Inserts
  fine (Delete o l) xs p n small t i k = record { reaches = reach_within (Delete o l) xs p n small t i; lies = tt; keyed = tt; few = omega arith }
  fine (Insert o f c) xs p n small t i k =
      record {
        reaches = reach_within (Insert o f c) xs p n small t i;
        lies = (omega (arith, i.0.lent), omega (arith, k, tokens_first (Insert o f c) xs));
        keyed = omega (arith, i.0.lent);
        few = omega (arith, k, tokens_first (Insert o f c) xs);
      }
  fine (Retain o l) xs p n small t i k = record { reaches = reach_within (Retain o l) xs p n small t i; lies = tt; keyed = tt; few = omega arith }

  pub next_fits : (x : Option Op) (ys : List Op) (q n : ℕ) → n ≤ 65535 → Tiled (heads x ys) q n → Inserts (Run text spans keys) (heads x ys) → NextFits x
  next_fits (Some y) ys q n small t i = reach_within y ys q n small t i
  next_fits None ys q n small t i = tt

pub began_of : (v : Last) (base fill : ℕ) → Since v base fill → Began v fill
began_of Nothing base fill s = tt
began_of (Deleted o l) base fill s = tt
began_of (Retained o l) base fill s = tt
began_of (Inserted o from) base fill s = s.1

-- the other side's part of the work room is not touched
pub away_from : (v : Last) (base fill at n : ℕ) → Since v base fill → (fill ≤ at) ⊎ (at + n ≤ base) → Away v fill at n
away_from Nothing base fill at n s h = tt
away_from (Deleted o l) base fill at n s h = tt
away_from (Retained o l) base fill at n s h = tt
away_from (Inserted o from) base fill at n s h = (s.1, ⊎_elim (λ (q : fill ≤ at). inl q) (λ (q : at + n ≤ base). inr (omega (arith, s.0))) h)

-- the record behind what is taken ends within the original
pub first_fits : (a : Op) (xs : List Op) (p n at : ℕ) → n ≤ 65535 → Tiled (a ∷ xs) p n → p + span_of a ≡ at → FirstFits at xs
first_fits a [] p n at small t e = tt
first_fits (Delete o l) (x ∷ xs) p n at small t e = omega (arith, next_within x xs (o + l) n t.2, starts x xs (o + l) n t.2, t.0)
first_fits (Insert o f k) (x ∷ xs) p n at small t e = omega (arith, next_within x xs p n t.2, starts x xs p n t.2)
first_fits (Retain o l) (x ∷ xs) p n at small t e = omega (arith, next_within x xs (o + l) n t.2, starts x xs (o + l) n t.2, t.0)

-- what an operation loses goes by the keys alone
pub lost_keys : (L M : Lent) → L.keys ≡ M.keys → (a : Op) (v : Remembered) → lost_of (rules_of L) a v ≡ lost_of (rules_of M) a v
unfolding lost_of keys_of
lost_keys L M e (Delete o l) nothing = refl
lost_keys L M e (Delete o l) (deleted o' l') = refl
lost_keys L M e (Delete o l) (retained o' l') = refl
lost_keys L M e (Delete o l) (inserted o' ks ls) = refl
lost_keys L M e (Insert o f n) nothing = refl
lost_keys L M e (Insert o f n) (deleted o' l') = refl
lost_keys L M e (Insert o f n) (retained o' l') = refl
lost_keys L M e (Insert o f n) (inserted o' ks ls) = ap (λ (k : List ℕ). width_of (overlap_of ks (slice f (f + n) k))) e
lost_keys L M e (Retain o l) nothing = refl
lost_keys L M e (Retain o l) (deleted o' l') = refl
lost_keys L M e (Retain o l) (retained o' l') = refl
lost_keys L M e (Retain o l) (inserted o' ks ls) = refl

pub text_first : (lent : Lent) (a : Op) (xs : List Op) → length_of lent a ≤ text_of_all lent (a ∷ xs)
unfolding total_of
text_first lent a xs = omega arith
