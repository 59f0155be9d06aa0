-- Shown: what the work room holds once tokens are remembered, and that this is what the merge's definition remembers.
-- How: keys and lengths are two runs put at two places; the parts of the room by Parts, the cases by the definition's test.
use Prim.Native.Nat.{ℕ, zero, suc, ◌+◌, ◌-◌, ◌*◌, ◌≤◌, ◌<◌}
use mathlib.Core.Path.{◌≡◌, refl, sym, ◌∙◌, ap}
use mathlib.Core.List.{List, ◌++◌}
use native.Mathlib.Omega.{arith}
use native.Mathlib.Decide.{ℕ_discrete}
use borrow.Author.Tests.{eq-eqb, ne_eqb}
use lib.ListN.{length, get_or, take, drop}
use lib.Seq.{slice, slice_empty, length-slice}
use Rattle.room.specs.Placed.{placed}
use Rattle.merging.specs.declared.Op.TheVariants.{Delete, Insert, Retain}
use Rattle.merging.specs.Lent.{Lent, keys_of, lengths_of}
use Rattle.merging.specs.Meeting.{inserted, appended, remember_of}
use Rattle.operation.specs.declared.Last.{Last}
use Rattle.operation.specs.declared.Last.TheVariants.{Nothing, Deleted, Retained, Inserted}
use Rattle.operation.specs.Views.{last_of, of_spans}
use Rattle.operation.proofs.Meeting.{lengths_of_lem}
use Rattle.operation.specs.declared.Memory.{Memory}
use Rattle.turns.specs.Remembering.{Writable, Kept, Written, kept_from, Began, Rememberable, Remembers, Since}
use Rattle.room.proofs.Placing.{placed_length}
use Rattle.turns.proofs.Parts.{drop_take, placed_before, placed_behind, placed_holds}

-- the lengths of tokens, one by one
pub length_lengths : (lent : Lent) (first count : ℕ) → length (lengths_of lent first count) ≡ count
unfolding lengths_of
length_lengths lent first zero = refl
length_lengths lent first (suc n) = ap suc (length_lengths lent (first + 1) n)

pub get_d_lengths : (lent : Lent) (first count k : ℕ) → k < count → get_or (lengths_of lent first count) k 0 ≡ get_or lent.spans ((first + k) * 2 + 1) 0
unfolding lengths_of
get_d_lengths lent first zero k h = absurd (omega arith)
get_d_lengths lent first (suc n) zero h = let e : first + 0 ≡ first = omega arith in rw e
get_d_lengths lent first (suc n) (suc k) h =
    let e : first + suc k ≡ first + 1 + k = omega arith in
    rw e (get_d_lengths lent (first + 1) n k (omega arith))

-- keys and lengths depend on nothing else that was lent
lent_lengths : (lent : Lent) (spans : List ℕ) (first count : ℕ) → lent.spans ≡ spans
    → lengths_of (of_spans spans) first count ≡ lengths_of lent first count
lent_lengths lent spans first count e = rw (← e) (lengths_of_lem lent first count)

lent_keys : (lent : Lent) (keys : List ℕ) (first count : ℕ) → lent.keys ≡ keys → slice first (first + count) keys ≡ keys_of lent first count
unfolding keys_of
lent_keys lent keys first count e = rw (← e)

-- two runs of n numbers put into the work room, half apart
module _ (w ks ls : List ℕ) (half at n : ℕ) (ek : length ks ≡ n) (el : length ls ≡ n) (h : at + n ≤ half) (l : half + at + n ≤ length w) where
  first_fits : at + length ks ≤ length w
  first_fits = omega arith

  second_fits : half + at + length ls ≤ length (placed w at ks)
  second_fits = omega (arith, placed_length w at ks first_fits)

  both_kept : Kept w (placed (placed w at ks) (half + at) ls) half at n
  both_kept =
      record {
        same = placed_length (placed w at ks) (half + at) ls second_fits ∙ placed_length w at ks first_fits;
        front = λ a b g.
            placed_before (placed w at ks) (half + at) ls second_fits a b (omega arith) ∙ placed_before w at ks first_fits a b g;
        middle = λ a b f g.
            placed_before (placed w at ks) (half + at) ls second_fits a b g ∙ placed_behind w at ks first_fits a b (omega arith);
        back = λ a b g.
            placed_behind (placed w at ks) (half + at) ls second_fits a b (omega arith) ∙ placed_behind w at ks first_fits a b (omega arith);
      }

  both_keys : (a : ℕ) → a ≤ at → slice a (at + n) (placed (placed w at ks) (half + at) ls) ≡ slice a at w ++ ks
  both_keys a g =
      placed_before (placed w at ks) (half + at) ls second_fits a (at + n) (omega arith)
      ∙ placed_holds w at ks first_fits a (at + n) g (omega arith)

  both_lengths : (a : ℕ) → a ≤ at
      → slice (half + a) (half + (at + n)) (placed (placed w at ks) (half + at) ls) ≡ slice (half + a) (half + at) w ++ ls
  both_lengths a g =
      placed_holds (placed w at ks) (half + at) ls second_fits (half + a) (half + (at + n)) (omega arith) (omega arith)
      ∙ ap (λ (r : List ℕ). r ++ ls) (placed_behind w at ks first_fits (half + a) (half + at) (omega arith))

-- what remembering tokens leaves
pub written : {spans keys w : List ℕ} {first count fill half : ℕ} (w₁ w₂ : List ℕ) → Writable spans keys w first count fill half
    → w₁ ≡ placed w fill (take (first + count - first) (drop first keys)) → w₂ ≡ placed w₁ (half + fill) (lengths_of (of_spans spans) first count)
    → Written spans keys w w₂ first count fill half
written {spans} {keys} {w} {first} {count} {fill} {half} w₁ w₂ g e₁ e₂ =
    let ks : List ℕ = slice first (first + count) keys in
    let ls : List ℕ = lengths_of (of_spans spans) first count in
    let ek : length ks ≡ count = length-slice first (first + count) keys g.keys ∙ omega arith in
    let el : length ls ≡ count = length_lengths (of_spans spans) first count in
    let e : w₂ ≡ placed (placed w fill ks) (half + fill) ls =
    e₂ ∙ ap (λ (r : List ℕ). placed r (half + fill) ls) (e₁ ∙ ap (placed w fill) (sym (drop_take first (first + count) keys)))
    in
    record {
      stands = e;
      keys = λ a h. rw e (both_keys w ks ls half fill count ek el g.apart g.place a h);
      lengths = λ a h. rw e (both_lengths w ks ls half fill count ek el g.apart g.place a h);
      kept = rw e (both_kept w ks ls half fill count ek el g.apart g.place);
    }

-- an insert's tokens may be written
pub writable : (spans keys w : List ℕ) (half : ℕ) (m : Memory) (o f n : ℕ) → Rememberable spans keys w half m (Insert o f n)
    → Writable spans keys w f n m.fill half
writable spans keys w half m o f n g = record { spans = g.spans.0; keys = g.keys; apart = g.apart; place = g.place }

-- where the remembered tokens start, by the definition's test
pub from_same : (o from order fill : ℕ) → o ≡ order → kept_from (Inserted o from) order fill ≡ from
from_same o from order fill e = rw (eq-eqb o order e, kept_from)

pub from_other : (o from order fill : ℕ) → (o ≡ order → ⊥) → kept_from (Inserted o from) order fill ≡ fill
from_other o from order fill e = rw (ne_eqb o order e, kept_from)

from_began : (last : Last) (order fill : ℕ) → Began last fill → kept_from last order fill ≤ fill
from_began Nothing order fill b = omega arith
from_began (Deleted o l) order fill b = omega arith
from_began (Retained o l) order fill b = omega arith
from_began (Inserted o from) order fill b =
    elim (ℕ_discrete o order) [ yes e ↦ omega (arith, from_same o from order fill e) | no e ↦ omega (arith, from_other o from order fill e) ]

from_since : (last : Last) (base order fill : ℕ) → base ≤ fill → Since last base fill → base ≤ kept_from last order fill
from_since Nothing base order fill h s = h
from_since (Deleted o l) base order fill h s = h
from_since (Retained o l) base order fill h s = h
from_since (Inserted o from) base order fill h s =
    elim (ℕ_discrete o order) [ yes e ↦ omega (arith, from_same o from order fill e, s.0) | no e ↦ omega (arith, from_other o from order fill e) ]

module _ (lent : Lent) (w w' : List ℕ) (half fill o f n : ℕ) (hk : (a : ℕ) → a ≤ fill → slice a (fill + n) w' ≡ slice a fill w ++ keys_of lent f n)
    (hl : (a : ℕ) → a ≤ fill → slice (half + a) (half + (fill + n)) w' ≡ slice (half + a) (half + fill) w ++ lengths_of lent f n) where
  fresh : inserted o (slice fill (fill + n) w') (slice (half + fill) (half + (fill + n)) w') ≡ inserted o (keys_of lent f n) (lengths_of lent f n)
  fresh = rw (hk fill (omega arith), hl fill (omega arith), slice_empty fill w, slice_empty (half + fill) w)

  joined : (o' from : ℕ) → from ≤ fill
      → inserted o (slice (kept_from (Inserted o' from) o fill) (fill + n) w') (slice (half + kept_from (Inserted o' from) o fill) (half + (fill + n)) w')
      ≡ appended o' (slice from fill w) (slice (half + from) (half + fill) w) o (keys_of lent f n) (lengths_of lent f n)
  unfolding appended
  joined o' from h =
      elim (ℕ_discrete o' o) [
        | yes e ↦ rw (from_same o' from o fill e, eq-eqb o' o e, appended, hk from h, hl from h, e)
        | no e ↦ rw (from_other o' from o fill e, ne_eqb o' o e, appended) fresh
      ]

  last_insert : (last : Last) → Began last fill
      → last_of w' half (fill + n) (Inserted o (kept_from last o fill)) ≡ remember_of lent (last_of w half fill last) (Insert o f n)
  last_insert Nothing b = fresh
  last_insert (Deleted o' l') b = fresh
  last_insert (Retained o' l') b = fresh
  last_insert (Inserted o' from) b = joined o' from b

-- the result of a turn, by its kind
module _ (spans keys w : List ℕ) (half : ℕ) (m : Memory) where
  kept_none : Kept w w half m.fill 0
  kept_none = record { same = refl; front = λ a b h. refl; middle = λ a b h g. refl; back = λ a b h. refl }

  pub remembers_delete : (o l : ℕ) → Remembers spans keys w w half m (Delete o l) (record { last = Deleted o l; fill = m.fill })
  remembers_delete o l = record { fill = omega arith; last = λ lent es ek. refl; kept = kept_none; fits = λ h. h; since = λ base h s. tt }

  pub remembers_retain : (o l : ℕ) → Remembers spans keys w w half m (Retain o l) (record { last = Retained o l; fill = m.fill })
  remembers_retain o l = record { fill = omega arith; last = λ lent es ek. refl; kept = kept_none; fits = λ h. h; since = λ base h s. tt }

  pub remembers_insert : (w' : List ℕ) (o f n from : ℕ) → Began m.last m.fill → Written spans keys w w' f n m.fill half → from ≡ kept_from m.last o m.fill
      → Remembers spans keys w w' half m (Insert o f n) (record { last = Inserted o from; fill = m.fill + n })
  remembers_insert w' o f n from b g e =
      record {
        fill = refl;
        last = λ lent es ek.
            rw e
            (last_insert lent w w' half m.fill o f n (λ a h. g.keys a h ∙ ap (λ (r : List ℕ). slice a m.fill w ++ r) (lent_keys lent keys f n ek))
            (λ a h. g.lengths a h ∙ ap (λ (r : List ℕ). slice (half + a) (half + m.fill) w ++ r) (lent_lengths lent spans f n es))
            m.last
            b);
        kept = g.kept;
        fits = λ h. tt;
        since = λ base h s. (omega (arith, from_since m.last base o m.fill h s, e), omega (arith, from_began m.last o m.fill b, e));
      }
