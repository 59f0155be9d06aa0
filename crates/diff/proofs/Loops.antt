-- A loop over a diff's items: what holds at the place where it stands, and what a turn makes of that.
-- Assumes nothing.
use Prim.Native.Nat.{ℕ, ◌+◌, ◌/◌, ◌<◌, ◌≤◌}
use mathlib.Core.Path.{◌≡◌, refl, sym, ◌∙◌}
use mathlib.Core.List.{List}
use native.Mathlib.Omega.{arith}
use lib.ListN.{length}
use lib.IntN.{ℤ}
use Rattle.std.specs.declared.iter.Enumerate.{Enumerate}
use Rattle.std.specs.Iterator.Adapters.{enumerate_source, enumerate_count}
use Rattle.records.specs.declared.each.Each.{Each}
use Rattle.records.specs.Each.{places, Comes, Ends}
use Rattle.records.proofs.EachLaws.{Reads, reads_from, comes_more, comes_is, comes_on, all_came}
use Rattle.diff.specs.declared.diff.Item.{Item}
use Rattle.diff.specs.declared.diff.Item.TheVariants.{Insert}
use Rattle.diff.specs.declared.diff.Items.{Items}
use Rattle.diff.specs.Items.{item_at}
use Rattle.diff.proofs.Decoding.{insert_within}

-- the item at a place
abbrev pub item_in : Items → ℕ → Item
item_in t i = item_at t.numbers.now (length t.text.now) i

-- it goes over these items, and this holds of its place
pub record Over (xs : List ℤ) (lent : ℕ) (K : ℕ → Type 0) (s : Each Items) : Type 0 where
  pub reads : Reads item_in (item_at xs lent) (length xs / 3) s
  pub keeps : K s.next

pub over_begins : (t : Items) {K : ℕ → Type 0} {s : Each Items} → s ≡ places t 0 (length t.numbers.now / 3) → K 0 → Over t.numbers.now (length t.text.now) K s
over_begins t e k = rw e record { reads = reads_from item_in t 0 _ refl; keeps = k }

module _ {xs : List ℤ} {lent : ℕ} {K : ℕ → Type 0} {s t : Each Items} (h : Over xs lent K s) where
  module _ {x : Item} (c : Comes item_in s t x) where
    -- the item that came is the one of the place
    pub came : {B : Type 0} → (K s.next → s.next < length xs / 3 → item_at xs lent s.next ≡ x → B) → B
    came f = f h.keeps (comes_more h.reads c) (sym (comes_is h.reads c))

    pub over_on : {L : ℕ → Type 0} → (K s.next → s.next < length xs / 3 → item_at xs lent s.next ≡ x → L (s.next + 1)) → Over xs lent L t
    over_on f = record { reads = comes_on h.reads c; keeps = rw c.on (came f) }

    -- a text lies within what was lent
    pub came_within : {m n : ℕ} → x ≡ Insert m n → m + n ≤ lent
    came_within e = came (λ k l f. insert_within xs lent s.next (f ∙ e))

  -- none is left
  pub over_ends : {B : Type 0} → Ends item_in s t → (K s.next → length xs / 3 ≤ s.next → B) → B
  over_ends e f = f h.keeps (all_came h.reads e)

-- the same for a loop that is told its place
pub record Counted (xs : List ℤ) (lent : ℕ) (K : ℕ → Type 0) (s : Enumerate (Each Items)) : Type 0 where
  pub here : enumerate_count s ≡ (enumerate_source s).next
  pub over : Over xs lent K (enumerate_source s)

pub counted_begins :
    (t : Items) {K : ℕ → Type 0} {s : Enumerate (Each Items)} → enumerate_source s ≡ places t 0 (length t.numbers.now / 3) → enumerate_count s ≡ 0
    → K 0 → Counted t.numbers.now (length t.text.now) K s
counted_begins t e c k = record { here = rw e c; over = over_begins t e k }

module _ {xs : List ℤ} {lent : ℕ} {K L : ℕ → Type 0} {s t : Enumerate (Each Items)} (h : Counted xs lent K s) {x : Item}
    (c : Comes item_in (enumerate_source s) (enumerate_source t) x) where
  pub counted_on :
      enumerate_count t ≡ enumerate_count s + 1
      → (K (enumerate_source s).next → (enumerate_source s).next < length xs / 3 → item_at xs lent (enumerate_source s).next ≡ x → L ((enumerate_source s).next + 1))
      → Counted xs lent L t
  counted_on p f = record { here = omega (arith, h.here, c.on); over = over_on h.over c f }
