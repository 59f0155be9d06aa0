-- What each loop keeps, as a record over plain lists and numbers, and one lemma for each way through a turn. Assumes nothing.
--     Filling    the loop of `fill`, at i: the first i entries of the table are right, and `matched` is the last of them
--     Scanned    the loop of `scan`, at i: `matched` keys end the first i, and start..end is the longest so far, short of the whole
--     Falling    the loop within: `matched` is a candidate for what ends the first i + 1
use Prim.Native.Nat.{ℕ, ◌+◌, ◌-◌, ◌≤◌, ◌<◌}
use mathlib.Core.Path.{◌≡◌, refl, subst, ◌∙◌}
use mathlib.Core.List.{List}
use native.Mathlib.Omega.{arith}
use lib.ListN.{length, drop, get_or, set, length-set}
use lib.Seq.{drop-set-lt}
use Rattle.overlap.specs.Table.{Best, Table, Filled}
use Rattle.overlap.specs.Overlap.{range, overlap_of}
use Rattle.overlap.proofs.Endings.{Cand, Seen, none, begin, fall, hit, miss, table_one, table_more, seen_none, seen_longer, seen_kept, seen_whole}
use Rattle.overlap.proofs.Search.{overlap_seen}

pub record Filling (new table₀ table : List ℕ) (matched i : ℕ) : Type 0 where
  pub pos : 0 < i
  pub top : i ≤ length new
  pub room : length new ≤ length table₀
  pub long : length table ≡ length table₀
  pub right : Table new table i
  pub best : Best new new i i matched
  pub kept : drop (length new) table ≡ drop (length new) table₀

pub filling_none : (new table : List ℕ) → 0 < length new → length new ≤ length table → Filling new (set table 0 0) (set table 0 0) 0 1
filling_none new table h k =
    record {
      pos = omega arith;
      top = omega arith;
      room = simp length-set k;
      long = refl;
      right = table_one new table (omega arith);
      best = record { ends = none 1; under = omega arith; most = λ l lb e. omega arith };
      kept = refl;
    }

pub filling_more : {new table₀ table : List ℕ} {m i : ℕ} (k : ℕ) → Filling new table₀ table m i → i < length new → Best new new (i + 1) (i + 1) k
    → Filling new table₀ (set table i k) k (i + 1)
filling_more {new} {table₀} {table} {m} {i} k g h b =
    record {
      pos = omega arith;
      top = omega arith;
      room = g.room;
      long = length-set table i k ∙ g.long;
      right = table_more k g.right (omega (arith, g.room, g.long)) b;
      best = b;
      kept = drop-set-lt (length new) table i k h ∙ g.kept;
    }

pub filled : {new after : List ℕ} {m i : ℕ} (table : List ℕ) → 0 < length new → Filling new (set table 0 0) after m i → length new ≤ i → Filled new table after
filled {new} {after} table h g k =
    record {
      table = subst (λ (n : ℕ). Table new after n) (omega (arith, g.top)) g.right;
      kept = g.kept ∙ drop-set-lt (length new) table 0 0 h;
    }

-- of no key the table is empty
pub filled_empty : (new table : List ℕ) → length new ≡ 0 → Filled new table table
filled_empty new table z = record { table = record { at = λ j p m. absurd (omega arith) }; kept = refl }

pub record Scanned (old new : List ℕ) (start end matched i : ℕ) : Type 0 where
  pub top : i ≤ length old
  pub part : matched < length new
  pub best : Best new old (length new + 1) i matched
  pub seen : Seen new old (length new) i start end
  pub short : end - start < length new

pub record Falling (old new : List ℕ) (start end matched i : ℕ) : Type 0 where
  pub cand : Cand new old (length new) i matched
  pub seen : Seen new old (length new) i start end
  pub short : end - start < length new

module _ {old new : List ℕ} where
  pub scanned_none : 0 < length new → Scanned old new 0 0 0 0
  scanned_none h =
      record {
        top = omega arith;
        part = h;
        best = record { ends = none 0; under = omega arith; most = λ l lb e. e.low };
        seen = seen_none;
        short = h;
      }

  pub falling : {s e k i : ℕ} → Scanned old new s e k i → Falling old new s e k i
  falling g = record { cand = begin g.best (omega arith) g.part; seen = g.seen; short = g.short }

  module _ {s e k i : ℕ} (g : Falling old new s e k i) where
    -- the table's entry for k, which is less
    pub falls : {table : List ℕ} → Table new table (length new) → (k ≡ 0 → ⊥) → get_or table (k - 1) 0 < k
    falls t z = (t.at k (omega arith) (omega (arith, g.cand.under))).under

    pub fallen : {table : List ℕ} → Table new table (length new) → (k ≡ 0 → ⊥) → (get_or old i 0 ≡ get_or new k 0 → ⊥) → Falling old new s e (get_or table (k - 1) 0) i
    fallen t z ne =
        record { cand = fall g.cand ne (t.at k (omega arith) (omega (arith, g.cand.under))); seen = g.seen; short = g.short }

    pub scanned_longer : i < length old → get_or old i 0 ≡ get_or new k 0 → e - s < k + 1 → (k + 1 ≡ length new → ⊥)
        → Scanned old new (i + 1 - (k + 1)) (i + 1) (k + 1) (i + 1)
    scanned_longer h q l n =
        let b = hit g.cand q in
        record { top = omega arith; part = omega (arith, g.cand.under); best = b; seen = seen_longer g.seen b l; short = omega (arith, g.cand.under) }

    pub scanned_kept : i < length old → get_or old i 0 ≡ get_or new k 0 → k + 1 ≤ e - s → Scanned old new s e (k + 1) (i + 1)
    scanned_kept h q l =
        let b = hit g.cand q in
        record { top = omega arith; part = omega (arith, g.short); best = b; seen = seen_kept g.seen b l; short = g.short }

    pub scanned_miss : i < length old → (get_or old i 0 ≡ get_or new k 0 → ⊥) → k ≡ 0 → Scanned old new s e k (i + 1)
    scanned_miss h n z =
        let b = miss g.cand z n in
        record { top = omega arith; part = g.cand.under; best = b; seen = seen_kept g.seen b (omega arith); short = g.short }

    -- all of `new` was found
    pub scanned_whole : i < length old → get_or old i 0 ≡ get_or new k 0 → k + 1 ≡ length new
        → range (i + 1 - (k + 1)) (i + 1) ≡ overlap_of old new
    scanned_whole h q w =
        overlap_seen new old (i + 1 - (k + 1)) (i + 1)
        (seen_whole (length old) (seen_longer g.seen (hit g.cand q) (omega (arith, g.short))) (omega arith) (omega arith))

  -- all of `old` was gone through
  pub scanned_out : {s e k i : ℕ} → Scanned old new s e k i → length old ≤ i → range s e ≡ overlap_of old new
  scanned_out {s} {e} {k} {i} g h =
      overlap_seen new old s e (subst (λ (n : ℕ). Seen new old (length new) n s e) (omega (arith, g.top)) g.seen)

-- the loops' measure: a place more leaves less
pub nearer : {n i : ℕ} → i < n → n - (i + 1) < n - i
nearer h = omega arith
