-- Shown: the records of a list of operations: read back they are those operations, and the checks accept their shapes and tiling.
-- How: by induction on the list, each operation by its kind.
use Prim.Native.Nat.{ℕ, suc, ◌+◌, ◌≤◌, ◌<◌}
use mathlib.Core.Path.{◌≡◌, refl, ap}
use mathlib.Core.Logic.{inl, inr}
use mathlib.Core.List.{List, [], ◌∷◌}
use native.Mathlib.Omega.{arith}
use native.Mathlib.Nat.{add-zero}
use lib.ListN.{length}
use Rattle.records.specs.declared.Operation.{Operation}
use Rattle.shapes.specs.Accepted.{Tiles, Shapes}
use Rattle.merging.specs.declared.Op.{Op}
use Rattle.merging.specs.declared.Op.TheVariants.{Delete, Insert, Retain}
use Rattle.merging.specs.Lent.{Lent}
use Rattle.merging.specs.Operations.{Out, ops_in, ops_from, record_of, records_of}
use Rattle.merging.specs.Tiling.{Tiled, Inserts, Sided}
use Rattle.merging.proofs.OneTurn.{tiled_le}
use Rattle.merging_laws.proofs.Decoding.{Run, Listed}

module _ (lent : Lent) where
  pub length_records : (xs : List Out) → length (records_of lent xs) ≡ length xs
  unfolding records_of
  length_records [] = refl
  length_records (x ∷ xs) = ap suc (length_records xs)

  -- a record more, that is read back
  back_first : (side : ℕ) (a : Op) (rs : List Operation) (ls : List Op) (at n : ℕ) → Tiled (a ∷ ls) at n
      → ((to : ℕ) → Tiled ls to n → ops_from to rs ≡ ls) → ops_from at (record_of lent side a ∷ rs) ≡ a ∷ ls
  unfolding ops_from
  back_first side (Delete o l) rs ls at n t ih = ap (λ (xs : List Op). Delete o l ∷ xs) (rw (← t.0) (ih (o + l) t.2))
  back_first side (Insert o f k) rs ls at n t ih = rw (add-zero at, ← t.0) (ap (λ (xs : List Op). Insert o f k ∷ xs) (rw t.0 (ih at t.2)))
  back_first side (Retain o l) rs ls at n t ih = ap (λ (xs : List Op). Retain o l ∷ xs) (rw (← t.0) (ih (o + l) t.2))

  pub read_back : (xs : List Out) (at n : ℕ) → Tiled (ops_in xs) at n → ops_from at (records_of lent xs) ≡ ops_in xs
  unfolding records_of ops_in
  read_back [] at n t = unfold ops_from in refl
  read_back (x ∷ xs) at n t = back_first x.side x.op (records_of lent xs) (ops_in xs) at n t (λ to u. read_back xs to n u)

  tiles_first : (side : ℕ) (a : Op) (rs : List Operation) (ls : List Op) (at n : ℕ) → Tiled (a ∷ ls) at n
      → ((to : ℕ) → Tiled ls to n → Tiles n rs to) → Tiles n (record_of lent side a ∷ rs) at
  unfolding Tiles
  tiles_first side (Delete o l) rs ls at n t ih =
      let h : o + l ≤ n = tiled_le ls (o + l) n t.2 in
      (t.0, (omega arith, rw (← t.0) (ih (o + l) t.2)))
  tiles_first side (Insert o f k) rs ls at n t ih = ih at t.2
  tiles_first side (Retain o l) rs ls at n t ih =
      let h : o + l ≤ n = tiled_le ls (o + l) n t.2 in
      (t.0, (omega arith, rw (← t.0) (ih (o + l) t.2)))

  pub tiles_records : (xs : List Out) (at n : ℕ) → Tiled (ops_in xs) at n → Tiles n (records_of lent xs) at
  unfolding records_of ops_in Tiles
  tiles_records [] at n t = t
  tiles_records (x ∷ xs) at n t = tiles_first x.side x.op (records_of lent xs) (ops_in xs) at n t (λ to u. tiles_records xs to n u)

  shapes_first : (side : ℕ) → side < 2 → (a : Op) (rs : List Operation) (ls : List Op) (at n : ℕ) → Tiled (a ∷ ls) at n → Inserts (Run lent) (a ∷ ls)
      → ((to : ℕ) → Tiled ls to n → Inserts (Run lent) ls → Shapes (length lent.inserted) lent.spans lent.keys rs)
      → Shapes (length lent.inserted) lent.spans lent.keys (record_of lent side a ∷ rs)
  unfolding Shapes Inserts
  shapes_first side two (Delete o l) rs ls at n t i ih = (two, (inr (record { kind = inl refl; some = t.1 }), ih (o + l) t.2 i))
  shapes_first side two (Insert o f k) rs ls at n t i ih =
      (two, (inl (record { kind = refl; some = i.0.some; lent = i.0.lends; tokens = i.0.tokens }), ih at t.2 i.1))
  shapes_first side two (Retain o l) rs ls at n t i ih = (two, (inr (record { kind = inr refl; some = t.1 }), ih (o + l) t.2 i))

  pub shapes_records : (xs : List Out) (at n : ℕ) → Tiled (ops_in xs) at n → Inserts (Run lent) (ops_in xs) → Sided xs
      → Shapes (length lent.inserted) lent.spans lent.keys (records_of lent xs)
  unfolding records_of ops_in Shapes Sided
  shapes_records [] at n t i s = tt
  shapes_records (x ∷ xs) at n t i s =
      shapes_first x.side s.0 x.op (records_of lent xs) (ops_in xs) at n t i (λ to u j. shapes_records xs to n u j s.1)

  -- operations that tile the original, with inserts that are lent and known sides, are a list that the checks accept
  pub listed : (xs : List Out) (n : ℕ) → Tiled (ops_in xs) 0 n → Inserts (Run lent) (ops_in xs) → Sided xs → Listed lent n (records_of lent xs) 0
  listed xs n t i s = record { shapes = shapes_records xs 0 n t i s; tiles = tiles_records xs 0 n t }
