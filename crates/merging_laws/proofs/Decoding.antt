-- Shown: the operations that an accepted list's records are: they tile the original, their inserts lie in what was lent, and their tokens, text and lengths are those that the checks count.
-- How: by induction on the list, each record by its kind.
use Prim.Native.Nat.{ℕ, zero, suc, ◌+◌, ◌*◌, ◌≤◌, ◌<◌}
use mathlib.Core.Path.{◌≡◌, refl, ◌∙◌, ap}
use mathlib.Core.Logic.{⊎_elim}
use mathlib.Core.List.{List, [], ◌∷◌, ◌++◌}
use native.Mathlib.Omega.{arith}
use native.Mathlib.Nat.{add-zero}
use lib.ListN.{length, take, drop, get_or}
use borrow.Author.Tests.{eq-eqb, ne_eqb, le-leb}
use Rattle.records.specs.declared.Operation.{Operation}
use Rattle.records.specs.Tokens.{tokens_lent, tokens_from, tokens_length}
use Rattle.sizes.specs.Texts.{total, claimed_by, inserted_by, retained_by, text_length, text_from}
use Rattle.shapes.proofs.Accepted.{run_length}
use Rattle.shapes.specs.Accepted.{Tiles, AllIn, Insert as Adds, Part, Shapes}
use Rattle.merging.specs.declared.Op.{Op}
use Rattle.merging.specs.declared.Op.TheVariants.{Delete, Insert, Retain}
use Rattle.merging.specs.Lent.{Lent, lengths_of, sum, spelling_of}
use Rattle.merging.specs.Operations.{length_of, ops_from}
use Rattle.merging.specs.Outputs.{text_of}
use Rattle.merging.specs.Tiling.{Tiled, total_of, of_insert, Inserts}
use Rattle.merging.proofs.Decoded.{first_insert, first_delete, first_retain}

-- "insert [..] with no tokens; token or range outside what was lent": count tokens from first on are not so
pub record Run (lent : Lent) (first count : ℕ) : Type 0 where
  pub some : 0 < count
  pub lends : first + count ≤ tokens_lent lent.spans lent.keys
  pub tokens : AllIn (length lent.inserted) (tokens_from lent.spans lent.keys first count)

-- "retained original"
abbrev of_retain : Op → ℕ
of_retain (Delete o l) = 0
of_retain (Insert o f k) = 0
of_retain (Retain o l) = l

-- a list, by its first record
module _ (at : ℕ) (o : Operation) (os : List Operation) where
  ops_insert : o.kind ≡ 1 → ops_from at (o ∷ os) ≡ Insert at o.first o.count ∷ ops_from at os
  ops_insert k = first_insert at o os k ∙ ap (λ (x : ℕ). Insert at o.first o.count ∷ ops_from x os) (add-zero at)

  ops_retain : o.kind ≡ 2 → ops_from at (o ∷ os) ≡ Retain o.order o.length ∷ ops_from (at + o.length) os
  ops_retain k = first_retain at o os (λ e. omega arith) (λ e. omega arith)

pub length_ops : (os : List Operation) (at : ℕ) → length (ops_from at os) ≡ length os
unfolding ops_from
length_ops [] at = refl
length_ops (o ∷ os) at = ap suc (length_ops os _)

-- what an accepted list's first record is, with `at` of an original of n code points consumed before it
data First (lent : Lent) (n : ℕ) (o : Operation) (os : List Operation) (at : ℕ) : Type 0 where
  adds : o.kind ≡ 1 → Run lent o.first o.count → Tiles n os at → First lent n o os at
  drops : o.kind ≡ 0 → 0 < o.length → o.order ≡ at → Tiles n os (at + o.length) → First lent n o os at
  keeps : o.kind ≡ 2 → 0 < o.length → o.order ≡ at → Tiles n os (at + o.length) → First lent n o os at

-- a list that the checks accept, of what is lent
pub record Listed (lent : Lent) (n : ℕ) (os : List Operation) (at : ℕ) : Type 0 where
  pub shapes : Shapes (length lent.inserted) lent.spans lent.keys os
  pub tiles : Tiles n os at

module _ (n : ℕ) (o : Operation) (os : List Operation) (at : ℕ) where
  pub tiles_insert : o.kind ≡ 1 → Tiles n (o ∷ os) at → Tiles n os at
  unfolding Tiles
  tiles_insert k t = rw (eq-eqb o.kind 1 k, Tiles) at t

  pub tiles_part : (o.kind ≡ 1 → ⊥) → Tiles n (o ∷ os) at → (o.order ≡ at) × ((at + o.length ≤ n) × Tiles n os (at + o.length))
  unfolding Tiles
  tiles_part k t = rw (ne_eqb o.kind 1 k, Tiles) at t

module _ (lent : Lent) (n : ℕ) (o : Operation) (os : List Operation) (at : ℕ) where
  rest_shapes : Listed lent n (o ∷ os) at → Shapes (length lent.inserted) lent.spans lent.keys os
  unfolding Shapes
  rest_shapes h = h.shapes.1.1

  first_of_lem : Listed lent n (o ∷ os) at → First lent n o os at
  unfolding Shapes
  first_of_lem h =
      ⊎_elim
      (λ (a : Adds (length lent.inserted) lent.spans lent.keys o).
      adds a.kind (record { some = a.some; lends = a.lent; tokens = a.tokens }) (tiles_insert n o os at a.kind h.tiles))
      (λ (p : Part o).
      ⊎_elim
      (λ (k : o.kind ≡ 0). let t = tiles_part n o os at (λ e. omega arith) h.tiles in drops k p.some t.0 t.1.1)
      (λ (k : o.kind ≡ 2). let t = tiles_part n o os at (λ e. omega arith) h.tiles in keeps k p.some t.0 t.1.1)
      p.kind)
      h.shapes.1.0

module _ (lent : Lent) (n : ℕ) where
  -- what is left of an accepted list
  rest_of : (o : Operation) (os : List Operation) (at to : ℕ) → Listed lent n (o ∷ os) at → Tiles n os to → Listed lent n os to
  rest_of o os at to h t = record { shapes = rest_shapes lent n o os at h; tiles = t }

  none_left : (at : ℕ) → Listed lent n [] at → at ≡ n
  unfolding Tiles
  none_left at h = h.tiles

  -- the operations tile the original
  tiled_first : (o : Operation) (os : List Operation) (at : ℕ) → First lent n o os at
      → ((to : ℕ) → Tiles n os to → Tiled (ops_from to os) to n) → Tiled (ops_from at (o ∷ os)) at n
  tiled_first o os at (adds k r t) ih = rw (ops_insert at o os k) (refl, r.some, ih at t)
  tiled_first o os at (drops k p e t) ih = rw (first_delete at o os k, e) (refl, p, ih (at + o.length) t)
  tiled_first o os at (keeps k p e t) ih = rw (ops_retain at o os k, e) (refl, p, ih (at + o.length) t)

  pub tiled : (os : List Operation) (at : ℕ) → Listed lent n os at → Tiled (ops_from at os) at n
  unfolding ops_from
  tiled [] at h = none_left at h
  tiled (o ∷ os) at h = tiled_first o os at (first_of_lem lent n o os at h) (λ to t. tiled os to (rest_of o os at to h t))

  -- their inserts are lent
  runs_first : (o : Operation) (os : List Operation) (at : ℕ) → First lent n o os at
      → ((to : ℕ) → Tiles n os to → Inserts (Run lent) (ops_from to os)) → Inserts (Run lent) (ops_from at (o ∷ os))
  unfolding Inserts
  runs_first o os at (adds k r t) ih = rw (ops_insert at o os k) (r, ih at t)
  runs_first o os at (drops k p e t) ih = rw (first_delete at o os k) (ih (at + o.length) t)
  runs_first o os at (keeps k p e t) ih = rw (ops_retain at o os k) (ih (at + o.length) t)

  pub runs : (os : List Operation) (at : ℕ) → Listed lent n os at → Inserts (Run lent) (ops_from at os)
  unfolding ops_from Inserts
  runs [] at h = tt
  runs (o ∷ os) at h = runs_first o os at (first_of_lem lent n o os at h) (λ to t. runs os to (rest_of o os at to h t))

  -- what the checks count: w of an operation is v of its record
  module _ (v : Operation → ℕ) (w : Op → ℕ)
      (ofAdds : (at : ℕ) (o : Operation) → o.kind ≡ 1 → Run lent o.first o.count → v o ≡ w (Insert at o.first o.count))
      (ofDrops : (o : Operation) → o.kind ≡ 0 → v o ≡ w (Delete o.order o.length))
      (ofKeeps : (o : Operation) → o.kind ≡ 2 → v o ≡ w (Retain o.order o.length))
    where
      total_first : (o : Operation) (os : List Operation) (at : ℕ) → First lent n o os at
          → ((to : ℕ) → Tiles n os to → total v os ≡ total_of w (ops_from to os)) → total v (o ∷ os) ≡ total_of w (ops_from at (o ∷ os))
      unfolding total total_of
      total_first o os at (adds k r t) ih = rw (ops_insert at o os k) (omega (arith, ofAdds at o k r, ih at t))
      total_first o os at (drops k p e t) ih = rw (first_delete at o os k) (omega (arith, ofDrops o k, ih (at + o.length) t))
      total_first o os at (keeps k p e t) ih = rw (ops_retain at o os k) (omega (arith, ofKeeps o k, ih (at + o.length) t))

      totals : (os : List Operation) (at : ℕ) → Listed lent n os at → total v os ≡ total_of w (ops_from at os)
      unfolding ops_from total total_of
      totals [] at h = refl
      totals (o ∷ os) at h = total_first o os at (first_of_lem lent n o os at h) (λ to t. totals os to (rest_of o os at to h t))

  -- "insert tokens": counted as claimed
  pub tokens_total : (os : List Operation) (at : ℕ) → Listed lent n os at → total claimed_by os ≡ total_of (of_insert (λ f k. k)) (ops_from at os)
  tokens_total =
      totals claimed_by (of_insert (λ f k. k)) (λ at o k r. rw (eq-eqb o.kind 1 k)) (λ o k. rw (ne_eqb o.kind 1 (λ e. omega arith)))
      (λ o k. rw (ne_eqb o.kind 1 (λ e. omega arith)))

-- the text of tokens that are lent is the sum of their lengths
pub lengths_total : (lent : Lent) (i k : ℕ) → tokens_length (tokens_from lent.spans lent.keys i k) ≡ sum (lengths_of lent i k)
unfolding tokens_from tokens_length lengths_of sum
lengths_total lent i zero = refl
lengths_total lent i (suc k) = ap (λ (x : ℕ). get_or lent.spans (i * 2 + 1) 0 + x) (lengths_total lent (i + 1) k)

module _ (lent : Lent) (n : ℕ) where
  inserted_run : (o : Operation) → o.kind ≡ 1 → Run lent o.first o.count
      → inserted_by (length lent.inserted) lent.spans lent.keys o ≡ sum (lengths_of lent o.first o.count)
  inserted_run o k r =
      rw (eq-eqb o.kind 1 k, le-leb (o.first + o.count) (tokens_lent lent.spans lent.keys) r.lends, inserted_by)
      (run_length (length lent.inserted) (tokens_from lent.spans lent.keys o.first o.count) r.tokens ∙ lengths_total lent o.first o.count)

  inserted_none : (o : Operation) → (o.kind ≡ 1 → ⊥) → inserted_by (length lent.inserted) lent.spans lent.keys o ≡ 0
  inserted_none o k = rw (ne_eqb o.kind 1 k, inserted_by)

  -- "inserted text": "the sum of its tokens' lengths"
  pub inserted_total : (os : List Operation) (at : ℕ) → Listed lent n os at
      → total (inserted_by (length lent.inserted) lent.spans lent.keys) os ≡ total_of (of_insert (λ f k. sum (lengths_of lent f k))) (ops_from at os)
  inserted_total =
      totals lent n (inserted_by (length lent.inserted) lent.spans lent.keys) (of_insert (λ f k. sum (lengths_of lent f k))) (λ at o k r. inserted_run o k r)
      (λ o k. inserted_none o (λ e. omega arith)) (λ o k. inserted_none o (λ e. omega arith))

  retained_total : (os : List Operation) (at : ℕ) → Listed lent n os at → total retained_by os ≡ total_of of_retain (ops_from at os)
  retained_total =
      totals lent n retained_by of_retain (λ at o k r. rw (ne_eqb o.kind 2 (λ e. omega arith))) (λ o k. rw (ne_eqb o.kind 2 (λ e. omega arith)))
      (λ o k. rw (eq-eqb o.kind 2 k))

  length_parts : (ls : List Op) → total_of of_retain ls + total_of (of_insert (λ f k. sum (lengths_of lent f k))) ls ≡ total_of (length_of lent) ls
  unfolding total_of
  length_parts [] = refl
  length_parts (Delete o l ∷ ls) = omega (arith, length_parts ls)
  length_parts (Insert o f k ∷ ls) = omega (arith, length_parts ls)
  length_parts (Retain o l ∷ ls) = omega (arith, length_parts ls)

  -- "A list's text": its length
  pub length_total : (os : List Operation) (at : ℕ) → Listed lent n os at
      → text_length (length lent.inserted) lent.spans lent.keys os ≡ total_of (length_of lent) (ops_from at os)
  length_total os at h = rw (retained_total os at h, inserted_total os at h) (length_parts (ops_from at os))

  -- "A list's text: retained original and insert tokens' spelling, in list order."
  text_first : (o : Operation) (os : List Operation) (at : ℕ) → First lent n o os at
      → ((to : ℕ) → Tiles n os to → text_from lent.original lent.inserted lent.spans lent.keys os to ≡ text_of lent (ops_from to os))
      → text_from lent.original lent.inserted lent.spans lent.keys (o ∷ os) at ≡ text_of lent (ops_from at (o ∷ os))
  unfolding text_of text_from
  text_first o os at (adds k r t) ih =
      rw (ops_insert at o os k, eq-eqb o.kind 1 k, text_from) (ap (λ (s : List ℕ). spelling_of lent o.first o.count ++ s) (ih at t))
  text_first o os at (drops k p e t) ih =
      rw (first_delete at o os k, ne_eqb o.kind 1 (λ z. omega arith), ne_eqb o.kind 2 (λ z. omega arith), text_from) (ih (at + o.length) t)
  text_first o os at (keeps k p e t) ih =
      rw (ops_retain at o os k, e, ne_eqb o.kind 1 (λ z. omega arith), eq-eqb o.kind 2 k, text_from)
      (ap (λ (s : List ℕ). take o.length (drop at lent.original) ++ s) (ih (at + o.length) t))

  pub text_of_lem : (os : List Operation) (at : ℕ) → Listed lent n os at
      → text_from lent.original lent.inserted lent.spans lent.keys os at ≡ text_of lent (ops_from at os)
  unfolding ops_from text_of text_from
  text_of_lem [] at h = refl
  text_of_lem (o ∷ os) at h = text_first o os at (first_of_lem lent n o os at h) (λ to t. text_of_lem os to (rest_of lent n o os at to h t))
