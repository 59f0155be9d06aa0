-- What arranging keeps: sums over the operations, and what holds of each; it does not look at their tokens.
-- By the first operation's kind. Assumes nothing.
use Prim.Native.Nat.{ℕ, ◌+◌}
use mathlib.Core.Path.{◌≡◌, refl, sym, ◌∙◌, ap}
use mathlib.Core.List.{List, [], ◌∷◌, ◌++◌}
use native.Mathlib.Omega.{arith}
use native.Mathlib.Nat.{zero-add}
use native.Mathlib.Decide.{ℕ_discrete}
use lib.ListN.{length}
use borrow.Author.Tests.{eq-eqb, ne_eqb}
use Rattle.raw_lists.specs.declared.Raw.{Raw}
use Rattle.raw_lists.specs.Raws.{Run, run_of, runs_of, pieces_from}
use Rattle.raw_lists.specs.Good.{AllGood, counts}
use Rattle.raw_lists.specs.Checks.{total}
use Rattle.elongate.specs.Elongated.{Parts, parts, together, arranged, pieces_length, all_tokens}
use Rattle.elongate.specs.Places.{kind_of}
use Rattle.elongate.proofs.Walks.{parts_retain, parts_delete, parts_insert}
use Rattle.elongate.proofs.Lengths.{pieces_append}

-- a statement of the first operation by its kind
pub by_kind : (kind : ℕ) (P : Type 0) → (kind ≡ 2 → P) → (kind ≡ 0 → P) → ((kind ≡ 2 → ⊥) → (kind ≡ 0 → ⊥) → P) → P
by_kind kind P f g h = elim (ℕ_discrete kind 2) [ yes a ↦ f a | no a ↦ elim (ℕ_discrete kind 0) [ yes b ↦ g b | no b ↦ h a b ] ]

total_append : (f : Raw → ℕ) (rs ss : List Raw) → total f (rs ++ ss) ≡ total f rs + total f ss
unfolding total
total_append f [] ss = sym (zero-add (total f ss))
total_append f (r ∷ rs) ss = omega (arith, total_append f rs ss)

three : (f : Raw → ℕ) (ds bs cs : List Raw) → total f (ds ++ (bs ++ cs)) ≡ total f ds + (total f bs + total f cs)
three f ds bs cs = total_append f ds (bs ++ cs) ∙ rw (total_append f bs cs)

pub total_arranged : (f : Raw → ℕ) (rs : List Raw) → total f (arranged kind_of rs) ≡ total f rs
unfolding parts total
total_arranged f [] = refl
total_arranged f (r ∷ rs) =
    let p : Parts Raw = parts kind_of rs in
    let e = total_arranged f rs in
    let t = three f p.deletes p.inserts p.rest in
    by_kind r.kind (total f (arranged kind_of (r ∷ rs)) ≡ f r + total f rs) (λ k. rw (parts_retain r rs k) (ap (λ (n : ℕ). f r + n) e))
    (λ k. rw (parts_delete r rs k) (ap (λ (n : ℕ). f r + n) e))
    (λ k j. rw (parts_insert r rs k j, three f p.deletes (r ∷ p.inserts) p.rest) (omega (arith, e, t)))

pub counts_total : (rs : List Raw) → counts rs ≡ total (λ r. r.count) rs
unfolding counts total
counts_total [] = refl
counts_total (r ∷ rs) = ap (λ (n : ℕ). r.count + n) (counts_total rs)

pub length_total : (rs : List Raw) → length rs ≡ total (λ r. 1) rs
unfolding total
length_total [] = refl
length_total (r ∷ rs) = omega (arith, length_total rs)

pub lengths_total : (spans keys joins : List ℕ) (rs : List Raw)
    → pieces_length (all_tokens (runs_of spans keys joins rs)) ≡ total (λ r. pieces_length (pieces_from spans keys joins r.first r.count)) rs
unfolding total all_tokens runs_of pieces_length
lengths_total spans keys joins [] = refl
lengths_total spans keys joins (r ∷ rs) =
    pieces_append (pieces_from spans keys joins r.first r.count) (all_tokens (runs_of spans keys joins rs))
    ∙ ap (λ (n : ℕ). pieces_length (pieces_from spans keys joins r.first r.count) + n) (lengths_total spans keys joins rs)

-- what holds of each operation

module _ (n : ℕ) (spans keys joins : List ℕ) where
  good_append : (rs ss : List Raw) → AllGood n spans keys joins rs → AllGood n spans keys joins ss → AllGood n spans keys joins (rs ++ ss)
  unfolding AllGood
  good_append [] ss g h = h
  good_append (r ∷ rs) ss g h = (g.0, good_append rs ss g.1 h)

  pub record GoodParts (p : Parts Raw) : Type 0 where
    pub deletes : AllGood n spans keys joins p.deletes
    pub inserts : AllGood n spans keys joins p.inserts
    pub rest : AllGood n spans keys joins p.rest

  good_together : (p : Parts Raw) → GoodParts p → AllGood n spans keys joins (together p)
  good_together p g = good_append p.deletes (p.inserts ++ p.rest) g.deletes (good_append p.inserts p.rest g.inserts g.rest)

  good_parts : (rs : List Raw) → AllGood n spans keys joins rs → GoodParts (parts kind_of rs)
  unfolding parts AllGood
  good_parts [] g = record { deletes = tt; inserts = tt; rest = tt }
  good_parts (r ∷ rs) g =
      let p = good_parts rs g.1 in
      by_kind r.kind (GoodParts (parts kind_of (r ∷ rs)))
      (λ k. rw (parts_retain r rs k) (record { deletes = tt; inserts = tt; rest = (g.0, good_together (parts kind_of rs) p) }))
      (λ k. rw (parts_delete r rs k) (record { deletes = (g.0, p.deletes); inserts = p.inserts; rest = p.rest }))
      (λ k j. rw (parts_insert r rs k j) (record { deletes = p.deletes; inserts = (g.0, p.inserts); rest = p.rest }))

  pub good_arranged : (rs : List Raw) → AllGood n spans keys joins rs → AllGood n spans keys joins (arranged kind_of rs)
  good_arranged rs g = good_together (parts kind_of rs) (good_parts rs g)

-- the runs of the arranged operations are the runs, arranged

module _ (spans keys joins : List ℕ) where
  runs_append : (rs ss : List Raw) → runs_of spans keys joins (rs ++ ss) ≡ runs_of spans keys joins rs ++ runs_of spans keys joins ss
  unfolding runs_of
  runs_append [] ss = refl
  runs_append (r ∷ rs) ss = ap (λ (q : List Run). run_of spans keys joins r ∷ q) (runs_append rs ss)

  runs_together : (ds bs cs : List Raw)
      → runs_of spans keys joins (ds ++ (bs ++ cs)) ≡ runs_of spans keys joins ds ++ (runs_of spans keys joins bs ++ runs_of spans keys joins cs)
  runs_together ds bs cs = runs_append ds (bs ++ cs) ∙ rw (runs_append bs cs)

  abbrev parts_runs : Parts Raw → Parts Run
  parts_runs p = record { deletes = runs_of spans keys joins p.deletes; inserts = runs_of spans keys joins p.inserts; rest = runs_of spans keys joins p.rest }

  runs_parts : (rs : List Raw) → parts (λ r. r.kind) (runs_of spans keys joins rs) ≡ parts_runs (parts kind_of rs)
  unfolding parts runs_of
  runs_parts [] = refl
  runs_parts (r ∷ rs) =
      let e = runs_parts rs in
      let p : Parts Raw = parts kind_of rs in
      by_kind r.kind (parts (λ q. q.kind) (runs_of spans keys joins (r ∷ rs)) ≡ parts_runs (parts kind_of (r ∷ rs)))
      (λ k. rw (parts_retain r rs k, eq-eqb r.kind 2 k, parts, e, runs_together p.deletes p.inserts p.rest))
      (λ k. rw (parts_delete r rs k, ne_eqb r.kind 2 (λ z. omega arith), eq-eqb r.kind 0 k, parts, e))
      (λ k j. rw (parts_insert r rs k j, ne_eqb r.kind 2 k, ne_eqb r.kind 0 j, parts, e))

  pub runs_arranged : (rs : List Raw) → runs_of spans keys joins (arranged kind_of rs) ≡ arranged (λ r. r.kind) (runs_of spans keys joins rs)
  runs_arranged rs =
      let p : Parts Raw = parts kind_of rs in
      runs_together p.deletes p.inserts p.rest ∙ sym (ap together (runs_parts rs))
