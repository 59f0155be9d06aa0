-- An accepted list is ready for the order rule and stream priority: its inserts' tokens are lent, and what it consumes is a number.
-- By induction on the tokens of an insert, and on the operations of a list, which tile the original. Assumes nothing.
use Prim.Native.Nat.{ℕ, zero, suc, ◌+◌, ◌*◌, ◌≤◌, ◌<◌}
use mathlib.Core.Path.{◌≡◌, subst, ap}
use mathlib.Core.Logic.{⊎_elim}
use mathlib.Core.List.{List, [], ◌∷◌}
use native.Mathlib.Nat.{eq-or-lt_of_le}
use native.Mathlib.Omega.{arith}
use lib.ListN.{length, get_or}
use Rattle.records.specs.declared.Operation.{Operation}
use Rattle.records.specs.declared.Cursor.{Cursor}
use Rattle.records.specs.Tokens.{tokens_from}
use Rattle.sizes.specs.declared.Limits.{Limits}
use Rattle.shapes.specs.Accepted.{AllIn, AcceptedList}
use Rattle.merging.specs.declared.Op.{Op}
use Rattle.merging.specs.declared.Op.TheVariants.{Delete, Insert, Retain}
use Rattle.merging.specs.Lent.{Lent}
use Rattle.merging.specs.Operations.{ops_from}
use Rattle.merging.specs.Tiling.{Tiled, Inserts}
use Rattle.merging.proofs.OneTurn.{tiled_le}
use Rattle.merging_laws.proofs.Decoding.{Run as Lends, Listed, tiled, runs}
use Rattle.numbers.specs.Sizes.{most}
use Rattle.order.specs.Readable.{Run, Ready}

-- each token of a run that is all in the text is a range of it
inside : (n : ℕ) (spans keys : List ℕ) (k first : ℕ) → AllIn n (tokens_from spans keys first k)
    → (i : ℕ) → first ≤ i → i < first + k → get_or spans (i * 2) 0 + get_or spans (i * 2 + 1) 0 ≤ n
unfolding AllIn tokens_from
inside n spans keys zero first h i l u = absurd (omega arith)
inside n spans keys (suc k) first h i l u =
    ⊎_elim (λ (q : first ≡ i). subst (λ (j : ℕ). get_or spans (j * 2) 0 + get_or spans (j * 2 + 1) 0 ≤ n) q h.1.0)
    (λ (q : first < i). inside n spans keys k (first + 1) h.1.1 i (omega arith) (omega arith))
    (eq-or-lt_of_le l)

-- an insert that is lent is readable
pub readable : (lent : Lent) {first count : ℕ} → Lends lent first count → Run lent.inserted lent.spans lent.keys first count
readable lent {first} {count} h =
    record { lent = h.lends; inside = inside (length lent.inserted) lent.spans lent.keys count first h.tokens }

-- a list that tiles the original from `at` on and whose inserts are lent is ready
pub ready : (lent : Lent) (ls : List Op) (at n : ℕ) → n ≤ most → Tiled ls at n → Inserts (Lends lent) ls
    → Ready lent.inserted lent.spans lent.keys at ls
unfolding Inserts Ready
ready lent [] at n h t q = tt
ready lent (Delete o l ∷ ls) at n h t q =
    let e : o + l ≡ at + l = ap (λ (x : ℕ). x + l) t.0 in
    let u : Tiled ls (at + l) n = subst (λ (x : ℕ). Tiled ls x n) e t.2 in
    (tt, omega (arith, tiled_le ls (at + l) n u), ready lent ls (at + l) n h u q)
ready lent (Insert o f k ∷ ls) at n h t q =
    let u : Tiled ls (at + 0) n = subst (λ (x : ℕ). Tiled ls x n) (omega arith) t.2 in
    (readable lent q.0, omega (arith, tiled_le ls (at + 0) n u), ready lent ls (at + 0) n h u q.1)
ready lent (Retain o l ∷ ls) at n h t q =
    let e : o + l ≡ at + l = ap (λ (x : ℕ). x + l) t.0 in
    let u : Tiled ls (at + l) n = subst (λ (x : ℕ). Tiled ls x n) e t.2 in
    (tt, omega (arith, tiled_le ls (at + l) n u), ready lent ls (at + l) n h u q)

-- what stream priority asks, of a list that the checks accepted
pub accepted_ready : {l : Limits} {original text spans keys : List ℕ} {os : List Operation} {cs : List Cursor}
    → AcceptedList l original text spans keys os cs → Ready text spans keys 0 (ops_from 0 os)
accepted_ready {l} {original} {text} {spans} {keys} {os} g =
    let lent : Lent = record { original = original; inserted = text; spans = spans; keys = keys } in
    let h : Listed lent (length original) os 0 = record { shapes = g.shapes; tiles = g.tiles } in
    ready lent (ops_from 0 os) 0 (length original) (omega (arith, g.original_most)) (tiled lent (length original) os 0 h) (runs lent (length original) os 0 h)
