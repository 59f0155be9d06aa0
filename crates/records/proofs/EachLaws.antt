-- Iterating over the records of a view: what each turn of a `for` knows; and the list of them all. Assumes nothing.
use Prim.Native.Nat.{ℕ, zero, suc, ◌+◌, ◌-◌, ◌/◌, ◌<◌, ◌≤◌}
use mathlib.Core.Path.{◌≡◌, refl, ap, ◌∙◌}
use mathlib.Core.List.{List, [], ◌∷◌}
use native.Mathlib.Omega.{arith}
use lib.ListN.{length}
use Rattle.records.specs.declared.each.Each.{Each}
use Rattle.records.specs.declared.Operations.{Operations}
use Rattle.records.specs.declared.Cursors.{Cursors}
use Rattle.records.specs.declared.Tokens.{Tokens}
use Rattle.records.specs.Operations.{operation_at, operations_from, operations_of}
use Rattle.records.specs.Cursors.{cursor_at}
use Rattle.records.specs.Tokens.{token_at}
use Rattle.records.specs.Each.{places, Comes, Ends, listed_from, listed}

-- an iterator whose view gives at each place what g does, and which stops before `end`
pub record Reads {R A : Type 0} (f : R → ℕ → A) (g : ℕ → A) (end : ℕ) (s : Each R) : Type 0 where
  pub gives : (i : ℕ) → f s.records i ≡ g i
  pub stops : s.end ≡ end

module _ {R A : Type 0} {f : R → ℕ → A} {g : ℕ → A} {end : ℕ} {s t : Each R} (r : Reads f g end s) where
  -- the next record is there, is the one of its place, and what is left reads on
  pub comes_more : {x : A} → Comes f s t x → s.next < end
  comes_more c = rw r.stops at c.more

  pub comes_is : {x : A} → Comes f s t x → x ≡ g s.next
  comes_is c = c.is ∙ r.gives s.next

  pub comes_on : {x : A} → Comes f s t x → Reads f g end t
  comes_on c = record { gives = λ i. ap (λ q. f q i) c.over ∙ r.gives i; stops = c.stops ∙ r.stops }

  -- where none is left
  pub all_came : Ends f s t → end ≤ s.next
  all_came e = rw r.stops at e.reached

-- how it begins
pub reads_from : {R A : Type 0} (f : R → ℕ → A) (q : R) (first end : ℕ) {s : Each R} → s ≡ places q first end → Reads f (f q) end s
reads_from f q first end e = rw e record { gives = λ i. refl; stops = refl }

-- over operations, cursors and tokens
abbrev pub ReadsOperations : List ℕ → Each Operations → Type 0
ReadsOperations xs = Reads (λ o i. operation_at o.0.now i) (operation_at xs) (length xs / 6)

abbrev pub ReadsCursors : List ℕ → Each Cursors → Type 0
ReadsCursors xs = Reads (λ c i. cursor_at c.0.now i) (cursor_at xs) (length xs / 2)

abbrev pub ReadsTokens : List ℕ → List ℕ → ℕ → Each Tokens → Type 0
ReadsTokens spans keys = Reads (λ t i. token_at t.spans.now t.keys.now i) (token_at spans keys)

-- what stands at the places from i to n: one, and what stands from i + 1 on; or nothing
module _ {A : Type 0} (g : ℕ → A) (i n : ℕ) where
  pub listed_more : i < n → listed_from g i (n - i) ≡ g i ∷ listed_from g (i + 1) (n - (i + 1))
  unfolding listed_from
  listed_more h = let e : n - i ≡ suc (n - (i + 1)) = omega arith in rw e

  pub listed_none : n ≤ i → listed_from g i (n - i) ≡ []
  unfolding listed_from
  listed_none h = let e : n - i ≡ 0 = omega arith in rw e

-- the operations of a list are those at all its places
listed_operations_from : (xs : List ℕ) (i n : ℕ) → listed_from (operation_at xs) i n ≡ operations_from xs i n
unfolding listed_from operations_from
listed_operations_from xs i zero = refl
listed_operations_from xs i (suc n) = ap (λ os. operation_at xs i ∷ os) (listed_operations_from xs (i + 1) n)

pub listed_operations : (xs : List ℕ) → listed (operation_at xs) (length xs / 6) ≡ operations_of xs
unfolding operations_of
listed_operations xs = listed_operations_from xs 0 (length xs / 6)
