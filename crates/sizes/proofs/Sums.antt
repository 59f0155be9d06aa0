-- Sums that stop at a cap: of the tokens of a run, and of what each record of a view adds.
-- The sum so far with what is left, capped, is the whole, capped. Assumes nothing.
use Prim.Native.Nat.{ℕ, ◌+◌, ◌-◌, ◌≤◌, ◌<◌, min, zero-le}
use mathlib.Core.Path.{◌≡◌, refl, sym, ◌∙◌}
use mathlib.Core.Bool.{true, false}
use mathlib.Core.List.{List, [], ◌∷◌}
use native.Mathlib.Omega.{arith}
use native.Mathlib.Nat.{sub-zero, zero-add}
use lib.Dec.{leb}
use borrow.Author.Tests.{eq-eqb, ne_eqb, lt-leb, leb-true}
use Rattle.room.specs.Choice.{pick}
use Rattle.records.specs.declared.Operation.{Operation}
use Rattle.records.specs.declared.Token.{Token}
use Rattle.records.specs.Each.{listed_from, listed}
use Rattle.records.specs.Tokens.{tokens_lent, token_at, tokens_from}
use Rattle.records.proofs.EachLaws.{listed_more, listed_none}
use Rattle.records.proofs.TokenLaws as T
use Rattle.sizes.specs.Texts.{total, in_text, run_text, run_lent, inserted_by, retained_by}
use Rattle.numbers.proofs.Orders.{leb_same}

abbrev pub cap : ℕ
cap = 1000000

-- one part more: y stands for the part x, as far as the cap tells
pub cap_on : (s x y s' rest whole : ℕ) → s' ≡ min cap (s + y) → min cap y ≡ min cap x → min cap (s + (x + rest)) ≡ min cap whole
    → min cap (s' + rest) ≡ min cap whole
cap_on s x y s' rest whole e f h = omega arith

pub cap_cap : (x y : ℕ) → y ≡ min cap x → min cap y ≡ min cap x
cap_cap x y e = omega arith

-- a test against what is below the cap is a test of the whole
pub cap_test : (x y l : ℕ) → y ≡ min cap x → l < cap → leb y l ≡ leb x l
cap_test x y l e h = leb_same y l x l (λ g. omega arith) (λ g. omega arith)

-- a range of tokens is lent or not

module _ (spans keys : List ℕ) (o : Operation) (lent : ℕ) (e : lent ≡ tokens_lent spans keys) where
  pub lent_less : lent < o.count → false ≡ run_lent spans keys o
  lent_less h = sym (lt-leb (o.first + o.count) (tokens_lent spans keys) (omega arith))

  pub lent_test : o.count ≤ lent → leb o.first (lent - o.count) ≡ run_lent spans keys o
  lent_test h = leb_same o.first (lent - o.count) (o.first + o.count) (tokens_lent spans keys) (λ g. omega arith) (λ g. omega arith)

-- the tokens of a run

pub record Adding (spans keys : List ℕ) (n first count end i sum : ℕ) : Type 0 where
  pub low : first ≤ i
  pub most : i ≤ end
  pub small : sum ≤ cap
  pub adds : min cap (sum + run_text n (tokens_from spans keys i (end - i))) ≡ min cap (run_text n (tokens_from spans keys first count))

module _ {spans keys : List ℕ} {n first count end i sum : ℕ} (h : Adding spans keys n first count end i sum) where
  rest_of : i < end → min cap
      (sum + (pick (in_text n (token_at spans keys i)) (token_at spans keys i).length 0 + run_text n (tokens_from spans keys (i + 1) (end - (i + 1)))))
      ≡ min cap (run_text n (tokens_from spans keys first count))
  unfolding run_text
  rest_of l = rw (T.from_more spans keys i end l) at h.adds

  pub adding_in : (t : Token) (s : ℕ) → i < end → t ≡ token_at spans keys i → in_text n t ≡ true → s ≡ min cap (sum + t.length)
      → Adding spans keys n first count end (i + 1) s
  adding_in t s l e b es =
      let g : in_text n (token_at spans keys i) ≡ true = rw e at b in
      record {
        low = omega (arith, h.low);
        most = omega arith;
        small = omega arith;
        adds =
            cap_on sum (token_at spans keys i).length t.length s (run_text n (tokens_from spans keys (i + 1) (end - (i + 1)))) _ es (rw e)
            (rw g at (rest_of l));
      }

  pub adding_out : (t : Token) → i < end → t ≡ token_at spans keys i → in_text n t ≡ false → Adding spans keys n first count end (i + 1) sum
  adding_out t l e b =
      let g : in_text n (token_at spans keys i) ≡ false = rw e at b in
      record { low = omega (arith, h.low); most = omega arith; small = h.small; adds = rw (g, zero-add) at (rest_of l) }

  pub adding_ends : end ≤ i → sum ≡ min cap (run_text n (tokens_from spans keys first count))
  unfolding run_text
  adding_ends l =
      let z : min cap (sum + 0) ≡ min cap (run_text n (tokens_from spans keys first count)) = rw (T.from_none spans keys i end l) at h.adds in
      omega (arith, h.small)

-- what one operation adds

module _ (n : ℕ) (spans keys : List ℕ) (o : Operation) where
  pub inserted_other : (o.kind ≡ 1 → ⊥) → 0 ≡ min cap (inserted_by n spans keys o)
  inserted_other h = rw (ne_eqb _ _ h, inserted_by)

  pub inserted_out : o.kind ≡ 1 → run_lent spans keys o ≡ false → 0 ≡ min cap (inserted_by n spans keys o)
  inserted_out h e = rw (eq-eqb _ _ h, e, inserted_by)

  pub inserted_run : (r : ℕ) → o.kind ≡ 1 → run_lent spans keys o ≡ true → r ≡ min cap (run_text n (tokens_from spans keys o.first o.count))
      → r ≡ min cap (inserted_by n spans keys o)
  inserted_run r h e f = rw (eq-eqb _ _ h, e, inserted_by) f

  -- what an operation adds to the text is retained or inserted

  pub text_insert : (r : ℕ) → o.kind ≡ 1 → r ≡ min cap (inserted_by n spans keys o) → min cap r ≡ min cap (retained_by o + inserted_by n spans keys o)
  text_insert r h e =
      let z : retained_by o ≡ 0 = rw (ne_eqb o.kind 2 (λ k. omega arith)) in
      omega arith

  pub text_part : (r : ℕ) → (o.kind ≡ 1 → ⊥) → r ≡ retained_by o → min cap r ≡ min cap (retained_by o + inserted_by n spans keys o)
  text_part r h e = omega (arith, inserted_other h)

pub lent_fits : (spans keys : List ℕ) (o : Operation) → run_lent spans keys o ≡ true → o.first + o.count ≤ tokens_lent spans keys
lent_fits spans keys o e = leb-true _ _ e

-- what stands at the places of a view

pub record Totals {A : Type 0} (f : A → ℕ) (g : ℕ → A) (count i sum : ℕ) : Type 0 where
  pub most : i ≤ count
  pub small : sum ≤ cap
  pub adds : min cap (sum + total f (listed_from g i (count - i))) ≡ min cap (total f (listed g count))

module _ {A : Type 0} {f : A → ℕ} {g : ℕ → A} {count : ℕ} where
  pub totals_begin : Totals f g count 0 0
  totals_begin = record { most = zero-le; small = zero-le; adds = rw (sub-zero, zero-add) }

  module _ {i sum : ℕ} (h : Totals f g count i sum) where
    pub totals_on : (x : A) (y s : ℕ) → i < count → x ≡ g i → min cap y ≡ min cap (f x) → s ≡ min cap (sum + y) → Totals f g count (i + 1) s
    unfolding total
    totals_on x y s l e ey es =
        record {
          most = omega arith;
          small = omega arith;
          adds = cap_on sum (f (g i)) y s (total f (listed_from g (i + 1) (count - (i + 1)))) _ es (ey ∙ rw e) (rw (listed_more g i count l) at h.adds);
        }

    pub totals_end : count ≤ i → sum ≡ min cap (total f (listed g count))
    unfolding total
    totals_end l =
        let z : min cap (sum + 0) ≡ min cap (total f (listed g count)) = rw (listed_none g i count l) at h.adds in
        omega (arith, h.small)

-- two sums over a list in one
pub total_both : (f g : Operation → ℕ) (os : List Operation) → total (λ o. f o + g o) os ≡ total f os + total g os
unfolding total
total_both f g [] = refl
total_both f g (o ∷ os) = omega (arith, total_both f g os)
