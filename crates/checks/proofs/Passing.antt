-- One pass over a list: the sums and the checks that it keeps, and the verdict that it gives where all is good.
-- The loop's invariant is that of each sum and each check together. Assumes nothing.
use Prim.Native.Nat.{ℕ, ◌+◌, ◌-◌, ◌/◌, ◌≤◌, ◌<◌, min, zero-le}
use mathlib.Core.Path.{◌≡◌, refl, sym, ◌∙◌}
use mathlib.Core.Bool.{true, false}
use mathlib.Core.List.{List}
use native.Mathlib.Omega.{arith}
use native.Mathlib.Decide.{ℕ_discrete}
use lib.ListN.{length}
use lib.Dec.{leb}
use borrow.Author.Tests.{eq-eqb, ne_eqb, le-leb, leb-true, lt-ltb}
use Rattle.records.specs.declared.Operation.{Operation}
use Rattle.records.specs.declared.Token.{Token}
use Rattle.records.specs.declared.Cursor.{Cursor}
use Rattle.records.specs.Operations.{operation_at, operations_of}
use Rattle.records.specs.Tokens.{token_at, tokens_from}
use Rattle.records.specs.Cursors.{cursors_of}
use Rattle.records.proofs.OperationLaws as O
use Rattle.records.proofs.EachLaws.{listed_operations}
use Rattle.records.proofs.CursorLaws as C
use Rattle.refusal.specs.declared.Refusal.TheVariants.{Size}
use Rattle.sizes.specs.declared.Limits.{Limits}
use Rattle.checks.specs.declared.Pass.{Pass}
use Rattle.verdict.specs.Verdicts.{and_then, Verdict, accepted}
use Rattle.verdict.specs.Points.{points_verdict}
use Rattle.sizes.specs.Texts.{total, in_text, run_lent, claimed_by, inserted_by, retained_by}
use Rattle.sizes.specs.Sizes.{Small, lent_fits}
use Rattle.shapes.specs.Tiling.{within_from}
use Rattle.checks.specs.Lists.{list_verdict, lists_verdict}
use Rattle.checks.specs.Passing.{Whole, Inserts, Summed, Good}
use Rattle.room.proofs.Bools.{and_left, first_no}
use Rattle.verdict.proofs.Chains.{too_big}
use Rattle.sizes.proofs.Sums.{cap, cap_cap, Adding, adding_in, adding_ends, inserted_other, inserted_run, Totals, totals_begin, totals_on, totals_end}
use Rattle.shapes.proofs.Shapely.{Looking, looks_on, looks_end, run_is, record_insert, record_part, Recording, records_begin, records_on, records_end}
use Rattle.shapes.proofs.Tiled.{Tiled, tiled_begin, tiled_insert, tiled_on, tiled_end}
use Rattle.std.specs.Prelude.{Ok, Err}

-- a run: its tokens are good so far, and their text is summed up
pub record Running (spans keys : List ℕ) (n first count end i sum : ℕ) : Type 0 where
  pub looks : Looking spans keys n first count end i
  pub adds : Adding spans keys n first count end i sum

module _ {spans keys : List ℕ} {n first count end i sum : ℕ} (h : Running spans keys n first count end i sum) where
  pub run_on : (t : Token) (s : ℕ) → i < end → t ≡ token_at spans keys i → (t.length ≡ 0 → ⊥) → in_text n t ≡ true → s ≡ min cap (sum + t.length)
      → Running spans keys n first count end (i + 1) s
  run_on t s l e z b es = record { looks = looks_on h.looks t l e z b; adds = adding_in h.adds t s l e b es }

  pub run_ends : end ≤ i → Whole n (tokens_from spans keys first count) sum
  run_ends l = record { good = sym (looks_end h.looks l); text = adding_ends h.adds l }

pub whole_insert : (n : ℕ) (spans keys : List ℕ) (o : Operation) (r : ℕ) → o.kind ≡ 1 → (o.count ≡ 0 → ⊥) → run_lent spans keys o ≡ true
    → Whole n (tokens_from spans keys o.first o.count) r → Inserts n spans keys o r
whole_insert n spans keys o r k z l w =
    record { good = sym (run_is n spans keys o true z l (sym w.good)); text = inserted_run n spans keys o r k l w.text }

pub record Passing (l : Limits) (n m : ℕ) (spans keys xs : List ℕ) (i at tokens inserted retained : ℕ) : Type 0 where
  pub few : tokens ≤ l.tokens
  pub short : inserted ≤ l.text
  pub kept : retained ≤ at
  pub claims : Totals claimed_by (operation_at xs) (length xs / 6) i tokens
  pub adds : Totals (inserted_by m spans keys) (operation_at xs) (length xs / 6) i inserted
  pub keeps : Totals retained_by (operation_at xs) (length xs / 6) i retained
  pub records : Recording m spans keys xs (length xs / 6) i
  pub tiles : Tiled n xs (length xs / 6) i at

pub passing_begins : (l : Limits) (n m : ℕ) (spans keys xs : List ℕ) → Passing l n m spans keys xs 0 0 0 0 0
passing_begins l n m spans keys xs =
    record {
      few = zero-le;
      short = zero-le;
      kept = zero-le;
      claims = totals_begin;
      adds = totals_begin;
      keeps = totals_begin;
      records = records_begin m spans keys xs (length xs / 6) refl;
      tiles = tiled_begin n xs (length xs / 6) refl;
    }

pub retains_most : (o : Operation) → retained_by o ≤ o.length
retains_most o = go (ℕ_discrete o.kind 2)
  where
    go : Dec (o.kind ≡ 2) → retained_by o ≤ o.length
    go (yes e) = rw (eq-eqb o.kind 2 e) (omega arith)
    go (no e) = rw (ne_eqb o.kind 2 e) zero-le

module _ {l : Limits} {n m : ℕ} {spans keys xs : List ℕ} {i at tokens inserted retained : ℕ}
    (h : Passing l n m spans keys xs i at tokens inserted retained) where
  module _ (small : Small l) (o : Operation) (j : i < length xs / 6) (e : o ≡ operation_at xs i) (side : o.side ≤ 1) where
    pub passes_insert : (r : ℕ) → o.kind ≡ 1 → o.count ≤ l.tokens - tokens → Inserts m spans keys o r → r ≤ l.text - inserted
        → Passing l n m spans keys xs (i + 1) at (tokens + o.count) (inserted + r) retained
    passes_insert r k c g d =
        let none : retained_by o ≡ 0 = rw (ne_eqb o.kind 2 (λ z. omega arith)) in
        record {
          few = omega (arith, h.few);
          short = omega (arith, h.short);
          kept = h.kept;
          claims = totals_on h.claims o o.count (tokens + o.count) j e (rw (eq-eqb o.kind 1 k)) (omega (arith, h.few, small.tokens));
          adds =
              totals_on h.adds o r (inserted + r) j e (cap_cap (inserted_by m spans keys o) r g.text)
              (omega (arith, h.short, small.text));
          keeps = totals_on h.keeps o 0 retained j e (omega arith) (omega (arith, h.keeps.small));
          records = records_on h.records o j e (sym (record_insert m spans keys o side true k (sym g.good)));
          tiles = tiled_insert h.tiles o j e k;
        }

    pub passes_part : (z : ℕ) → n ≤ 65535 → (o.kind ≡ 1 → ⊥) → o.kind ≤ 2 → (o.length ≡ 0 → ⊥) → o.order ≡ at → o.length ≤ n - at → z ≡ retained_by o
        → Passing l n m spans keys xs (i + 1) (at + o.length) tokens inserted (retained + z)
    passes_part z few k u some q g ez =
        let none : claimed_by o ≡ 0 = rw (ne_eqb o.kind 1 k) in
        record {
          few = h.few;
          short = h.short;
          kept = omega (arith, h.kept, retains_most o);
          claims = totals_on h.claims o 0 tokens j e (omega arith) (omega (arith, h.claims.small));
          adds = totals_on h.adds o 0 inserted j e (omega (arith, inserted_other m spans keys o k)) (omega (arith, h.adds.small));
          keeps = totals_on h.keeps o z (retained + z) j e (rw ez) (omega (arith, h.kept, h.tiles.inside, retains_most o));
          records = records_on h.records o j e (sym (record_part m spans keys o side k u) ∙ lt-ltb 0 o.length (omega arith));
          tiles = tiled_on h.tiles o j e k q g;
        }

  -- the sum over the places of the list is that over its operations
  whole : (f : Operation → ℕ) (sum : ℕ) → Totals f (operation_at xs) (length xs / 6) i sum → length xs / 6 ≤ i → sum ≡ min cap (total f (operations_of xs))
  whole f sum t j = rw (listed_operations xs) at (totals_end t j)

  pub passed : Small l → n ≤ 65535 → length xs / 6 ≤ i → at ≡ n
      → Summed l n m spans keys (operations_of xs) (record { tokens = tokens; inserted = inserted; retained = retained })
  passed small few j q =
      let claims = whole _ _ h.claims j in
      let adds = whole _ _ h.adds j in
      record {
        tokens = omega (arith, claims, h.few, small.tokens);
        text = omega (arith, adds, h.short, small.text);
        claimed = omega (arith, claims, h.few, small.tokens);
        inserted = omega (arith, adds, h.short, small.text);
        retained = omega (arith, whole _ _ h.keeps j, h.kept);
        few = omega (arith, h.kept);
        records = records_end h.records j;
        tiles = tiled_end h.tiles j q;
      }

-- the sizes and the cursors, behind a pass
pub good_list : (l : Limits) (n m : ℕ) (spans keys xs ys : List ℕ) (p : Pass) (v : Verdict) → Small l → n ≤ 65535 → length xs / 6 ≤ l.operations → length ys / 2 ≤ l.cursors
    → Summed l n m spans keys (operations_of xs) p → v ≡ within_from (p.retained + p.inserted) (cursors_of ys) 0 → v ≡ accepted
    → Good l n m spans keys (operations_of xs) (cursors_of ys) p
good_list l n m spans keys xs ys p v s k a b h e f =
    record {
      fits =
          rw (
            le-leb (length (operations_of xs)) l.operations (omega (arith, O.length_of_lem xs)),
            le-leb (length (cursors_of ys)) l.cursors (omega (arith, C.length_of_lem ys)),
            le-leb (total claimed_by (operations_of xs)) l.tokens h.tokens,
            le-leb (total (inserted_by m spans keys) (operations_of xs)) l.text h.text,
          );
      records = sym h.records;
      tiles = sym h.tiles;
      within = rw (h.retained, h.inserted) at (sym e ∙ f);
      claimed = h.claimed;
      inserted = h.inserted;
      text = rw (h.retained, h.inserted);
      small = omega (arith, h.few, h.inserted, h.text, s.text);
    }

pub lent_few : (original text : List ℕ) → lent_fits original text ≡ true → length original ≤ 65535
lent_few original text h = leb-true (length original) 65535 (and_left (leb (length original) 65535) (leb (length text) 131070) h)

pub no_size : (l : Limits) (original text spans keys : List ℕ) (os : List Operation) (cs : List Cursor) → lent_fits original text ≡ false
    → list_verdict l original text spans keys os cs ≡ Err Size
unfolding list_verdict
no_size l original text spans keys os cs e = sym (too_big _ _ (first_no _ _ e))

pub no_sizes : (l : Limits) (original text spans keys : List ℕ) (left right : List Operation) (cs ds : List Cursor) → lent_fits original text ≡ false
    → lists_verdict l original text spans keys left right cs ds ≡ Err Size
unfolding lists_verdict
no_sizes l original text spans keys left right cs ds e = sym (too_big _ _ (first_no _ _ e))

then_none : (v : Verdict) → v ≡ and_then v accepted
then_none (Ok u) = refl
then_none (Err r) = refl

pub good_alone : (l : Limits) (original text spans keys : List ℕ) (os : List Operation) (cs : List Cursor) (p : Pass) → lent_fits original text ≡ true
    → Good l (length original) (length text) spans keys os cs p → points_verdict original text ≡ list_verdict l original text spans keys os cs
unfolding list_verdict
good_alone l original text spans keys os cs p f g =
    rw (f, g.fits, g.records, g.tiles, g.within) (then_none (points_verdict original text))

pub good_lists : (l : Limits) (original text spans keys : List ℕ) (left right : List Operation) (cs ds : List Cursor) (p q : Pass) → lent_fits original text ≡ true
    → Good l (length original) (length text) spans keys left cs p → Good l (length original) (length text) spans keys right ds q
    → points_verdict original text ≡ lists_verdict l original text spans keys left right cs ds
unfolding lists_verdict
good_lists l original text spans keys left right cs ds p q f g h =
    rw (f, g.fits, h.fits, g.records, h.records, g.tiles, h.tiles, g.within, h.within) (then_none (points_verdict original text))
