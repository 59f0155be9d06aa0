-- Refusal 3: the four tests of a list's sizes, each after those before it passed; what a list that passed them keeps.
-- Counts are lengths, and a capped sum tells what passes a limit below the cap. Assumes nothing.
use Prim.Native.Nat.{ℕ, ◌/◌, ◌≤◌, ◌<◌, min}
use mathlib.Core.Path.{◌≡◌}
use mathlib.Core.Bool.{Bool, true, false, ◌&&◌}
use mathlib.Core.List.{List}
use native.Mathlib.Omega.{arith}
use lib.ListN.{length}
use lib.Dec.{leb}
use borrow.Author.Tests.{le-leb, lt-leb, leb-true}
use Rattle.records.specs.declared.Operation.{Operation}
use Rattle.records.specs.declared.Cursor.{Cursor}
use Rattle.records.specs.Operations.{operations_of}
use Rattle.records.specs.Cursors.{cursors_of}
use Rattle.records.proofs.OperationLaws as O
use Rattle.records.proofs.CursorLaws as C
use Rattle.sizes.specs.declared.Limits.{Limits}
use Rattle.sizes.specs.Texts.{total, claimed_by, inserted_by}
use Rattle.sizes.specs.Sizes.{Small, merging, otherwise, lent_fits, list_fits}
use Rattle.room.proofs.Bools.{and_left, and_right}
use Rattle.sizes.proofs.Sums.{cap, cap_test}

-- both settings are below the cap

pub merging_small : {l : Limits} → l ≡ merging → Small l
merging_small e = rw e (record { tokens = omega arith; text = omega arith })

pub other_small : {l : Limits} → l ≡ otherwise → Small l
other_small e = rw e (record { tokens = omega arith; text = omega arith })

-- the tests

module _ (l : Limits) (n : ℕ) (spans keys xs ys : List ℕ) where
  pub fits_operations : l.operations < length xs / 6 → false ≡ list_fits l n spans keys (operations_of xs) (cursors_of ys)
  fits_operations h = rw (lt-leb (length (operations_of xs)) l.operations (omega (arith, O.length_of_lem xs)))

  module _ (a : length xs / 6 ≤ l.operations) where
    few : leb (length (operations_of xs)) l.operations ≡ true
    few = le-leb (length (operations_of xs)) l.operations (omega (arith, O.length_of_lem xs))

    pub fits_cursors : l.cursors < length ys / 2 → false ≡ list_fits l n spans keys (operations_of xs) (cursors_of ys)
    fits_cursors h = rw (few, lt-leb (length (cursors_of ys)) l.cursors (omega (arith, C.length_of_lem ys)))

    module _ (b : length ys / 2 ≤ l.cursors) (t : ℕ) (et : t ≡ min cap (total claimed_by (operations_of xs))) where
      marks : leb (length (cursors_of ys)) l.cursors ≡ true
      marks = le-leb (length (cursors_of ys)) l.cursors (omega (arith, C.length_of_lem ys))

      pub fits_tokens : Small l → l.tokens < t → false ≡ list_fits l n spans keys (operations_of xs) (cursors_of ys)
      fits_tokens s h = rw (few, marks, ← cap_test (total claimed_by (operations_of xs)) t l.tokens et (omega (arith, s.tokens)), lt-leb t l.tokens h)

      pub fits_text : Small l → t ≤ l.tokens → (u : ℕ) → u ≡ min cap (total (inserted_by n spans keys) (operations_of xs))
          → leb u l.text ≡ list_fits l n spans keys (operations_of xs) (cursors_of ys)
      fits_text s h u eu =
          rw (few, marks, ← cap_test (total claimed_by (operations_of xs)) t l.tokens et (omega (arith, s.tokens)), le-leb t l.tokens h)
          (cap_test (total (inserted_by n spans keys) (operations_of xs)) u l.text eu (omega (arith, s.text)))

-- what the tests say

le_and : (a b : ℕ) (t : Bool) → leb a b && t ≡ true → (a ≤ b) × (t ≡ true)
le_and a b t h = (leb-true a b (and_left (leb a b) t h), and_right (leb a b) t h)

pub record Sized (l : Limits) (original text spans keys : List ℕ) (os : List Operation) (cs : List Cursor) : Type 0 where
  pub original_most : length original ≤ 65535
  pub text_most : length text ≤ 131070
  pub operations_most : length os ≤ l.operations
  pub cursors_most : length cs ≤ l.cursors
  pub tokens_most : total claimed_by os ≤ l.tokens
  pub inserted_most : total (inserted_by (length text) spans keys) os ≤ l.text

module _ (l : Limits) (original text spans keys : List ℕ) (os : List Operation) (cs : List Cursor) where
  pub sized_of : lent_fits original text ≡ true → list_fits l (length text) spans keys os cs ≡ true → Sized l original text spans keys os cs
  sized_of f g =
      let inserted : ℕ = total (inserted_by (length text) spans keys) os in
      let a = le_and (length original) 65535 (leb (length text) 131070) f in
      let b = le_and (length os) l.operations (leb (length cs) l.cursors && (leb (total claimed_by os) l.tokens && leb inserted l.text)) g in
      let d = le_and (length cs) l.cursors (leb (total claimed_by os) l.tokens && leb inserted l.text) b.1 in
      let e = le_and (total claimed_by os) l.tokens (leb inserted l.text) d.1 in
      record {
        original_most = a.0;
        text_most = leb-true (length text) 131070 a.1;
        operations_most = b.0;
        cursors_most = d.0;
        tokens_most = e.0;
        inserted_most = leb-true inserted l.text e.1;
      }
