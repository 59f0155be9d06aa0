-- Shown: a room is filled with what a list's operations give, one operation at a turn: the invariant, and its three ways.
-- How: what is put, and what the operations that are left will put, is the whole.
use Prim.Native.Nat.{ℕ, ◌+◌, ◌-◌, ◌/◌, ◌≤◌, ◌<◌}
use mathlib.Core.Path.{◌≡◌, refl, sym, ◌∙◌, ap}
use mathlib.Core.List.{List, [], ◌∷◌, ◌++◌}
use native.Mathlib.Omega.{arith}
use native.Mathlib.Nat.{zero-add, sub-zero}
use lib.ListN.{length, length-append}
use Rattle.room.specs.Placed.{placed, answered, Put}
use Rattle.room.proofs.Answers.{at_start}
use Rattle.room.proofs.Placing.{placed_none, placed_length, placed_more}
use Rattle.records.specs.declared.Operation.{Operation}
use Rattle.records.specs.Operations.{operation_at, operations_from, operations_of}
use Rattle.records.proofs.OperationLaws.{from_more, from_none}
use Rattle.merging.specs.Lent.{Lent}
use Rattle.written_lists.specs.Parts.{given_by, text_by, Lies, AllLie}

-- the operations from i on
abbrev pub left : List ℕ → ℕ → List Operation
left xs i = operations_from xs i (length xs / 6 - i)

pub left_all : (xs : List ℕ) → left xs 0 ≡ operations_of xs
unfolding operations_of
left_all xs = rw sub-zero

-- v is what an operation gives, w what a list gives
pub record Gives (v : Operation → List ℕ) (w : List Operation → List ℕ) : Type 0 where
  pub none : w [] ≡ []
  pub more : (o : Operation) (os : List Operation) → w (o ∷ os) ≡ v o ++ w os

pub record Filling (w : List Operation → List ℕ) (xs d d' : List ℕ) (i at : ℕ) : Type 0 where
  pub same : length d' ≡ length d
  pub ends : at + length (w (left xs i)) ≡ length (w (operations_of xs))
  pub stands : placed d' at (w (left xs i)) ≡ placed d 0 (w (operations_of xs))

module _ (v : Operation → List ℕ) (w : List Operation → List ℕ) (g : Gives v w) (xs d : List ℕ) where
  pub fill_begins : Filling w xs d d 0 0
  fill_begins =
      record {
        same = refl;
        ends = zero-add (length (w (left xs 0))) ∙ ap (λ (os : List Operation). length (w os)) (left_all xs);
        stands = ap (λ (os : List Operation). placed d 0 (w os)) (left_all xs);
      }

  module _ {d' : List ℕ} {i at : ℕ} (h : Filling w xs d d' i at) where
    pub fill_ends : length xs / 6 ≤ i → d' ≡ answered (w (operations_of xs)) d
    fill_ends l =
        let n : w (left xs i) ≡ [] = ap w (from_none xs i (length xs / 6) l) ∙ g.none in
        sym (placed_none d' at) ∙ ap (placed d' at) (sym n) ∙ h.stands ∙ at_start (w (operations_of xs)) d

    module _ (l : i < length xs / 6) (room : length (w (operations_of xs)) ≤ length d) (o : Operation) (e : o ≡ operation_at xs i) where
      next : w (left xs i) ≡ v o ++ w (left xs (i + 1))
      next = ap w (from_more xs i (length xs / 6) l) ∙ g.more (operation_at xs i) (left xs (i + 1)) ∙ rw e

      pub fill_fits : at + length (v o) ≤ length d'
      fill_fits = omega (arith, h.same, h.ends, simp length-append at (ap length next))

      pub fill_on : {d'' : List ℕ} {r : ℕ} → Put (v o) d' at d'' r → Filling w xs d d'' (i + 1) r
      fill_on {d''} {r} p =
          record {
            same = ap length p.stands ∙ placed_length d' at (v o) fill_fits ∙ h.same;
            ends = omega (arith, p.next, h.ends, simp length-append at (ap length next));
            stands = rw (p.stands, p.next) (placed_more d' at (v o) (w (left xs (i + 1))) (omega (arith, fill_fits)) ∙ ap (placed d' at) (sym next) ∙ h.stands);
          }

-- the operations that are left lie in what was lent
module _ (lent : Lent) (xs : List ℕ) where
  pub lie_all : AllLie lent (operations_of xs) → AllLie lent (left xs 0)
  lie_all a = rw (left_all xs) a

  lie_next : (i : ℕ) → i < length xs / 6 → AllLie lent (left xs i) → Lies lent (operation_at xs i) × AllLie lent (left xs (i + 1))
  unfolding AllLie
  lie_next i l a = rw (from_more xs i (length xs / 6) l, AllLie) at a

  pub lie_first : (i : ℕ) (o : Operation) → i < length xs / 6 → o ≡ operation_at xs i → AllLie lent (left xs i) → Lies lent o
  lie_first i o l e a = rw e (lie_next i l a).0

  pub lie_rest : (i : ℕ) → i < length xs / 6 → AllLie lent (left xs i) → AllLie lent (left xs (i + 1))
  lie_rest i l a = (lie_next i l a).1

-- the text of a list

pub gives_text : (lent : Lent) → Gives (given_by lent) (text_by lent)
unfolding text_by
gives_text lent = record { none = refl; more = λ o os. refl }

pub record Writing (lent : Lent) (xs d d' : List ℕ) (i at : ℕ) : Type 0 where
  pub lie : AllLie lent (left xs i)
  pub text : Filling (text_by lent) xs d d' i at

module _ (lent : Lent) (xs d : List ℕ) where
  pub text_begins : AllLie lent (operations_of xs) → Writing lent xs d d 0 0
  text_begins a = record { lie = lie_all lent xs a; text = fill_begins (given_by lent) (text_by lent) (gives_text lent) xs d }

  module _ {d' : List ℕ} {i at : ℕ} (h : Writing lent xs d d' i at) where
    pub text_ends : length xs / 6 ≤ i → d' ≡ answered (text_by lent (operations_of xs)) d
    text_ends l = fill_ends (given_by lent) (text_by lent) (gives_text lent) xs d h.text l

    module _ (l : i < length xs / 6) (room : length (text_by lent (operations_of xs)) ≤ length d) (o : Operation) (e : o ≡ operation_at xs i) where
      pub text_asks : Lies lent o × (at + length (given_by lent o) ≤ length d')
      text_asks = (lie_first lent xs i o l e h.lie, fill_fits (given_by lent) (text_by lent) (gives_text lent) xs d h.text l room o e)

      pub text_on : {d'' : List ℕ} {r : ℕ} → Put (given_by lent o) d' at d'' r → Writing lent xs d d'' (i + 1) r
      text_on p = record { lie = lie_rest lent xs i l h.lie; text = fill_on (given_by lent) (text_by lent) (gives_text lent) xs d h.text l room o e p }
