-- What is true of a list that was accepted: the facts that everything above rests on. Assumes nothing.
use Rattle.std.specs.Prelude.{ℕ, ◌+◌, ◌≤◌, ◌<◌, true, false, List, [], ◌∷◌, ◌≡◌, ◌⊎◌, length, eqb}
use Rattle.records.specs.declared.Operation.{Operation}
use Rattle.records.specs.declared.Token.{Token}
use Rattle.records.specs.declared.Cursor.{Cursor}
use Rattle.records.specs.Tokens.{tokens_lent, tokens_from}
use Rattle.records.specs.Cursors.{Within}
use Rattle.sizes.specs.declared.Limits.{Limits}
use Rattle.sizes.specs.Texts.{total, claimed_by, inserted_by, text_length}

-- "retains and deletes .. tile the original in order", from `at` to n
unfoldable pub Tiles : ℕ → List Operation → ℕ → Type 0
Tiles n [] at = at ≡ n
Tiles n (o ∷ os) at =
    elim (eqb o.kind 1) [ true ↦ Tiles n os at | false ↦ (o.order ≡ at) × ((at + o.length ≤ n) × Tiles n os (at + o.length)) ]

-- "token of length 0", "token .. outside what was lent": none of a run is so, with n code points lent
unfoldable pub AllIn : ℕ → List Token → Type 0
AllIn n [] = Unit
AllIn n (t ∷ ts) = (0 < t.length) × ((t.start + t.length ≤ n) × AllIn n ts)

-- "insert .. with no tokens; token or range outside what was lent": an insert is not so
pub record Insert (n : ℕ) (spans keys : List ℕ) (o : Operation) : Type 0 where
  pub kind : o.kind ≡ 1
  pub some : 0 < o.count
  pub lent : o.first + o.count ≤ tokens_lent spans keys
  pub tokens : AllIn n (tokens_from spans keys o.first o.count)

-- "a retain, delete .. of length 0": a retain or delete is not so
pub record Part (o : Operation) : Type 0 where
  pub kind : (o.kind ≡ 0) ⊎ (o.kind ≡ 2)
  pub some : 0 < o.length

-- "unknown kind or side" and the rest of refusal 1: no operation is so
unfoldable pub Shapes : ℕ → List ℕ → List ℕ → List Operation → Type 0
Shapes n spans keys [] = Unit
Shapes n spans keys (o ∷ os) = (o.side < 2) × ((Insert n spans keys o ⊎ Part o) × Shapes n spans keys os)

-- "Order for lists: 3, 4, 1, 2, 5": none was given for this list
pub record AcceptedList (l : Limits) (original text spans keys : List ℕ) (os : List Operation) (cs : List Cursor) : Type 0 where
  pub original_most : length original ≤ 65535
  pub text_most : length text ≤ 131070
  pub operations_most : length os ≤ l.operations
  pub cursors_most : length cs ≤ l.cursors
  pub tokens_most : total claimed_by os ≤ l.tokens
  pub inserted_most : total (inserted_by (length text) spans keys) os ≤ l.text
  pub shapes : Shapes (length text) spans keys os
  pub tiles : Tiles (length original) os 0
  pub within : Within (text_length (length text) spans keys os) cs
