-- What the order of operations reads of what was lent. Assumes nothing.
use Rattle.std.specs.Prelude.{ℕ, ◌+◌, ◌*◌, ◌≤◌, ◌<◌, ◌≡◌, List, [], ◌∷◌, length, get_or}
use Rattle.numbers.specs.Sizes.{most}
use Rattle.records.specs.declared.Operation.{Operation}
use Rattle.records.specs.Tokens.{tokens_lent}
use Rattle.merging.specs.declared.Op.{Op}
use Rattle.merging.specs.declared.Op.TheVariants.{Delete, Insert, Retain}
use Rattle.merging.specs.Operations.{span_of}

-- "token or range outside what was lent": a run of tokens is not so
pub record Run (text spans keys : List ℕ) (first count : ℕ) : Type 0 where
  pub lent : first + count ≤ tokens_lent spans keys
  pub inside : (i : ℕ) → first ≤ i → i < first + count → get_or spans (i * 2) 0 + get_or spans (i * 2 + 1) 0 ≤ length text

-- "token or range outside what was lent": an operation's tokens are not so
abbrev pub Readable : List ℕ → List ℕ → List ℕ → Op → Type 0
Readable text spans keys (Delete o l) = Unit {0}
Readable text spans keys (Insert o f n) = Run text spans keys f n
Readable text spans keys (Retain o l) = Unit {0}

-- every operation of a list that consumed `at` of the original is readable, and what the list consumes is a number
unfoldable pub Ready : List ℕ → List ℕ → List ℕ → ℕ → List Op → Type 0
Ready text spans keys at [] = Unit {0}
Ready text spans keys at (a ∷ ls) = Readable text spans keys a × (at + span_of a ≤ most) × Ready text spans keys (at + span_of a) ls

-- "retains and deletes by shorter length; else equal": two records are one retain or delete
pub record SamePart (x y : Operation) : Type 0 where
  pub part : x.kind ≡ 1 → ⊥
  pub kind : x.kind ≡ y.kind
  pub order : x.order ≡ y.order
  pub length : x.length ≡ y.length
