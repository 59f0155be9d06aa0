-- What each operation of an accepted list gives to the text and to the history, by its record alone: its order is the original
-- text consumed before it. Assumes nothing.
use Rattle.std.specs.Prelude.{ℕ, ◌+◌, ◌*◌, ◌≤◌, ◌≡◌, List, [], ◌∷◌, ◌++◌, eqb, length}
use Rattle.room.specs.Choice.{pick}
use Rattle.room.specs.Placed.{placed, answered}
use Rattle.records.specs.declared.Operation.{Operation}
use Rattle.records.specs.Tokens.{tokens_lent, tokens_from}
use Rattle.shapes.specs.Accepted.{AllIn}
use Rattle.merging.specs.declared.Op.{Op}
use Rattle.merging.specs.declared.Op.TheVariants.{Delete, Insert, Retain}
use Rattle.merging.specs.Lent.{Lent}
use Rattle.merging.specs.Operations.{op_of}
use Rattle.merging.specs.Outputs.{words_of, Span, spanned, history_text, flat_spans}

-- "retained original and insert tokens' spelling"; of a delete the original text that it drops
unfoldable pub words_by : Lent → Operation → List ℕ
words_by lent o = words_of lent (op_of 0 o)

-- "A list's text: retained original and insert tokens' spelling": what an operation gives to it
abbrev pub given : Lent → Op → List ℕ
given lent (Delete o l) = []
given lent (Insert o f n) = words_of lent (Insert o f n)
given lent (Retain o l) = words_of lent (Retain o l)

-- the same, of its record
unfoldable pub given_by : Lent → Operation → List ℕ
given_by lent o = given lent (op_of 0 o)

-- "A list's text: [..] in list order."
unfoldable pub text_by : Lent → List Operation → List ℕ
text_by lent [] = []
text_by lent (o ∷ os) = given_by lent o ++ text_by lent os

-- "History has one span for each operation"
unfoldable pub span_by : Lent → Operation → Span
span_by lent o = spanned lent o.side (op_of 0 o)

-- "History has one span for each operation, in order."
unfoldable pub history_by : Lent → List Operation → List Span
history_by lent [] = []
history_by lent (o ∷ os) = span_by lent o ∷ history_by lent os

-- the side of what is unchanged means nothing and is 0
abbrev pub side_of : Operation → ℕ
side_of o = pick (eqb o.kind 2) 0 o.side

-- "removed": what an operation deletes
abbrev pub removed_by : Operation → ℕ
removed_by o = pick (eqb o.kind 0) o.length 0

-- "unknown kind", "token or range outside what was lent", "passes the end": an operation is not so
pub record Lies (lent : Lent) (o : Operation) : Type 0 where
  pub known : o.kind ≤ 2
  pub lends : o.kind ≡ 1 → o.first + o.count ≤ tokens_lent lent.spans lent.keys
  pub tokens : o.kind ≡ 1 → AllIn (length lent.inserted) (tokens_from lent.spans lent.keys o.first o.count)
  pub inside : (o.kind ≡ 1 → ⊥) → o.order + o.length ≤ length lent.original

-- the same of each operation of a list
unfoldable pub AllLie : Lent → List Operation → Type 0
AllLie lent [] = Unit
AllLie lent (o ∷ os) = Lies lent o × AllLie lent os

-- a span was put at place i of the history room h, and its text at a place of the text room d
pub record Told (s : Span) (h d : List ℕ) (i at : ℕ) (h' d' : List ℕ) (r : ℕ) : Type 0 where
  pub next : r ≡ at + length s.text
  pub text : d' ≡ placed d at s.text
  pub span : h' ≡ placed h (i * 4) (s.kind ∷ s.side ∷ at ∷ length s.text ∷ [])

-- the history of a list was put at the start of its rooms
pub record Wrote (ss : List Span) (h d h' d' : List ℕ) : Type 0 where
  pub spans : h' ≡ answered (flat_spans 0 ss) h
  pub text : d' ≡ answered (history_text ss) d
