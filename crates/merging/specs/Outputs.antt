-- What is made of any list: its text, its history, its diff. Assumes nothing.
use Rattle.std.specs.Prelude.{ℕ, ◌+◌, List, [], ◌∷◌, ◌++◌, Bool, ◌||◌, eqb, length, take, drop}
use Rattle.room.specs.Choice.{pick}
use Rattle.diff.specs.Replay.{Edit, retain, delete, insert}
use Rattle.merging.specs.declared.Op.{Op}
use Rattle.merging.specs.declared.Op.TheVariants.{Delete, Insert, Retain}
use Rattle.merging.specs.Lent.{Lent, spelling_of}
use Rattle.merging.specs.Operations.{Out}

-- "retained original and insert tokens' spelling"; of a delete the original text that it drops
abbrev pub words_of : Lent → Op → List ℕ
words_of lent (Delete o l) = take l (drop o lent.original)
words_of lent (Insert o f n) = spelling_of lent f n
words_of lent (Retain o l) = take l (drop o lent.original)

-- "A list's text: retained original and insert tokens' spelling, in list order."
unfoldable pub text_of : Lent → List Op → List ℕ
text_of lent [] = []
text_of lent (Delete o l ∷ ls) = text_of lent ls
text_of lent (Insert o f n ∷ ls) = words_of lent (Insert o f n) ++ text_of lent ls
text_of lent (Retain o l ∷ ls) = words_of lent (Retain o l) ++ text_of lent ls

-- "History has one span for each operation": its kind, 0 unchanged, 1 added, 2 removed; the side of what is unchanged means nothing and is 0
pub record Span : Type 0 where
  pub kind : ℕ
  pub side : ℕ
  pub text : List ℕ

-- "history unchanged ab, removed left cd, [..] added left X": an operation's span
abbrev pub spanned : Lent → ℕ → Op → Span
spanned lent side (Delete o l) = record { kind = 2; side = side; text = words_of lent (Delete o l) }
spanned lent side (Insert o f n) = record { kind = 1; side = side; text = words_of lent (Insert o f n) }
spanned lent side (Retain o l) = record { kind = 0; side = 0; text = words_of lent (Retain o l) }

-- "History has one span for each operation, in order."
unfoldable pub history_of : Lent → List Out → List Span
history_of lent [] = []
history_of lent (x ∷ xs) = spanned lent x.side x.op ∷ history_of lent xs

-- "Text, history and replay agree over the defined text": the kinds of span, unchanged and added, that make the list's text
abbrev pub of_text : ℕ → Bool
of_text kind = eqb kind 0 || eqb kind 1

-- "Text, history and replay agree over the defined text": the kinds of span, unchanged and removed, that make the original
abbrev pub of_original : ℕ → Bool
of_original kind = eqb kind 0 || eqb kind 2

-- "Text, history and replay agree over the defined text": what the spans of some kinds spell
unfoldable pub spelled_by : (ℕ → Bool) → List Span → List ℕ
spelled_by p [] = []
spelled_by p (x ∷ xs) = pick (p x.kind) x.text [] ++ spelled_by p xs

-- "one span for each operation, in order": the text of all spans, one behind the other
unfoldable pub history_text : List Span → List ℕ
history_text [] = []
history_text (p ∷ ps) = p.text ++ history_text ps

-- "one span for each operation, in order": the spans as numbers: kind, side, and where the text stands in the text of all, `at` of it standing before
unfoldable pub flat_spans : ℕ → List Span → List ℕ
flat_spans at [] = []
flat_spans at (p ∷ ps) = p.kind ∷ p.side ∷ at ∷ length p.text ∷ flat_spans (at + length p.text) ps

-- "retains positive with neighbours joined": a retain in front of a diff
abbrev pub joined : ℕ → List Edit → List Edit
joined l [] = retain l ∷ []
joined l (retain n ∷ es) = retain (l + n) ∷ es
joined l (delete n ∷ es) = retain l ∷ delete n ∷ es
joined l (insert s ∷ es) = retain l ∷ insert s ∷ es

-- "to_diff: retains positive with neighbours joined, deletes negative and never joined, inserts as text."
unfoldable pub to_diff : Lent → List Op → List Edit
to_diff lent [] = []
to_diff lent (Delete o l ∷ ls) = delete l ∷ to_diff lent ls
to_diff lent (Insert o f n ∷ ls) = insert (words_of lent (Insert o f n)) ∷ to_diff lent ls
to_diff lent (Retain o l ∷ ls) = joined l (to_diff lent ls)
