-- What is lent beside the lists of a merge: the original, the inserted text and the tokens. Assumes nothing.
use Rattle.std.specs.Prelude.{ℕ, zero, suc, ◌+◌, ◌-◌, ◌*◌, ◌≤◌, List, [], ◌∷◌, get_or, length}
use Rattle.std.proofs.Math.Seq.{slice}
use Rattle.overlap.specs.declared.Range.{Range}
use Rattle.overlap.specs.Overlap.{overlap_of}
use Rattle.records.specs.declared.Lent.{Lent as Texts}
use Rattle.records.specs.Tokens.{spelling}

-- "All lists of one call share one lent inserted text"
pub record Lent : Type 0 where
  pub original : List ℕ
  pub inserted : List ℕ
  pub spans : List ℕ
  pub keys : List ℕ

-- the same, by its parts
abbrev pub lent_of : List ℕ → List ℕ → List ℕ → List ℕ → Lent
lent_of original text spans keys = record { original = original; inserted = text; spans = spans; keys = keys }

-- the same, of a call's texts
abbrev pub lent_in : Texts → Lent
lent_in l = lent_of l.original.now l.text.now l.tokens.spans.now l.tokens.keys.now

-- "Two tokens are equal when their keys are": the keys of count tokens from first on
unfoldable pub keys_of : Lent → ℕ → ℕ → List ℕ
keys_of lent first count = slice first (first + count) lent.keys

-- "the sum of its tokens' lengths": the lengths of the k tokens from place i on
unfoldable pub lengths_of : Lent → ℕ → ℕ → List ℕ
lengths_of lent i zero = []
lengths_of lent i (suc k) = get_or lent.spans (i * 2 + 1) 0 ∷ lengths_of lent (i + 1) k

-- "the sum of its tokens' lengths": a sum
unfoldable pub sum : List ℕ → ℕ
sum [] = 0
sum (x ∷ xs) = x + sum xs

-- "insert tokens' spelling": what the k tokens from place i on spell
abbrev pub spelling_of : Lent → ℕ → ℕ → List ℕ
spelling_of lent i k = spelling lent.inserted lent.spans lent.keys i k

-- "Overlap of inserts", "Given old and new tokens": what a merge goes by is what was lent and the overlap of old and new keys. The laws hold for any overlap, so that they outlive
-- a change of its rule.
pub record Rules : Type 0 where
  pub lent : Lent
  pub overlap : List ℕ → List ℕ → Range

-- "the longest beginning of new that occurs in old, at its first occurrence; 0..0 if none": the rules of the paper
abbrev pub rules_of : Lent → Rules
rules_of lent = record { lent = lent; overlap = overlap_of }

-- "the longest beginning of new": all that the laws ask of an overlap is that it is no longer than new
pub record Lawful (R : Rules) : Type 0 where
  pub short : (old new : List ℕ) → (R.overlap old new).end - (R.overlap old new).start ≤ length new
