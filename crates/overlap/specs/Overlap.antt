-- The overlap of inserts, by exhaustive search: each length from all of new down, and for each length each place of old from
-- the first. Assumes nothing.
use Rattle.std.specs.Prelude.{ℕ, zero, suc, ◌+◌, ◌≡◌, List, [], ◌∷◌, Bool, true, false, ◌&&◌, length, take, drop, ltb, eqb, Result, Ok, Err}
use Rattle.room.specs.Choice.{pick}
use Rattle.refusal.specs.declared.Refusal.{Refusal}
use Rattle.refusal.specs.declared.Refusal.TheVariants.{Size, Room}
use Rattle.overlap.specs.declared.Range.{Range}

-- "0..0 if none": a part of old, start..end
abbrev pub range : ℕ → ℕ → Range
range s e = record { start = s; end = e }

-- "Two tokens are equal when their keys are": two lists of keys are the same
abbrev pub same : List ℕ → List ℕ → Bool
same [] [] = true
same [] (y ∷ ys) = false
same (x ∷ xs) [] = false
same (x ∷ xs) (y ∷ ys) = eqb x y && same xs ys

-- "beginning of new that occurs in old": the first k keys of new stand in old at s
abbrev pub occurs : List ℕ → List ℕ → ℕ → ℕ → Bool
occurs old new k s = same (take k (drop s old)) (take k new)

-- "at its first occurrence": the first of the n places from s on where the first k keys of new stand; else what is given
unfoldable pub first : List ℕ → List ℕ → ℕ → ℕ → ℕ → Range → Range
first old new k zero s other = other
first old new k (suc n) s other = pick (occurs old new k s) (range s (s + k)) (first old new k n (suc s) other)

-- "the longest beginning of new that occurs in old, at its first occurrence; 0..0 if none": of the beginnings of at most k keys
unfoldable pub longest : List ℕ → List ℕ → ℕ → Range
longest old new zero = range 0 0
longest old new (suc k) = first old new (suc k) (length old) 0 (longest old new k)

-- "Given old and new tokens: the longest beginning of new"
unfoldable pub overlap_of : List ℕ → List ℕ → Range
overlap_of old new = longest old new (length new)

-- "Called alone: 8,192 tokens a side, work as long as new; 3 then 7."
unfoldable pub answer_of : List ℕ → List ℕ → ℕ → Result Range Refusal
answer_of old new work =
    pick (ltb 8192 (length old)) (Err Size)
    (pick (ltb 8192 (length new)) (Err Size)
    (pick (ltb work (length new)) (Err Room)
    (Ok (overlap_of old new))))

-- "A refusal writes nothing. [..] only the work room is unspecified": how many numbers at its start a call may change
abbrev pub touched : Result Range Refusal → ℕ → ℕ
touched (Ok r) n = n
touched (Err c) n = 0

-- "A public call's statement covers its result, numbers of a refusal included, and the lent buffers": the answer, and what is left of the work room
pub record Answered (old new before after : List ℕ) (r : Result Range Refusal) : Type 0 where
  pub answer : r ≡ answer_of old new (length before)
  pub kept : drop (touched r (length new)) after ≡ drop (touched r (length new)) before
