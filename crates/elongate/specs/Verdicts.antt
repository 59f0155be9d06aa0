-- The refusals of a raw list, and what elongating answers and leaves. Assumes nothing.
use Rattle.std.specs.Prelude.{ℕ, ◌*◌, ◌≡◌, Bool, ◌&&◌, List, length, leb, Result, Ok, Err}
use Rattle.records.specs.Operations.{flat_operations}
use Rattle.verdict.specs.Verdicts.{and_then, sized, roomed, leaves, Verdict}
use Rattle.verdict.specs.Points.{points_from}
use Rattle.raw_lists.specs.declared.Raw.{Raw}
use Rattle.raw_lists.specs.Raws.{raws_of, runs_of, flat_spans, flat_keys, flat_joins}
use Rattle.raw_lists.specs.Checks.{raw_fits, shapes_from}
use Rattle.raw_lists.specs.Good.{counts}
use Rattle.refusal.specs.declared.Refusal.{Refusal}
use Rattle.elongate.specs.declared.Written.{Written}
use Rattle.elongate.specs.Elongated.{elongated, cooked, all_tokens}

-- "Elongating: as many operations, and as many tokens, as the raw list has": the rooms' numbers
abbrev pub rooms_fit : List Raw → ℕ → ℕ → ℕ → ℕ → Bool
rooms_fit rs o s k j = leb (length rs * 6) o && (leb (counts rs * 2) s && (leb (counts rs) k && leb (counts rs) j))

-- "Raw lists: 3, 4, 1, 7."
unfoldable pub raw_verdict : List ℕ → List ℕ → List ℕ → List ℕ → List Raw → ℕ → ℕ → ℕ → ℕ → Verdict
raw_verdict text spans keys joins rs o s k j =
    and_then (sized (raw_fits (length text) spans keys joins rs))
    (and_then (points_from text 0) (and_then (shapes_from (length text) spans keys joins rs 0) (roomed (rooms_fit rs o s k j))))

-- "its result, numbers of a refusal included": how many operations and tokens, or the refusal
abbrev pub answer_of : Verdict → ℕ → ℕ → Result Written Refusal
answer_of (Ok u) o t = Ok (record { operations = o; tokens = t })
answer_of (Err r) o t = Err r

-- "A public call's statement covers its result, numbers of a refusal included, and the lent buffers": what `elongate` answers and leaves in its rooms, by a verdict
pub record Elongates (xs spans keys joins text o s k j o' s' k' j' : List ℕ) (v : Verdict) (r : Result Written Refusal) : Type 0 where
  pub answer : r ≡ answer_of v (length (elongated (runs_of spans keys joins (raws_of xs)))) (counts (raws_of xs))
  pub operations : o' ≡ leaves v (flat_operations (cooked (elongated (runs_of spans keys joins (raws_of xs))))) o
  pub in_spans : s' ≡ leaves v (flat_spans (all_tokens (elongated (runs_of spans keys joins (raws_of xs))))) s
  pub in_keys : k' ≡ leaves v (flat_keys (all_tokens (elongated (runs_of spans keys joins (raws_of xs))))) k
  pub in_joins : j' ≡ leaves v (flat_joins (all_tokens (elongated (runs_of spans keys joins (raws_of xs))))) j

-- "Raw lists: 3, 4, 1, 7.": of all that was lent
abbrev pub verdict_on : List ℕ → List ℕ → List ℕ → List ℕ → List ℕ → List ℕ → List ℕ → List ℕ → List ℕ → Verdict
verdict_on xs spans keys joins text o s k j = raw_verdict text spans keys joins (raws_of xs) (length o) (length s) (length k) (length j)
