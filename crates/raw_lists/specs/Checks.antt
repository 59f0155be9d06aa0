-- The sizes and shapes of raw lists: refusals 3 and 1 of them. Assumes nothing.
use Rattle.std.specs.Prelude.{ℕ, ◌+◌, Bool, true, false, ◌&&◌, List, [], ◌∷◌, length, leb, ltb, Err}
use Rattle.refusal.specs.declared.Refusal.TheVariants as R
use Rattle.room.specs.Choice.{pick}
use Rattle.records.specs.Tokens.{tokens_from}
use Rattle.sizes.specs.Texts.{run_text}
use Rattle.shapes.specs.Shapes.{run_good}
use Rattle.raw_lists.specs.declared.Raw.{Raw}
use Rattle.raw_lists.specs.Raws.{pieces_lent}
use Rattle.verdict.specs.Verdicts.{Verdict, accepted}

-- "Sums are exact": over a raw list, of what each operation adds
unfoldable pub total : (Raw → ℕ) → List Raw → ℕ
total f [] = 0
total f (r ∷ rs) = f r + total f rs

-- "token counts stand as claimed; an unknown kind adds none"
abbrev pub claimed_by : Raw → ℕ
claimed_by r = pick (leb r.kind 2) r.count 0

-- "token or range outside what was lent": inside
abbrev pub run_lent : List ℕ → List ℕ → List ℕ → Raw → Bool
run_lent spans keys joins r = leb (r.first + r.count) (pieces_lent spans keys joins)

-- "parts outside what was lent add no text", "an unknown kind adds none"
abbrev pub text_by : ℕ → List ℕ → List ℕ → List ℕ → Raw → ℕ
text_by n spans keys joins r =
    elim (leb r.kind 2 && run_lent spans keys joins r) [ true ↦ run_text n (tokens_from spans keys r.first r.count) | false ↦ 0 ]

-- "raw lists 8,192 operations, 16,384 tokens, 131,070 code points", lent and used
abbrev pub raw_fits : ℕ → List ℕ → List ℕ → List ℕ → List Raw → Bool
raw_fits n spans keys joins rs =
    leb n 131070 && (leb (length rs) 8192 && (leb (total claimed_by rs) 16384 && leb (total (text_by n spans keys joins) rs) 131070))

-- "unknown kind", "raw operation with no tokens; token or range outside what was lent", "(raw lists too) token of length 0": not so
abbrev pub is_raw : ℕ → List ℕ → List ℕ → List ℕ → Raw → Bool
is_raw n spans keys joins r =
    leb r.kind 2 && (ltb 0 r.count && (run_lent spans keys joins r && run_good n (tokens_from spans keys r.first r.count)))

-- "index of first such operation": from operation i on
unfoldable pub shapes_from : ℕ → List ℕ → List ℕ → List ℕ → List Raw → ℕ → Verdict
shapes_from n spans keys joins [] i = accepted
shapes_from n spans keys joins (r ∷ rs) i =
    elim (is_raw n spans keys joins r) [ true ↦ shapes_from n spans keys joins rs (i + 1) | false ↦ Err (R.Record i) ]
