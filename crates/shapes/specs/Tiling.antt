-- Refusals 2 and 5. Assumes nothing.
use Rattle.std.specs.Prelude.{ℕ, ◌+◌, true, false, ◌&&◌, List, [], ◌∷◌, eqb, leb, Err}
use Rattle.refusal.specs.declared.Refusal.TheVariants as R
use Rattle.records.specs.declared.Operation.{Operation}
use Rattle.records.specs.declared.Cursor.{Cursor}
use Rattle.verdict.specs.Verdicts.{Verdict, accepted}

-- "index of first whose order isn't the length consumed before it or that passes the end; else the list's length": from operation i on, with `at` consumed
unfoldable pub tiling_from : ℕ → List Operation → ℕ → ℕ → Verdict
tiling_from n [] i at = elim (eqb at n) [ true ↦ accepted | false ↦ Err (R.Tiling i) ]
tiling_from n (o ∷ os) i at =
    elim (eqb o.kind 1) [
      | true ↦ tiling_from n os (i + 1) at
      | false ↦
          elim (eqb o.order at && leb (at + o.length) n) [
            | true ↦ tiling_from n os (i + 1) (at + o.length)
            | false ↦ Err (R.Tiling i)
          ]
    ]

-- "2: retains and deletes do not tile the original in order", of n code points
abbrev pub tiling_of : ℕ → List Operation → Verdict
tiling_of n os = tiling_from n os 0 0

-- "5: a cursor lies past the end of its own list's text. Carries: its place among the cursors lent": from place i on, of a text of e code points
unfoldable pub within_from : ℕ → List Cursor → ℕ → Verdict
within_from e [] i = accepted
within_from e (c ∷ cs) i = elim (leb c.index e) [ true ↦ within_from e cs (i + 1) | false ↦ Err (R.Cursor i) ]
