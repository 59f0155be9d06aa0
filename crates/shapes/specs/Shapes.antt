-- Refusal 1. Assumes nothing.
use Rattle.std.specs.Prelude.{ℕ, ◌+◌, Bool, true, false, ◌&&◌, ◌||◌, List, [], ◌∷◌, eqb, ltb, Err}
use Rattle.refusal.specs.declared.Refusal.TheVariants.{Record}
use Rattle.records.specs.declared.Operation.{Operation}
use Rattle.records.specs.declared.Token.{Token}
use Rattle.records.specs.Tokens.{tokens_from}
use Rattle.sizes.specs.Texts.{in_text, run_lent}
use Rattle.verdict.specs.Verdicts.{Verdict, accepted}

-- "token of length 0", "token .. outside what was lent": no token is so
unfoldable pub run_good : ℕ → List Token → Bool
run_good n [] = true
run_good n (t ∷ ts) = (ltb 0 t.length && in_text n t) && run_good n ts

-- "insert .. with no tokens; token or range outside what was lent": not so
abbrev pub is_run : ℕ → List ℕ → List ℕ → Operation → Bool
is_run n spans keys o = ltb 0 o.count && (run_lent spans keys o && run_good n (tokens_from spans keys o.first o.count))

-- "unknown kind or side; in a list, a retain, delete .. of length 0; insert .. with no tokens; token or range outside what was lent": not so
abbrev pub is_record : ℕ → List ℕ → List ℕ → Operation → Bool
is_record n spans keys o =
    ltb o.side 2
    && elim (eqb o.kind 1) [ true ↦ is_run n spans keys o | false ↦ (eqb o.kind 0 || eqb o.kind 2) && ltb 0 o.length ]

-- "1: .. Carries: index of first such operation": from operation i on
unfoldable pub records_from : ℕ → List ℕ → List ℕ → List Operation → ℕ → Verdict
records_from n spans keys [] i = accepted
records_from n spans keys (o ∷ os) i =
    elim (is_record n spans keys o) [ true ↦ records_from n spans keys os (i + 1) | false ↦ Err (Record i) ]
