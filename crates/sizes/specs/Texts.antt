-- How much text a list has, counted, and that text. Assumes nothing.
use Rattle.std.specs.Prelude.{◌≡◌, ℕ, ◌+◌, min, Bool, true, false, ◌&&◌, List, [], ◌∷◌, ◌++◌, eqb, leb, take, drop}
use Rattle.room.specs.Choice.{pick}
use Rattle.records.specs.declared.Operation.{Operation}
use Rattle.records.specs.declared.Token.{Token}
use Rattle.records.specs.Tokens.{tokens_lent, tokens_from, spelling}

-- "Sums are exact": over a list, of what each operation adds
unfoldable pub total : {A : Type 0} → (A → ℕ) → List A → ℕ
total f [] = 0
total f (o ∷ os) = f o + total f os

-- a measure of records gives what f says, as far as the cap tells
abbrev pub Measures : {M A : Type 0} → (M → A → ℕ → Type 0) → M → (A → ℕ) → Type 0
Measures post m f = (x : _) (y : ℕ) → post m x y → min 1000000 y ≡ min 1000000 (f x)

-- "token or range outside what was lent": inside exactly when its end is not above what was lent, n code points
abbrev pub in_text : ℕ → Token → Bool
in_text n t = leb (t.start + t.length) n

-- "parts outside what was lent add no text": what a run of tokens adds
unfoldable pub run_text : ℕ → List Token → ℕ
run_text n [] = 0
run_text n (t ∷ ts) = pick (in_text n t) t.length 0 + run_text n ts

-- "token or range outside what was lent": an operation's range of tokens is inside
abbrev pub run_lent : List ℕ → List ℕ → Operation → Bool
run_lent spans keys o = leb (o.first + o.count) (tokens_lent spans keys)

-- "token counts stand as claimed; an unknown kind adds none"
abbrev pub claimed_by : Operation → ℕ
claimed_by o = pick (eqb o.kind 1) o.count 0

-- "a list's inserted text is the sum of its tokens' lengths"; "parts outside what was lent add no text"
abbrev pub inserted_by : ℕ → List ℕ → List ℕ → Operation → ℕ
inserted_by n spans keys o =
    elim (eqb o.kind 1 && run_lent spans keys o) [ true ↦ run_text n (tokens_from spans keys o.first o.count) | false ↦ 0 ]

-- "retained original"
abbrev pub retained_by : Operation → ℕ
retained_by o = pick (eqb o.kind 2) o.length 0

-- "A list's text: retained original and insert tokens' spelling, in list order": its length
abbrev pub text_length : ℕ → List ℕ → List ℕ → List Operation → ℕ
text_length n spans keys os = total retained_by os + total (inserted_by n spans keys) os

-- "A list's text: retained original and insert tokens' spelling, in list order", with `at` of the original consumed before
unfoldable pub text_from : List ℕ → List ℕ → List ℕ → List ℕ → List Operation → ℕ → List ℕ
text_from original text spans keys [] at = []
text_from original text spans keys (o ∷ os) at =
    elim (eqb o.kind 1) [
      | true ↦ spelling text spans keys o.first o.count ++ text_from original text spans keys os at
      | false ↦
          elim (eqb o.kind 2) [
            | true ↦ take o.length (drop at original) ++ text_from original text spans keys os (at + o.length)
            | false ↦ text_from original text spans keys os (at + o.length)
          ]
    ]

-- "A list's text: retained original and insert tokens' spelling, in list order."
abbrev pub list_text : List ℕ → List ℕ → List ℕ → List ℕ → List Operation → List ℕ
list_text original text spans keys os = text_from original text spans keys os 0
