-- What the laws of elongating are said with. Assumes nothing.
use Rattle.std.specs.Prelude.{ℕ, ◌≡◌, Bool, true, false, not, ◌⊎◌, List, [], ◌∷◌, ◌++◌, eqb}
use Rattle.raw_lists.specs.Raws.{Piece, Run}

-- "each kind in its own order": the tokens of the kinds that pass a test, in list order
unfoldable pub chosen : (ℕ → Bool) → List Run → List Piece
chosen p [] = []
chosen p (r ∷ rs) = elim (p r.kind) [ true ↦ r.tokens ++ chosen p rs | false ↦ chosen p rs ]

-- "A list's text: retained original and insert tokens' spelling, in list order": the tokens of a raw list's text
abbrev pub text_tokens : List Run → List Piece
text_tokens rs = chosen (λ k. not (eqb k 0)) rs

-- "all deletes come first, then all inserts": a delete stands first, or behind a delete or a retain
unfoldable pub Follows : ℕ → List Run → Type 0
Follows k [] = Unit
Follows k (s ∷ ss) = s.kind ≡ 0 → (k ≡ 0) ⊎ (k ≡ 2)

-- "all deletes come first, then all inserts": no insert is directly followed by a delete
unfoldable pub Settled : List Run → Type 0
Settled [] = Unit
Settled (r ∷ rs) = Follows r.kind rs × Settled rs
