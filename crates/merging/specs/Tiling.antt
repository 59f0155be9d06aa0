-- What the laws of the merge are said with: tiling, and which code points a list retains. Assumes nothing.
use Rattle.std.specs.Prelude.{ℕ, ◌+◌, ◌≤◌, ◌<◌, ◌≡◌, Bool, true, false, ◌&&◌, List, [], ◌∷◌, ltb}
use Rattle.merging.specs.declared.Op.{Op}
use Rattle.merging.specs.Operations.{Out}
use Rattle.merging.specs.declared.Op.TheVariants.{Delete, Insert, Retain}

-- "retains and deletes [..] tile the original in order", from `at` to n; an insert stands where it is. None is empty.
abbrev pub Tiled : List Op → ℕ → ℕ → Type 0
Tiled [] at n = at ≡ n
Tiled (Delete o l ∷ os) at n = (o ≡ at) × (0 < l) × Tiled os (o + l) n
Tiled (Insert o f k ∷ os) at n = (o ≡ at) × (0 < k) × Tiled os at n
Tiled (Retain o l ∷ os) at n = (o ≡ at) × (0 < l) × Tiled os (o + l) n

-- "retained": whether the code point at x is, x not before the first operation
abbrev pub kept_at : List Op → ℕ → Bool
kept_at [] x = false
kept_at (Delete o l ∷ os) x = elim (ltb x (o + l)) [ true ↦ false | false ↦ kept_at os x ]
kept_at (Insert o f k ∷ os) x = kept_at os x
kept_at (Retain o l ∷ os) x = elim (ltb x (o + l)) [ true ↦ true | false ↦ kept_at os x ]

-- "Sums are exact": over a list, of what each operation adds
unfoldable pub total_of : (Op → ℕ) → List Op → ℕ
total_of w [] = 0
total_of w (a ∷ ls) = w a + total_of w ls

-- "insert tokens", "inserted text": what an insert of n tokens from f on adds
abbrev pub of_insert : (ℕ → ℕ → ℕ) → Op → ℕ
of_insert w (Delete o l) = 0
of_insert w (Insert o f n) = w f n
of_insert w (Retain o l) = 0

-- "twice the insert tokens of both lists": those of one
abbrev pub tokens_of : List Op → ℕ
tokens_of ls = total_of (of_insert (λ f n. n)) ls

-- "insert [..] with no tokens; token or range outside what was lent": what is asked of each insert's tokens, n from f on
unfoldable pub Inserts : (ℕ → ℕ → Type 0) → List Op → Type 0
Inserts Q [] = Unit
Inserts Q (Delete o l ∷ ls) = Inserts Q ls
Inserts Q (Insert o f n ∷ ls) = Q f n × Inserts Q ls
Inserts Q (Retain o l ∷ ls) = Inserts Q ls

-- "unknown [..] side": each is left or right
unfoldable pub Sided : List Out → Type 0
Sided [] = Unit
Sided (x ∷ xs) = (x.side < 2) × Sided xs

-- "retained exactly if both": os tiles the original from m on, and retains a code point there exactly if both lists do
pub record Merges (os ls rs : List Op) (m n : ℕ) : Type 0 where
  pub tiled : Tiled os m n
  pub kept : (x : ℕ) → m ≤ x → kept_at os x ≡ (kept_at ls x && kept_at rs x)
