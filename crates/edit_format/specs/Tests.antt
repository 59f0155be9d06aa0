-- The test that the keys of the format are found by. Assumes nothing.
use Rattle.std.specs.Prelude.{ℕ, Bool, true, false, ◌&&◌, List, [], ◌∷◌, eqb}

-- the bytes begin with the key k
unfoldable pub begins : List ℕ → List ℕ → Bool
begins [] bs = true
begins (k ∷ ks) [] = false
begins (k ∷ ks) (b ∷ bs) = eqb b k && begins ks bs
