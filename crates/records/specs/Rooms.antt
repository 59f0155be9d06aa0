-- A room with records in it, whatever their width. Assumes nothing.
use Rattle.std.specs.Prelude.{ℕ, List, ◌++◌, take, drop}

-- "On success a room past its answer is unchanged": the room d whose numbers from a to b are s
unfoldable pub filled : List ℕ → ℕ → List ℕ → ℕ → List ℕ
filled d a s b = take a d ++ s ++ drop b d
