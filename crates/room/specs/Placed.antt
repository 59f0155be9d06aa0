-- What a lent room holds after a call, for values of any type. Assumes nothing.
use Rattle.std.specs.Prelude.{◌≡◌, ℕ, ◌+◌, List, ◌++◌, length, take, drop}

-- the room d with s put at a place: what stood before and past it is as it was
unfoldable pub placed : {A : Type 0} → List A → ℕ → List A → List A
placed d at s = take at d ++ s ++ drop (at + length s) d

-- "On success a room past its answer is unchanged": the answer s at the start of the room d
abbrev pub answered : {A : Type 0} → List A → List A → List A
answered s d = s ++ drop (length s) d

-- s was put at a place of the room d, and the place after it is handed back
pub record Put {A : Type 0} (s d : List A) (at : ℕ) (d' : List A) (r : ℕ) : Type 0 where
  pub next : r ≡ at + length s
  pub stands : d' ≡ placed d at s
