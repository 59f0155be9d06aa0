-- The states that a merge gets to, and what it remembers in them. Assumes nothing.
use Rattle.std.specs.Prelude.{ℕ, max, ◌≡◌, length}
use Rattle.std.specs.declared.cmp.Ordering.{Ordering}
use Rattle.merging.specs.Lent.{Rules}
use Rattle.merging.specs.Meeting.{Remembered, nothing, deleted, retained, inserted}
use Rattle.merging.specs.Turn.{State, Turned, on, step_of}

-- "Each turn takes the smaller next operation": a state that turns lead to
pub data Reached (R : Rules) (priority : Ordering) (s : State) : State → Type 0 where
  here : Reached R priority s s
  onward : {t : State} (u : Turned) → Reached R priority s t → step_of R priority t ≡ on u → Reached R priority s u.state

-- "The result is remembered": how many tokens are, by their keys or by their lengths
abbrev pub remembered : Remembered → ℕ
remembered nothing = 0
remembered (deleted o l) = 0
remembered (retained o l) = 0
remembered (inserted o ks ls) = max (length ks) (length ls)
