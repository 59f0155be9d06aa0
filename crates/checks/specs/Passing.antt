-- What one pass over a list shows. Assumes nothing.
use Rattle.std.specs.Prelude.{ℕ, ◌+◌, ◌≤◌, min, ◌≡◌, true, List}
use Rattle.records.specs.declared.Operation.{Operation}
use Rattle.records.specs.declared.Token.{Token}
use Rattle.records.specs.declared.Cursor.{Cursor}
use Rattle.sizes.specs.declared.Limits.{Limits}
use Rattle.checks.specs.declared.Pass.{Pass}
use Rattle.sizes.specs.Texts.{run_text, total, claimed_by, inserted_by, retained_by, text_length}
use Rattle.sizes.specs.Sizes.{list_fits}
use Rattle.shapes.specs.Shapes.{run_good, is_run, records_from}
use Rattle.shapes.specs.Tiling.{tiling_of, within_from}
use Rattle.verdict.specs.Verdicts.{accepted}

-- a run's text, capped, and that its tokens are good
pub record Whole (n : ℕ) (ts : List Token) (sum : ℕ) : Type 0 where
  pub good : run_good n ts ≡ true
  pub text : sum ≡ min 1000000 (run_text n ts)

-- an insert's text, capped, and that its tokens are lent and good
pub record Inserts (n : ℕ) (spans keys : List ℕ) (o : Operation) (sum : ℕ) : Type 0 where
  pub good : is_run n spans keys o ≡ true
  pub text : sum ≡ min 1000000 (inserted_by n spans keys o)

-- its sums, and that its sizes are kept and refusals 1 and 2 are not given
pub record Summed (l : Limits) (n m : ℕ) (spans keys : List ℕ) (os : List Operation) (r : Pass) : Type 0 where
  pub tokens : total claimed_by os ≤ l.tokens
  pub text : total (inserted_by m spans keys) os ≤ l.text
  pub claimed : r.tokens ≡ total claimed_by os
  pub inserted : r.inserted ≡ total (inserted_by m spans keys) os
  pub retained : r.retained ≡ total retained_by os
  pub few : r.retained ≤ n
  pub records : accepted ≡ records_from m spans keys os 0
  pub tiles : accepted ≡ tiling_of n os

-- none of refusals 3, 1, 2 and 5 is given; how many tokens and how much text are inserted, and how long the text is
pub record Good (l : Limits) (n m : ℕ) (spans keys : List ℕ) (os : List Operation) (cs : List Cursor) (r : Pass) : Type 0 where
  pub fits : list_fits l m spans keys os cs ≡ true
  pub records : records_from m spans keys os 0 ≡ accepted
  pub tiles : tiling_of n os ≡ accepted
  pub within : within_from (text_length m spans keys os) cs 0 ≡ accepted
  pub claimed : r.tokens ≡ total claimed_by os
  pub inserted : r.inserted ≡ total (inserted_by m spans keys) os
  pub text : r.retained + r.inserted ≡ text_length m spans keys os
  pub small : r.retained + r.inserted ≤ 1000000
