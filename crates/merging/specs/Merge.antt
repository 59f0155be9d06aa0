-- The merge: turns until both sides are done. Assumes nothing.
use Rattle.std.specs.Prelude.{ℕ, zero, suc, ◌+◌, List, [], ◌∷◌, ◌++◌}
use Rattle.records.specs.declared.Operation.{Operation}
use Rattle.records.specs.declared.Cursor.{Cursor}
use Rattle.merging.specs.declared.Op.{Op}
use Rattle.std.specs.declared.cmp.Ordering.{Ordering}
use Rattle.merging.specs.Lent.{Rules}
use Rattle.merging.specs.Operations.{Out, span_of, ops_from, records_of}
use Rattle.merging.specs.OrderRule.{priority_of}
use Rattle.merging.specs.Meeting.{nothing}
use Rattle.merging.specs.Cursors.{ended}
use Rattle.cursors.specs.Sorted.{sorted}
use Rattle.merging.specs.Turn.{Stream, State, Turned, stop, on, step_of}

-- "Each turn": what comes out of a run of them: operations, and cursors in the order in which they moved
pub record Outcome : Type 0 where
  pub outs : List Out
  pub cursors : List Cursor

-- "Leftovers go to the end, left before right."
abbrev pub leftovers : State → List Cursor
leftovers s = ended s.merged s.left.cursors ++ ended s.merged s.right.cursors

-- "Each turn": what one gives in front of what the turns after it give
abbrev pub before : Turned → Outcome → Outcome
before t o = record { outs = t.out ++ o.outs; cursors = t.cursors ++ o.cursors }

-- "Each turn takes the smaller next operation": at most f turns, until both sides are done
unfoldable pub run : Rules → Ordering → ℕ → State → Outcome
run R priority zero s = record { outs = []; cursors = leftovers s }
run R priority (suc f) s =
    elim (step_of R priority s) [
      | stop ↦ record { outs = []; cursors = leftovers s }
      | on t ↦ before t (run R priority f t.state)
    ]

-- "Each turn takes the smaller next operation": more turns than a list can take, one for each operation, and one for each code point at which a retain may be cut
unfoldable pub work : List Op → ℕ
work [] = 0
work (a ∷ ls) = suc (span_of a + work ls)

-- "Cursors are sorted stably by index, going in": a side before the first turn
abbrev pub stream_of : List Op → List Cursor → Stream
stream_of ls cs = record { next = ls; last = nothing; seen = 0; cursors = sorted cs }

-- "Cursors are sorted stably by index, going in": both sides before the first turn
abbrev pub start_of : List Op → List Op → List Cursor → List Cursor → State
start_of ls rs cs ds = record { left = stream_of ls cs; right = stream_of rs ds; merged = 0; consumed = 0 }

-- "Stream priority", and turns from the start
unfoldable pub outcome_of : Rules → List Op → List Op → List Cursor → List Cursor → Outcome
outcome_of R ls rs cs ds = run R (priority_of R.lent ls rs) (work ls + work rs) (start_of ls rs cs ds)

-- "The merge": what it gives
pub record Merged : Type 0 where
  pub operations : List Operation
  pub cursors : List Cursor

-- "The merge", over records: "Cursors are sorted stably by index, going in and coming out."
unfoldable pub merge_of : Rules → List Operation → List Operation → List Cursor → List Cursor → Merged
merge_of R left right cs ds =
    let o = outcome_of R (ops_from 0 left) (ops_from 0 right) cs ds in
    record { operations = records_of R.lent o.outs; cursors = sorted o.cursors }
