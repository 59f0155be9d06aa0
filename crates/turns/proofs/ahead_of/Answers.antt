-- Shown: `ahead_of` looks at the record at its place.
-- How: each way through its test is a law of Coming.antt.
use Prim.Native.Nat.{ℕ, ◌+◌}
use Rattle.turns.proofs.Coming.{first_fits, looks_here, looks_done}
use Rattle.records.specs.declared.Operation.{Operation}
use Rattle.merging.specs.Operations.{span_of, op_of}
use mathlib.Core.Path.{◌∙◌, ap}
use native.Mathlib.Omega.{arith}
use Rattle.turns.proofs.ahead_of.Goals as goal

pub overflow_add-result-then-behind-count : goal.overflow_add-result-then-behind-count
overflow_add-result-then-behind-count c = omega (
  arith,
  first_fits c.args.operations.now c.args.behind c.args.at (rw c.count.ensures at c.if-behind-count.true) c.requires,
  ap span_of
      (c.op_of-op.ensures ∙ ap (λ (o : Operation). op_of c.args.at o) c.at.ensures),
)

pub returns-then-behind-count : goal.returns-then-behind-count
returns-then-behind-count c = looks_here _ _ _ c.op_of-op.result _ (rw c.count.ensures at c.if-behind-count.true)
    (c.op_of-op.ensures ∙ ap (λ (o : Operation). op_of c.args.at o) c.at.ensures)
    (ap (λ (k : ℕ). c.args.at + k) c.span.ensures)

pub returns-else-behind-count : goal.returns-else-behind-count
returns-else-behind-count c = looks_done _ _ _ (rw c.count.ensures at c.if-behind-count.false)
