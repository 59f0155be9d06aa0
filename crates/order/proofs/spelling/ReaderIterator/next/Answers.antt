use Rattle.std.proofs.Common.{◌∙◌, refl, sym}
use Rattle.order.proofs.Spelled.{none_left, one_read, run_behind}
use Rattle.order.proofs.spelling.ReaderIterator.next.Goals as goal

pub returns-then-self-eq0-clause-steps : goal.returns-then-self-eq0-clause-steps
returns-then-self-eq0-clause-steps c =
    let e = none_left _ _ _ _ _ c.tokens.self.rest.now (c.in_default.ensures.cases) c.if-self-eq0.true in
    (sym c.tokens.invariant.same ∙ e, e)

pub tokens-preserved : goal.tokens-preserved
tokens-preserved c = record {
  can = run_behind _ _ _ _ _ c.tokens.invariant.can c.if-self-eq0.false;
  same = one_read _ _ _ _ _ c.tokens.self.rest.now (c.in_default.ensures.cases) c.if-self-eq0.false c.at-token.ensures refl refl ∙ c.tokens.invariant.same;
}
