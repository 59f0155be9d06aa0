-- `text_step` adds one operation's text to a sum: by the laws of Sums.
use Prim.Native.Nat.{min}
use mathlib.Core.List.{List}
use mathlib.Core.Path.{◌≡◌, ◌∙◌, ap}
use Rattle.records.specs.declared.Operation.{Operation}
use Rattle.sizes.specs.Texts.{text_length}
use Rattle.operations.proofs.Sums.{stepped, one}
use Rattle.std.proofs.Common.{rules}
use Rattle.operations.proofs.text_step.Goals as goal

pub returns : goal.returns
returns c =
    let a = c.args in
    let e : c.min.result ≡ min 1000000 a.sum = search rules in
    stepped a.n a.tokens.spans.now a.tokens.keys.now a.o a.sum c.min.result c.text_length-more.result c.capped.result e
    (c.text_length-more.ensures ∙ ap (λ (os : List Operation). min 1000000 (text_length a.n a.tokens.spans.now a.tokens.keys.now os)) (one a.o)) c.capped.ensures
