-- What is left stays what it was, while tokens are read; there are fewer of them each time.
use Rattle.std.proofs.Common.{◌≡◌}
use Rattle.order.specs.Spelling.{CanRead, left}
use Rattle.order.proofs.spelling.ReaderIterator.next.Given as goal

abbrev pub invariant-tokens : goal.invariant-tokens
invariant-tokens l = record { can : CanRead l.self; same : left l.self ≡ left l.initial.self }

abbrev pub decreases-tokens : goal.decreases-tokens
decreases-tokens l = l.self.count
