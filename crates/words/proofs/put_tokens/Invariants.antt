-- `put_tokens` puts what its tokens spell. The loop's invariant and its ways are those of Spelling.
use Rattle.std.proofs.Common.{◌+◌}
use Rattle.records.proofs.EachLaws.{ReadsTokens}
use Rattle.words.proofs.Spelling.{Spelling}
use Rattle.words.proofs.put_tokens.Given as goal

abbrev pub invariant-tokens : goal.invariant-tokens
invariant-tokens l = record {
  reads : ReadsTokens l.tokens.spans.now l.tokens.keys.now (l.first + l.count) l.token-iterator;
  keeps : Spelling l.text l.tokens.spans.now l.tokens.keys.now l.first l.count l.initial.out l.at l.out l.token-iterator.next l.to l.from l.held;
}
