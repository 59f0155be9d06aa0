-- `check_raws` gives refusal 1 of a raw list.
-- The loop keeps `Shaping`, whose ways are in Checking.
use Rattle.raw_lists.proofs.Checking.{Shaping}
use Rattle.raw_lists.proofs.Lists.{ReadsRaws}
use Rattle.std.proofs.Common.{◌≡◌, ◌/◌, length}
use Rattle.std.specs.Iterator.Adapters.{enumerate_source, enumerate_count}
use Rattle.raw_lists.proofs.check_raws.Given as goal

abbrev pub invariant-raws : goal.invariant-raws
invariant-raws l = record {
  reads : ReadsRaws l.raw (enumerate_source l.i-iterator);
  here : enumerate_count l.i-iterator ≡ (enumerate_source l.i-iterator).next;
  shapes : Shaping l.n l.lent.tokens.spans.now l.lent.tokens.keys.now l.lent.joins.now l.raw (length l.raw / 3) (enumerate_source l.i-iterator).next;
}
