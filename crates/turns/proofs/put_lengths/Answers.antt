use Rattle.turns.proofs.Memories.{length_lengths, get_d_lengths}
use Rattle.room.proofs.Copying.{goes_on, ends}
use Rattle.records.proofs.EachLaws.{comes_more, comes_is, comes_on, all_came}
use Rattle.operation.specs.Views.{of_spans}
use Rattle.std.proofs.Common.{◌≡◌, ◌+◌, ◌*◌, sym, ap, arith, get_or, ◌∙◌}
use Rattle.std.specs.Iterator.Adapters.{enumerate_count}
use Rattle.merging.specs.Lent.{lengths_of}
use Rattle.turns.proofs.put_lengths.Goals as goal

pub lengths-preserved : goal.lengths-preserved
lengths-preserved c =
    let i = c.lengths.invariant in
    let s = c.in-Some.ensures.steps in
    let spans = c.args.spans.now in
    let k = enumerate_count c.lengths.i-iterator in
    let l = comes_more i.reads s.0 in
    let n = length_lengths (of_spans spans) c.args.first c.args.count in
    let v : c.in-Some.length ≡ get_or (lengths_of (of_spans spans) c.args.first c.args.count) k 0 =
    comes_is i.reads s.0 ∙ (ap (λ m. get_or spans (m * 2 + 1) 0) (sym i.here) ∙ sym (get_d_lengths (of_spans spans) c.args.first c.args.count k (omega (arith, l, i.here)))) in
    record {
      reads = comes_on i.reads s.0;
      here = omega (arith, s.2, i.here, s.0.on);
      copies = rw (s.2, s.1, v) (goes_on 0 i.copies (omega (arith, n)) (omega (arith, n, l, i.here)));
    }

pub returns : goal.returns
returns c =
    let i = c.lengths.invariant in
    let n = length_lengths (of_spans c.args.spans.now) c.args.first c.args.count in
    (ends i.copies (omega (arith, n, i.here, i.copies.most, all_came i.reads c.in-None.ensures.steps.0))).stands
