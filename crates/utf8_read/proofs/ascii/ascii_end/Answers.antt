use Rattle.std.proofs.Common.{◌<◌, arith, sym, ◌∙◌}
use Rattle.std.specs.Slice.Iter.{chunks_exact_rest}
use Rattle.utf8_read.proofs.Runs.{next_rest, next_most, next_within, within_join}
use Rattle.utf8_read.proofs.ascii.ascii_end.Goals as goal

pub far-preserved : goal.far-preserved
far-preserved g c =
    let P = λ (x : g.row.T.Denot). g.T.Unit.value x < 0x80 in
    let i = c.far.invariant in
    let s = c.in-Some.ensures.steps in
    let b = c.in-Some.block.now in
    let r = chunks_exact_rest c.next.new.self in
    let w = sym i.rest ∙ s.1.0 in
    let l = s.1.1 ∙ i.size in
    record {
      least = omega arith;
      most = next_most _ b r c.far.end g.row.N w l i.most;
      size = s.0 ∙ i.size;
      rest = next_rest _ b r c.far.end g.row.N w l;
      ascii = within_join P _ _ _ _ i.ascii (next_within _ b r c.far.end g.row.N w l P i.most (c.all_ascii.ensures c.if-not-all_ascii.false));
    }
