use Rattle.std.proofs.Common.{◌+◌, arith}
use Rattle.utf8_read.proofs.Judging.{ascii_join, part_to}
use Rattle.utf8_points.proofs.calm_end.Goals as goal

pub calm-preserved : goal.calm-preserved
calm-preserved c =
    let s = c.args.bytes.now in
    let e = c.calm.end in
    let a = c.ascii_end-end.ensures in
    let b = part_to s e (e + 16) (omega arith) (omega arith) (c.all_ascii.ensures c.if-not-all_ascii.false) in (
      omega (arith, a.0),
      a.1,
      ascii_join s c.args.at (e + 16) (e + 16) _ (omega arith) (ascii_join s c.args.at e e (e + 16) (omega arith) c.calm.invariant.2 b) (λ k l h. a.2 k 0 l h),
    )
