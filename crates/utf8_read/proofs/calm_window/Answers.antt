use Rattle.std.proofs.Common.{◌+◌, arith}
use Rattle.utf8_read.proofs.Judging.{part_to}
use Rattle.utf8_read.proofs.calm_window.Goals as goal

pub returns : goal.returns
returns c = λ e. part_to c.args.bytes.now c.args.j (c.args.j + 35) (omega arith) c.requires (c.all_ascii.ensures e)
