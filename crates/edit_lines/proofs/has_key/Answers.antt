use Rattle.std.proofs.Common.{◌∙◌}
use Rattle.edit_lines.proofs.Begins.{begins_here}
use Rattle.edit_lines.proofs.has_key.Goals as goal

pub returns : goal.returns
returns c = c.starts_with.ensures.value ∙ begins_here c.args.key.now c.args.bytes.now c.args.at
