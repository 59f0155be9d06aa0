use Rattle.std.proofs.lemmas.Result.{err_from_is_err_and}
use Rattle.edit_read.proofs.Judging.{lengths_yes, lengths_no}
use Rattle.edit_read.proofs.read_lengths.Goals as goal

pub returns-in_err-file : goal.returns-in_err-file
returns-in_err-file c = let p = err_from_is_err_and c.from_residual.result c.from_residual.ensures.1 in rw (p.1, p.2) (lengths_no c.in_err-file.ensures)

pub returns : goal.returns
returns c = lengths_yes c.in_ok-file.ensures
