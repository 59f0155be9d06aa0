use Rattle.std.proofs.lemmas.Result.{err_from_is_err_and}
use Rattle.edit_read.proofs.Filled.{refused, few_records, little_text, fillable, filled}
use Rattle.edit_read.proofs.read.Goals.{then-items-file-via-then-items-file, then-items-file-via-else-items-file+then-text-file}
use Rattle.edit_read.proofs.read.Goals as goal

pub returns-in_err-file : goal.returns-in_err-file
returns-in_err-file c = let p = err_from_is_err_and c.from_residual.result c.from_residual.ensures.1 in rw (p.1, p.2) (refused c.in_err-file.ensures)

pub returns-then-items-file : goal.returns-then-items-file
returns-then-items-file c = elim c.then-items-file.branch [
  | then-items-file-via-then-items-file w ↦ few_records c.in_ok-file.ensures w.if-items-file.true
  | then-items-file-via-else-items-file+then-text-file w ↦ little_text c.in_ok-file.ensures w.if-items-file.false w.if-text-file.true
]

pub fill-requires : goal.fill-requires
fill-requires c = fillable _ _ c.in_ok-file.ensures c.if-items-file.false c.if-text-file.false

pub returns : goal.returns
returns c = filled c.in_ok-file.ensures c.if-items-file.false c.if-text-file.false c.fill.ensures.0 c.fill.ensures.1
