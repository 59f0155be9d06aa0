-- `put_refused` writes the line of a refusal.
-- Each way is a law of Lines.
use Rattle.merge_files.proofs.Lines.{too_short, long_enough, puts}
use Rattle.merge_files.proofs.put_refused.Goals as goal

pub returns-then-out-line_length : goal.returns-then-out-line_length
returns-then-out-line_length c = let s = c in
    too_short s.args.number _ s.requires c.line_length.ensures s.args.out.now c.if-out-line_length.true

pub put_line-requires : goal.put_line-requires
put_line-requires c = let s = c in
    long_enough s.args.number _ s.requires c.line_length.ensures s.args.out.now c.if-out-line_length.false

pub returns : goal.returns
returns c = let s = c in
    puts s.args.number _ s.requires c.line_length.ensures s.args.out.now _ _ c.if-out-line_length.false c.put_line.ensures
