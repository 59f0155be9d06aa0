use Rattle.written_lines.proofs.+long_width.Given as goal

abbrev pub decreases-long_width : goal.decreases-long_width
decreases-long_width l = l.n
