-- Shown: `put_kept` puts the retain that was held back, if there is one.
-- How: each way through it is a law of proofs/Putting.antt.
use Rattle.to_diff.proofs.Putting.{kept_none, kept_long, kept_one}
use mir.Facts.{to_z-of_z}
use mir.Syntax.{w64}
use mathlib.Core.Path.{◌∙◌}
use Rattle.to_diff.proofs.put_kept.Goals as goal

pub returns-then-kept-eq0 : goal.returns-then-kept-eq0
returns-then-kept-eq0 c = kept_none _ _ _ c.if-kept-eq0.true

pub put_record-requires : goal.put_record-requires
put_record-requires c = kept_long _ _ _ c.if-kept-eq0.false c.requires.1

pub returns : goal.returns
returns c = kept_one _ _ _ _ c.if-kept-eq0.false
    (c.put_record.ensures ∙ rw
    (to_z-of_z {w = w64} {z = c.plain_number.result} (record { sfits = c.plain_number.type_inv }) ∙ c.plain_number.ensures))
