-- Shown: `elongate_at` elongates a raw list that is not refused, its tokens further on.
-- How: the answer of `elongate` is known; the rest are laws of proofs/Raising.antt.
use native.Mathlib.Omega.{arith}
use mathlib.Core.Path.{refl}
use Rattle.edit_list.proofs.Raising.{never_refused, can_shift, raises}
use Rattle.edit_list.proofs.elongate_at.Goals as goal

pub shift-requires : goal.shift-requires
shift-requires c = can_shift c.requires _ refl c.elongate.ensures _ c.in-Ok.is (omega (arith, c.requires.in_keys))

pub returns-in-Ok : goal.returns-in-Ok
returns-in-Ok c = raises c.requires _ refl c.elongate.ensures _ c.in-Ok.is c.shift.ensures

pub returns-in-Err : goal.returns-in-Err
returns-in-Err c = absurd (never_refused c.requires _ refl c.elongate.ensures _ c.in-Err.is)
