-- Shown: `insert_overlap` answers `overlap_of`.
-- How: what is remembered stands off the table, by the laws of proofs/Scratch.antt.
use Rattle.operation.proofs.Scratch.{part_is, scratched, untouched}
use Rattle.overlap.specs.Overlap.{overlap_of}
use borrow.Rule.Slice.PartMut.{mid_of, put_mid}
use lib.Seq.{slice}
use lib.ListN.{length}
use mathlib.Core.List.{List}
use mathlib.Core.Path.{◌≡◌, ◌∙◌, ap}
use Prim.Native.Nat.{ℕ, ◌-◌}
use native.Mathlib.Omega.{arith}
use Rattle.operation.proofs.insert_overlap.Goals as goal

pub returns-clause-value : goal.returns-clause-value
returns-clause-value c = let b = c.args in
    let r = c.requires in
    let w = b.work.now in
    let t = c.fill.new.table in
    let s = scratched w t b.table (length b.new.now) r.1 c.fill.auto.table c.fill.ensures.kept in
    let u : mid_of b.from (b.fill - b.from) (put_mid b.table (length w - b.table) w t) ≡ slice b.from b.fill w =
    part_is b.from b.fill _ r.2 (omega (arith, s.same, r.2, r.3)) ∙ untouched s b.from b.fill r.2 r.3 r.4 in
    c.scan.ensures ∙ ap (λ (old : List ℕ). overlap_of old b.new.now) u
