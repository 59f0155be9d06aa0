use Rattle.std.proofs.Common.{◌≡◌, ◌+◌, ◌-◌, take, drop, length-take, length-drop, arith, rules, sym, ◌∙◌, add-zero, add_assoc}
use Rattle.std.proofs.lemmas.List.Elements.{same_from_all_zip}
use Rattle.room.proofs.Growing.{not_yet}
use Rattle.numbers.proofs.Points.{point_most}
use Rattle.numbers.proofs.Scalar.{each}
use Rattle.utf8_write.proofs.Spilling.{Spilling, narrow_all, narrow_room, begins, part_at, run_fits, by_run, code_fits, by_code}
use Rattle.utf8_write.proofs.spill.Goals as goal
use Rattle.utf8_write.proofs.spill.Goals.{After-put_as-at}

pub put_as-requires-clause-may : goal.put_as-requires-clause-may
put_as-requires-clause-may c = narrow_all c.args.text.now (sym c.requires.2 ∙ c.if-width-text.true)

pub returns-then-width-text : goal.returns-then-width-text
returns-then-width-text c =
    let p = c.put_as.ensures in
    let z : p.0 ≡ c.args.text.now = same_from_all_zip _ _ _ p.1 (λ x y q. search rules) in
    narrow_room c.args.text.now _ _ _ (sym c.requires.2 ∙ c.if-width-text.true) (rw z at p.2)

pub spill-init : goal.spill-init
spill-init c = begins _ _

pub put_as-at-requires-clause-fits : goal.put_as-at-requires-clause-fits
put_as-at-requires-clause-fits c = let e = c.ascii_end-end.ensures in run_fits c.spill.invariant _ e.0 e.1 (λ k l h. e.2 k 0 l h) c.requires.1

-- the room with the run of ASCII
ran : (c : After-put_as-at) → Spilling c.args.text.now c.args.out.now c.put_as-at.new.out c.ascii_end-end.result c.put_as-at.result
ran c =
    let e = c.ascii_end-end.ensures in
    let p = c.put_as-at.ensures in
    let z : p.0 ≡ take (c.ascii_end-end.result - c.spill.i) (drop c.spill.i c.args.text.now) = same_from_all_zip _ _ _ p.1 (λ x y q. search rules) in
    by_run c.spill.invariant _ e.0 e.1 (λ k l h. e.2 k 0 l h) _ _ (rw z at p.2)

pub some-init : goal.some-init
some-init c = rw add-zero (not_yet _ _ _ _ _)

pub spill-preserved : goal.spill-preserved
spill-preserved c =
    let z : c.ascii_end-end.result + c.some.x-index ≡ c.near-i.result
    = omega (arith, c.near-i.ensures, c.ascii_end-end.ensures.1, length-take (c.near-i.result - c.ascii_end-end.result) (drop c.ascii_end-end.result c.args.text.now), length-drop c.ascii_end-end.result c.args.text.now) in
    rw z at (c.some.invariant.grown _ c.requires.1 (ran (goal.at.spill-preserved c).After-put_as-at))

pub put_code-at-requires : goal.put_code-at-requires
put_code-at-requires c =
    let f = c.some.invariant.grown _ c.requires.1 (ran (goal.at.put_code-at-requires c).After-put_as-at) in
    let a = part_at c.args.text.now c.ascii_end-end.result c.near-i.result c.some.x-index c.some-test.true in
    rw a.1 (omega (arith, point_most _ (each _ _ c.requires.0 a.0)), code_fits f a.0 c.requires.1)

pub some-preserved : goal.some-preserved
some-preserved c =
    let a = part_at c.args.text.now c.ascii_end-end.result c.near-i.result c.some.x-index c.some-test.true in
    record {
      least = omega arith;
      grown = λ d h g. rw (← add_assoc) (by_code (c.some.invariant.grown d h g) a.0 _ _ (rw a.1 at c.put_code-at.ensures));
    }
