use Rattle.std.proofs.Common.{◌≡◌, ◌-◌, ◌<◌, length, take, drop, arith, rules}
use Rattle.std.proofs.lemmas.List.Elements.{same_from_all_zip}
use Rattle.room.proofs.Growing.{not_yet}
use Rattle.utf8_points.proofs.Filling.{Filling, by_run, run_fits, there, past, room_left, Next, by_pointed, ends}
use Rattle.utf8_points.proofs.fill.Goals as goal
use Rattle.utf8_points.proofs.fill.Goals.{After-put_as-n, In-some, After-point_at-p}

-- the room with the run of ASCII
ran : (c : After-put_as-n) → Filling c.args.bytes.now c.args.out.now c.put_as-n.new.out c.calm_end-end.result c.put_as-n.result
ran c =
    let e = c.calm_end-end.ensures in
    let p = c.put_as-n.ensures in
    let z : p.0 ≡ take (c.calm_end-end.result - c.fill.at) (drop c.fill.at c.args.bytes.now) = same_from_all_zip _ _ _ p.1 (λ x y q. search rules) in
    by_run c.fill.invariant _ _ _ e.0 e.1 e.2 (rw z at p.2)

-- and with some code points behind it
some : (c : In-some) → Filling c.args.bytes.now c.args.out.now c.some.out c.some.at c.some.n
some c = c.some.invariant.grown _ c.requires.1 (ran (goal.at.point_at-p-requires c).After-put_as-n)

pub put_as-n-requires-clause-fits : goal.put_as-n-requires-clause-fits
put_as-n-requires-clause-fits c = let e = c.calm_end-end.ensures in run_fits c.fill.invariant _ e.0 e.1 e.2 c.requires.1

pub some-init : goal.some-init
some-init c = not_yet _ _ _ _ _

pub fill-preserved : goal.fill-preserved
fill-preserved c = c.some.invariant.grown _ c.requires.1 (ran (goal.at.fill-preserved c).After-put_as-n)

pub point_at-p-requires : goal.point_at-p-requires
point_at-p-requires c = (omega (arith, c.near-stop.ensures), there (some c) (omega (arith, c.near-stop.ensures)))

-- where the next code point goes
next : (c : After-point_at-p) → Next c.args.bytes.now c.some.out c.some.at c.some.n c.point_at-p.result.len
next c =
    let f = some (goal.at.bounds-out-n c).In-some in
    let l : c.some.at < length c.args.bytes.now = omega (arith, c.near-stop.ensures) in
    record { past = past f l _ c.point_at-p.ensures; left = room_left f l _ c.point_at-p.ensures c.requires.1 }

pub bounds-out-n : goal.bounds-out-n
bounds-out-n c = (next c).left

pub offset_bounds-out-n : goal.offset_bounds-out-n
offset_bounds-out-n c = omega (arith, (next c).left)

pub overflow_add-at : goal.overflow_add-at
overflow_add-at c = omega (arith, next (goal.at.overflow_add-at c).After-point_at-p)

pub overflow_add-n : goal.overflow_add-n
overflow_add-n c = omega (arith, next (goal.at.overflow_add-n c).After-point_at-p)

pub some-smaller : goal.some-smaller
some-smaller c = omega (arith, next (goal.at.some-smaller c).After-point_at-p)

pub some-preserved : goal.some-preserved
some-preserved c =
    record {
      least = omega (arith, c.some.invariant.least, next (goal.at.some-preserved c).After-point_at-p);
      grown = λ d h g. by_pointed (c.some.invariant.grown d h g) (omega (arith, c.near-stop.ensures)) _ c.point_at-p.ensures h;
    }

pub returns : goal.returns
returns c = ends c.fill.invariant c.fill-test.false
