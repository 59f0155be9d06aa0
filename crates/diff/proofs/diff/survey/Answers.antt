use Rattle.diff.proofs.Turns.{place_begins, place_ends, place_broken, place_number, place_insert, place_long, place_neither}
use Rattle.std.proofs.Common.{◌∙◌, sym}
use Rattle.diff.proofs.diff.survey.Goals as goal
use Rattle.diff.proofs.diff.survey.Goals.{in-Insert+else-sum-length, in-Retain, in-Neither}

pub items-init : goal.items-init
items-init c = place_begins _ _

pub returns-then-sum-length : goal.returns-then-sum-length
returns-then-sum-length c = place_long c.items.invariant c.items-test.true (sym c.item_at.ensures ∙ c.in-Insert.is) c.if-sum-length.true

pub items-preserved : goal.items-preserved
items-preserved c =
    let h = c.items.invariant in
    let l = c.items-test.true in
    let e = c.item_at.ensures in
    elim c.match-item_at.branch [
      | in-Insert+else-sum-length w ↦ rw (w.sum-is, w.bad-is) (place_insert h l (sym e ∙ w.in-Insert.is) w.if-sum-length.false)
      | in-Retain w ↦ rw (w.sum-is, w.bad-is) (place_number h l (rw e at w.in-Retain.is))
      | in-Neither w ↦ rw (w.sum-is, w.bad-is) (place_neither h l _ w.min-bad.ensures (sym e ∙ w.in-Neither.is))
    ]

pub returns-then-bad-count : goal.returns-then-bad-count
returns-then-bad-count c = place_broken c.items.invariant c.items-test.false c.if-bad-count.true

pub returns : goal.returns
returns c = place_ends c.items.invariant c.items-test.false c.if-bad-count.false
