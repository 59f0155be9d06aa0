-- Shown: `fill` puts the runs of all items.
-- How: the loop keeps `Going`.
use Rattle.edit_list.specs.Steps.{SameRooms}
use Rattle.edit_list.proofs.Writing.{Going}
use Rattle.edit_list.proofs.RawRooms.fill.Given as goal

abbrev pub invariant-items : goal.invariant-items
invariant-items l =
    SameRooms l.fn.self l.self
    × Going l.items l.count l.lent l.text l.at l.fn.self.raw.now l.fn.self.spans.now l.fn.self.keys.now l.self.raw.now l.self.spans.now l.self.keys.now l.i l.tokens
