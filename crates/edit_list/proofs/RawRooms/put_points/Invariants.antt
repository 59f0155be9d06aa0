-- Shown: `put_points` puts a token for each code point of a part of the text.
-- How: the loop keeps `Pointing`, and leaves the operations alone.
use Rattle.std.proofs.Common.{◌≡◌}
use Rattle.edit_list.specs.Steps.{SameRooms}
use Rattle.edit_list.proofs.Writing.{Pointing}
use Rattle.edit_list.proofs.RawRooms.put_points.Given as goal

abbrev pub invariant-points : goal.invariant-points
invariant-points l =
    SameRooms l.fn.self l.self × (l.self.raw.now ≡ l.fn.self.raw.now)
    × Pointing l.text l.from l.count l.at l.fn.self.spans.now l.fn.self.keys.now l.self.spans.now l.self.keys.now l.j
