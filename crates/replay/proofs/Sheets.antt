-- Every bench sheet of a replay comes out as the table says.
-- By computation of the definitions. Assumes nothing.
use mathlib.Core.Path.{refl}
use Rattle.diff.specs.Items.{numbered, ranged, item_of, item_at, items_from, items_of}
use Rattle.diff.specs.Replay.{edit_of, edits_of, replayed, mentioned, left}
use Rattle.numbers.specs.Points.{is_point}
use Rattle.verdict.specs.Points.{points_from}
use Rattle.diff.specs.Checks.{used, sizes, records, numbers, covers}
use Rattle.replay.specs.Answers.{edits, text_of, plain, covering, length_of}
use Rattle.replay.specs.Sheets.{table, AllRight}

pub sheets : AllRight table
unfolding numbered ranged item_of item_at items_from items_of edit_of edits_of replayed mentioned left used sizes is_point points_from records numbers covers edits text_of plain covering length_of table AllRight
sheets = (
  record { plainly = refl; text = refl; coveringly = refl },
  (
    record { plainly = refl; text = refl; coveringly = refl },
    (record { plainly = refl; text = refl; coveringly = refl }, tt),
  ),
)
