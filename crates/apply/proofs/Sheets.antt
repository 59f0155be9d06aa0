-- Shown: the text, the cursors and the history of the lists that the sheets' merges give.
-- How: by computation.
use mathlib.Core.Path.{refl}
use Rattle.numbers.specs.Points.{is_point}
use Rattle.records.specs.Tokens.{tokens_from, spelled}
use Rattle.cursors.specs.Sorted.{place, sorted}
use Rattle.sizes.specs.Texts.{total, run_text, text_from}
use Rattle.verdict.specs.Points.{points_from}
use Rattle.shapes.specs.Shapes.{run_good, records_from}
use Rattle.shapes.specs.Tiling.{tiling_from, within_from}
use Rattle.checks.specs.Lists.{list_verdict}
use Rattle.merging.specs.Operations.{outs_from}
use Rattle.merging.specs.Outputs.{history_of}
use Rattle.merging.specs.Sheets.{sheets}
use Rattle.apply.specs.Answers.{verdict_on, text_on, history_on}
use Rattle.apply.specs.Sheets.{AllMade}

pub sheets_made : AllMade sheets
unfolding verdict_on text_on history_on list_verdict points_from is_point records_from run_good tiling_from within_from total run_text text_from tokens_from spelled sorted place outs_from history_of
sheets_made = (
  record { accepted = refl; text = refl; cursors = refl; history = refl },
  (
    record { accepted = refl; text = refl; cursors = refl; history = refl },
    (record { accepted = refl; text = refl; cursors = refl; history = refl }, tt),
  ),
)
