-- Shown: every starred sheet of the paper.
-- How: the laws of each part, brought together; that no merge is refused, by computation.
use mathlib.Core.Path.{refl}
use Rattle.numbers.specs.Points.{is_point}
use Rattle.records.specs.Tokens.{tokens_from}
use Rattle.overlap.proofs.Sheets.{sheets_hold as overlaps-hold}
use Rattle.replay.proofs.Sheets.{sheets as replays-hold}
use Rattle.verdict.specs.Points.{points_from}
use Rattle.sizes.specs.Texts.{total, run_text}
use Rattle.shapes.specs.Shapes.{run_good, records_from}
use Rattle.shapes.specs.Tiling.{tiling_from, within_from}
use Rattle.checks.specs.Lists.{lists_verdict}
use Rattle.merging.specs.Sheets.{sheets}
use Rattle.merging.proofs.Sheets.{sheets_hold as merges-hold}
use Rattle.apply.proofs.Sheets.{sheets_made}
use Rattle.sheets.specs.Sheets.{Accepts, Sheets}
use Rattle.sheets.proofs.Lines.{lines_hold}

merges_accepted : Accepts sheets
unfolding lists_verdict points_from is_point records_from run_good tiling_from within_from total run_text tokens_from
merges_accepted = (refl, (refl, (refl, tt)))

pub all : Sheets
all =
    record {
      overlap = overlaps-hold;
      replay = replays-hold;
      accepts = merges_accepted;
      merge = merges-hold;
      view = sheets_made;
      writes = lines_hold;
    }
