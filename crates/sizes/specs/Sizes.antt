-- Refusal 3: the sizes, in two settings. Assumes nothing.
use Rattle.std.specs.Prelude.{ℕ, ◌<◌, Bool, ◌&&◌, List, leb, length}
use Rattle.records.specs.declared.Operation.{Operation}
use Rattle.records.specs.declared.Cursor.{Cursor}
use Rattle.sizes.specs.declared.Limits.{Limits}
use Rattle.sizes.specs.Texts.{total, claimed_by, inserted_by}

-- "operations 4,096 a list for merging", "insert tokens 8,192 a list for merging", "inserted text 65,535 for merging", "cursors 256 a list for merging"
abbrev pub merging : Limits
merging = record { operations = 4096; tokens = 8192; text = 65535; cursors = 256 }

-- "8,192 for text, history and diff", "16,384 otherwise", "131,070 otherwise", "512 otherwise"
abbrev pub otherwise : Limits
otherwise = record { operations = 8192; tokens = 16384; text = 131070; cursors = 512 }

-- limits that sums which stop at 1,000,000 can tell from what passes them, with the original's 65,535 beside the text's
pub record Small (l : Limits) : Type 0 where
  pub tokens : l.tokens < 900000
  pub text : l.text < 900000

-- "original 65,535 code points"; "one lent inserted text of at most 131,070 code points"
abbrev pub lent_fits : List ℕ → List ℕ → Bool
lent_fits original text = leb (length original) 65535 && leb (length text) 131070

-- "The limit itself passes": of a list, with n code points of inserted text lent
abbrev pub list_fits : Limits → ℕ → List ℕ → List ℕ → List Operation → List Cursor → Bool
list_fits l n spans keys os cs =
    leb (length os) l.operations
    && (leb (length cs) l.cursors && (leb (total claimed_by os) l.tokens && leb (total (inserted_by n spans keys) os) l.text))
