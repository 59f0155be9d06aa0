-- The bytes of a file under a header. Assumes nothing.
use Rattle.std.specs.Prelude.{ℕ, ◌/◌, List, ◌++◌, length, ℤ}
use Rattle.edit_format.specs.Written.{head_lines, item_lines, number_line, end_key}
use Rattle.writable.specs.Writable.{file_of}

-- the file of the lent items under a header with these sums
unfoldable pub file_bytes : List ℤ → List ℕ → ℕ → ℕ → List ℕ
file_bytes items text o r =
    head_lines (record { original = o; result = r; count = length items / 3 }) ++ item_lines (file_of items text) ++ number_line end_key (length items / 3)
