-- Shown: a merge that the program writes is an edit file that is accepted, and believed for the original.
-- How: a merge that passes its checks has a diff of good items which mention all of the original, and good items that are written are read back. Assumes nothing.
use Prim.Native.Nat.{ℕ}
use mathlib.Core.Path.{◌≡◌, refl, subst}
use mathlib.Core.Bool.{Bool, true, false, ◌&&◌}
use mathlib.Core.List.{List, []}
use native.Mathlib.Omega.{arith}
use lib.ListN.{length}
use borrow.Author.Tests.{eq-eqb}
use Rattle.room.specs.Choice.{pick}
use Rattle.records.specs.declared.Operation.{Operation}
use Rattle.utf8_read.specs.Reading.{points}
use Rattle.edit_format.specs.Reading.{Found, Accepted, Refused, read_file, believes}
use Rattle.edit_format.proofs.ReadBack.{read_back}
use Rattle.merging.specs.Lent.{Lent, rules_of}
use Rattle.merging.specs.Merge.{merge_of}
use Rattle.to_diff.specs.Items.{diff_of}
use Rattle.outputs.proofs.GoodItems.{accepts, diff_good, diff_original}
use Rattle.merge_files.specs.Program.{Output, merged, refused, padding, lent_of, left_of, right_of, verdict_of, file_of, judged, merged_of, of_files, sized, utf8, result_of}
use Rattle.merge_files.proofs.Merging.{merged_fine}
use Rattle.std.specs.Prelude.{Ok, Err}
use Rattle.verdict.specs.Verdicts.{Verdict, accepted}

of_merged : (v : Verdict) (file bytes : List ℕ) → judged v file ≡ merged bytes → (v ≡ accepted) × (file ≡ bytes)
unfolding judged
of_merged (Ok u) file bytes e = (refl, cc)
of_merged (Err r) file bytes e = let z : ◌≡◌ {A = ℕ} 0 1 = cc in absurd (omega arith)

-- the file of two lists that pass their checks
file_believed : (lent : Lent) (left right : List Operation) → verdict_of lent left right ≡ accepted
    → believes (read_file (file_of lent left right)) (length lent.original) ≡ true
unfolding file_of believes verdict_of
file_believed lent left right v =
    let ops : List Operation = (merge_of (rules_of lent) left right [] []).operations in
    let a = accepts lent ops (merged_fine lent left right v) in
    rw (read_back (diff_of lent ops) (diff_good lent ops a)) (eq-eqb _ _ (diff_original lent ops a))

files_believed : (d original : List ℕ) (f g : Found) (bytes : List ℕ) → of_files d original f g ≡ merged bytes → believes (read_file bytes) (length original) ≡ true
unfolding of_files merged_of
files_believed d original (Accepted ls) (Accepted rs) bytes e =
    let lent : Lent = lent_of d original ls rs in
    let p = of_merged (verdict_of lent (left_of ls) (right_of ls rs)) (file_of lent (left_of ls) (right_of ls rs)) bytes e in
    subst (λ (b : List ℕ). believes (read_file b) (length original) ≡ true) p.1 (file_believed lent (left_of ls) (right_of ls rs) p.0)
files_believed d original (Accepted ls) (Refused l) bytes e = let z : ◌≡◌ {A = ℕ} 0 1 = cc in absurd (omega arith)
files_believed d original (Refused l) g bytes e = let z : ◌≡◌ {A = ℕ} 0 1 = cc in absurd (omega arith)

-- by the tests of the definition
picked : (a b : Bool) (x : Output) (bytes : List ℕ) → pick a (pick b x (refused 10)) (refused 3) ≡ merged bytes → x ≡ merged bytes
picked true true x bytes e = e
picked true false x bytes e = let z : ◌≡◌ {A = ℕ} 0 1 = cc in absurd (omega arith)
picked false b x bytes e = let z : ◌≡◌ {A = ℕ} 0 1 = cc in absurd (omega arith)

pub writes_believed : (original left right bytes : List ℕ) → result_of original left right ≡ merged bytes
    → believes (read_file bytes) (length (points original)) ≡ true
unfolding result_of
writes_believed original left right bytes e =
    files_believed padding (points original) (read_file left) (read_file right) bytes
    (picked (sized original && (sized left && sized right)) (utf8 original && (utf8 left && utf8 right)) _ bytes e)
