-- Shown: the tests before the merge tell what the definition says of each file.
-- How: each call's answer, by its cases.
use Prim.Native.Nat.{ℕ, ◌≤◌, ◌<◌}
use mathlib.Core.Path.{◌≡◌, sym}
use mathlib.Core.Bool.{true, false}
use mathlib.Core.List.{List}
use mathlib.Core.Logic.{⊎_elim}
use native.Mathlib.Omega.{arith}
use lib.ListN.{length}
use borrow.Author.Tests.{le-leb, lt-leb, lt-ltb, le-ltb}
use Rattle.refusal.specs.Numbers.{number}
use Rattle.refusal.specs.declared.Refusal.{Refusal}
use Rattle.refusal.specs.declared.Refusal.TheVariants.{Utf8}
use Rattle.numbers.proofs.Orders.{le_or_lt}
use Rattle.utf8_read.specs.Reading.{good_end}
use Rattle.utf8.specs.Answers.{read_length_of}
use Rattle.edit_format.specs.Reading.{Found, read_file}
use Rattle.edit_read.specs.declared.Accepted.{Accepted as Counted}
use Rattle.edit_read.specs.Judged.{Judged}
use Rattle.merge_files.specs.Program.{utf8}
use Rattle.merge_files.specs.Steps.{uses_of, first_of}
use Rattle.std.specs.Prelude.{Result, Ok, Err}

pub never : {A : Type 0} {n : ℕ} {r : Refusal} → Ok n ≡ Err r → A
never e = let z : ◌≡◌ {A = ℕ} 0 1 = cc in absurd (omega arith)

pub utf8_yes : (s : List ℕ) (n : ℕ) → Ok n ≡ read_length_of s → utf8 s ≡ true
unfolding read_length_of
utf8_yes s n e =
    ⊎_elim (λ (h : length s ≤ good_end s). rw (le-leb (length s) (good_end s) h))
    (λ (h : good_end s < length s). never (rw (lt-ltb (good_end s) (length s) h) at e)) (le_or_lt (length s) (good_end s))

pub utf8_no : (s : List ℕ) (r : Refusal) → Err r ≡ read_length_of s → (utf8 s ≡ false) × (number r ≡ 10)
unfolding read_length_of
utf8_no s r e =
    ⊎_elim (λ (h : length s ≤ good_end s). never (sym (rw (le-ltb (good_end s) (length s) h) at e)))
    (λ (h : good_end s < length s).
    let z : ◌≡◌ {A = Result ℕ Refusal} (Err r) (Err (Utf8 (good_end s))) = rw (lt-ltb (good_end s) (length s) h) at e in
    let w : r ≡ Utf8 (good_end s) = cc in
    (rw (lt-leb (length s) (good_end s) h), rw w)) (le_or_lt (length s) (good_end s))

-- where sizes and UTF-8 of all three are good, the edit files decide
pub reached : (o l r : List ℕ) → length o ≤ 2048 → length l ≤ 2048 → length r ≤ 2048 → utf8 o ≡ true → utf8 l ≡ true → utf8 r ≡ true
    → first_of o l r ≡ uses_of (read_file l) (read_file r)
unfolding first_of
reached o l r so sl sr uo ul ur = rw (le-leb (length o) 2048 so, le-leb (length l) 2048 sl, le-leb (length r) 2048 sr, uo, ul, ur)

pub left_bad : {p : List ℕ} {e : Refusal} (g : Found) → Judged p (Err e) → uses_of (read_file p) g ≡ Err (number e)
unfolding uses_of
left_bad g h = rw (h.says.2, h.says.1)

module _ {p : List ℕ} {n : Counted} (h : Judged p (Ok n)) {q : List ℕ} where
  pub right_bad : {e : Refusal} → Judged q (Err e) → uses_of (read_file p) (read_file q) ≡ Err (number e)
  unfolding uses_of
  right_bad g = rw (h.says.2, g.says.2, g.says.1)

  pub both_good : {m : Counted} → Judged q (Ok m) → uses_of (read_file p) (read_file q) ≡ Ok (record { left = n.original; right = m.original })
  unfolding uses_of
  both_good g = rw (h.says.2, g.says.2, h.says.5, g.says.5)

-- where sizes are good, the first file that is no UTF-8 decides
module _ (o l r : List ℕ) (so : length o ≤ 2048) (sl : length l ≤ 2048) (sr : length r ≤ 2048) where
  pub first_no : utf8 o ≡ false → Err 10 ≡ first_of o l r
  unfolding first_of
  first_no uo = rw (le-leb (length o) 2048 so, le-leb (length l) 2048 sl, le-leb (length r) 2048 sr, uo)

  pub second_no : utf8 o ≡ true → utf8 l ≡ false → Err 10 ≡ first_of o l r
  unfolding first_of
  second_no uo ul = rw (le-leb (length o) 2048 so, le-leb (length l) 2048 sl, le-leb (length r) 2048 sr, uo, ul)

  pub third_no : utf8 o ≡ true → utf8 l ≡ true → utf8 r ≡ false → Err 10 ≡ first_of o l r
  unfolding first_of
  third_no uo ul ur = rw (le-leb (length o) 2048 so, le-leb (length l) 2048 sl, le-leb (length r) 2048 sr, uo, ul, ur)
