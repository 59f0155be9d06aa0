-- Shown: the line of a refusal is written, or the room is too short for it.
-- How: a refusal's number is at most 10, so the line's length is exact.
use Prim.Native.Nat.{ℕ, ◌+◌, ◌≤◌, ◌<◌}
use mathlib.Core.Path.{◌≡◌, refl, ◌∙◌}
use mathlib.Core.List.{List}
use native.Mathlib.Omega.{arith}
use lib.ListN.{length}
use borrow.Author.Tests.{le-leb, lt-leb}
use Rattle.room.specs.Placed.{Put}
use Rattle.room.proofs.Answers.{at_start}
use Rattle.edit_format.specs.Digits.{digits}
use Rattle.edit_format.specs.Written.{number_line}
use Rattle.written_lines.specs.Lengths.{cap}
use Rattle.written_lines.proofs.Numbers.{few_digits}
use Rattle.written_lines.proofs.Counting.{line_length}
use Rattle.merge_files.specs.declared.Outcome.TheVariants as O
use Rattle.merge_files.specs.Program.{refused, refused_key, bytes_of, kind_of, outcome_of, room_after, Written}

module _ (n m : ℕ) (small : n ≤ 10) (e : m ≡ cap (8 + length (digits 10 n) + 1)) where
  exact : m ≡ length (number_line refused_key n)
  exact = omega (arith, line_length refused_key n, few_digits 10 n)

  pub too_short : (out : List ℕ) → length out < m → Written (refused n) out out O.Room
  unfolding bytes_of outcome_of room_after
  too_short out h =
      let t = lt-leb (length (number_line refused_key n)) (length out) (omega (arith, exact)) in
      record { answer = rw t; room = rw t }

  pub long_enough : (out : List ℕ) → m ≤ length out → 0 + length (number_line refused_key n) ≤ length out
  long_enough out h = omega (arith, exact)

  pub puts : (out out' : List ℕ) (r : ℕ) → m ≤ length out → Put (number_line refused_key n) out 0 out' r → Written (refused n) out out' (O.Refused r)
  unfolding bytes_of kind_of outcome_of room_after
  puts out out' r h p =
      let t = le-leb (length (number_line refused_key n)) (length out) (omega (arith, exact)) in
      let q : r ≡ length (number_line refused_key n) = omega (arith, p.next) in
      record { answer = rw (t, q) refl; room = rw t (p.stands ∙ at_start (number_line refused_key n) out) }
