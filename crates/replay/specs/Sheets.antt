-- The bench sheets of a replay, as a table.
-- Assumes nothing.
use Rattle.std.specs.Prelude.{◌≡◌, ℕ, List, [], ◌∷◌, pos, negsuc, Result, Ok, Err}
use Rattle.refusal.specs.declared.Refusal.TheVariants.{Short, Unmentioned}
use Rattle.replay.specs.Answers.{Diff, diff, text_of, plain, covering, length_of}
use Rattle.refusal.specs.declared.Refusal.{Refusal}

-- a diff with the plain answer, the text where there is one, and the covering answer
pub record Sheet : Type 0 where
  pub lent : Diff
  pub plainly : Result ℕ Refusal
  pub text : List ℕ
  pub coveringly : Result ℕ Refusal

-- the original of all rows
abbrev pub abcde : List ℕ
abcde = 97 ∷ 98 ∷ 99 ∷ 100 ∷ 101 ∷ []

-- "abcde" with 2, "X", -2 replays to "abX"; covering refuses 9 with 1 left. 3, -3 refuses 6: position 3, requested 3, available 2.
-- "The most negative number: position 0, available 5." The text of a diff that is refused is what its edits would give.
unfoldable pub table : List Sheet
table =
    record {
      lent = diff abcde (pos 0 ∷ pos 2 ∷ pos 0 ∷ pos 1 ∷ pos 0 ∷ pos 1 ∷ pos 0 ∷ negsuc 1 ∷ pos 0 ∷ []) (88 ∷ []);
      plainly = Ok 3;
      text = 97 ∷ 98 ∷ 88 ∷ [];
      coveringly = Err (Unmentioned 1);
    }
    ∷ record {
      lent = diff abcde (pos 0 ∷ pos 3 ∷ pos 0 ∷ pos 0 ∷ negsuc 2 ∷ pos 0 ∷ []) [];
      plainly = Err (Short 3 3 2);
      text = 97 ∷ 98 ∷ 99 ∷ [];
      coveringly = Err (Short 3 3 2);
    }
    ∷ record {
      lent = diff abcde (pos 0 ∷ negsuc 9223372036854775807 ∷ pos 0 ∷ []) [];
      plainly = Err (Short 0 9223372036854775808 5);
      text = [];
      coveringly = Err (Short 0 9223372036854775808 5);
    }
    ∷ []

-- "★ proved, one statement over the table": a row holds of both replays
pub record Right (s : Sheet) : Type 0 where
  pub plainly : length_of plain s.lent ≡ s.plainly
  pub text : text_of s.lent ≡ s.text
  pub coveringly : length_of covering s.lent ≡ s.coveringly

-- "★ proved, one statement over the table": each row does
unfoldable pub AllRight : List Sheet → Type 0
AllRight [] = Unit
AllRight (s ∷ ss) = Right s × AllRight ss
