-- What a state finds in the bytes that are left, key by key and number by number: the facts by which code that reads line by line is tied to the reader's steps.
-- Each is a case of `step` followed by the run of what is left. Assumes nothing.
use mathlib.Core.Path.{◌≡◌, refl, sym, ap, ◌∙◌}
use mathlib.Core.Bool.{Bool, true, false, ◌&&◌}
use mathlib.Core.List.{List, [], ◌∷◌, ◌++◌}
use Prim.Native.Nat.{ℕ, suc, ◌+◌, ◌-◌, ◌*◌, ◌≤◌, ◌<◌}
use native.Mathlib.Nat.{sub-zero}
use native.Mathlib.Omega.{arith}
use native.Mathlib.Decide.{dec_lt}
use lib.ListN.{length, get_or, drop, drop_of_length-le}
use lib.Seq.{drop-cons, drop-nil}
use lib.Dec.{eqb}
use borrow.Author.Tests.{lt-ltb, le-ltb}
use Rattle.room.specs.Choice.{pick}
use Rattle.room.proofs.Bools.{and_left, and_right}
use Rattle.room.proofs.Choices.{never}
use Rattle.edit_format.specs.Tests.{begins}
use Rattle.edit_format.specs.Digits.{digit_of, is_digit}
use Rattle.edit_format.specs.Reading.{Line, bad, key, gap, num, open', item, line_no, key_of, base, several, fits, next, begun, keyed, numbered, kind_of, step, run, Refused, finish, found}
use Rattle.edit_format.specs.Items.{Item}
use Rattle.edit_format.specs.Written.{Head}
use Rattle.edit_format.proofs.DigitLaws.{no_digit_lf, no_digit_space}
use Rattle.edit_format.proofs.NoBeginning.{run_bad}

pub found_bad : (l : ℕ) (bs : List ℕ) → found (bad l) bs ≡ Refused l
unfolding finish
found_bad l bs = ap finish (run_bad l bs)

-- past its key a line begins its first number
key_past : (l : Line) (i : ℕ) (bs : List ℕ) → length (key_of l) ≤ i → found (key l i) bs ≡ found (gap l []) bs
unfolding finish run step keyed
key_past l i [] h = refl
key_past l i (b ∷ bs) h = rw (le-ltb i (length (key_of l)) h)

key_same : (l : Line) (i b : ℕ) → i < length (key_of l) → eqb b (get_or (key_of l) i 0) ≡ true → step (key l i) b ≡ key l (suc i)
unfolding step keyed
key_same l i b h e = rw (lt-ltb i (length (key_of l)) h, e)

key_other : (l : Line) (i b : ℕ) → i < length (key_of l) → eqb b (get_or (key_of l) i 0) ≡ false → step (key l i) b ≡ bad (line_no l)
unfolding step keyed
key_other l i b h e = rw (lt-ltb i (length (key_of l)) h, e)

-- what `begins` says of the key from its byte i on
begins_at : (l : Line) (i b : ℕ) (bs : List ℕ) → i < length (key_of l) → begins (drop i (key_of l)) (b ∷ bs) ≡ eqb b (get_or (key_of l) i 0) && begins (drop (suc i) (key_of l)) bs
unfolding begins
begins_at l i b bs h = rw (drop-cons (key_of l) i 0 h)

begins_all : (l : Line) (i : ℕ) (bs : List ℕ) → length (key_of l) ≤ i → begins (drop i (key_of l)) bs ≡ true
unfolding begins
begins_all l i bs h = rw (drop_of_length-le (key_of l) h)

drop_rest : (n i b : ℕ) (bs : List ℕ) → i < n → drop (n - i) (b ∷ bs) ≡ drop (n - suc i) bs
drop_rest n i b bs h = let e : n - i ≡ suc (n - suc i) = omega arith in rw e

key_more : (l : Line) (i : ℕ) (bs : List ℕ) → begins (drop i (key_of l)) bs ≡ true → found (key l i) bs ≡ found (gap l []) (drop (length (key_of l) - i) bs)
unfolding finish run
key_more l i [] h = rw (drop-nil (length (key_of l) - i))
key_more l i (b ∷ bs) h = elim (dec_lt i (length (key_of l))) [
  | yes g ↦
      let w : eqb b (get_or (key_of l) i 0) && begins (drop (suc i) (key_of l)) bs ≡ true = rw (begins_at l i b bs g) at h in
      rw (key_same l i b g (and_left (eqb b (get_or (key_of l) i 0)) _ w), drop_rest (length (key_of l)) i b bs g)
      (key_more l (suc i) bs (and_right (eqb b (get_or (key_of l) i 0)) _ w))
  | no g ↦ let e : length (key_of l) - i ≡ 0 = omega arith in key_past l i (b ∷ bs) (omega arith) ∙ rw e
]

key_less : (l : Line) (i : ℕ) (bs : List ℕ) → begins (drop i (key_of l)) bs ≡ false → found (key l i) bs ≡ Refused (line_no l)
unfolding finish run
key_less l i [] h = refl
key_less l i (b ∷ bs) h = elim (dec_lt i (length (key_of l))) [
  | yes g ↦ go g (eqb b (get_or (key_of l) i 0)) refl (λ w. key_less l (suc i) bs w) (rw (begins_at l i b bs g) at h)
  | no g ↦ never (sym (begins_all l i (b ∷ bs) (omega arith)) ∙ h)
]
  where
    go : i < length (key_of l) → (t : Bool) → eqb b (get_or (key_of l) i 0) ≡ t → (begins (drop (suc i) (key_of l)) bs ≡ false → found (key l (suc i)) bs ≡ Refused (line_no l)) → t && begins (drop (suc i) (key_of l)) bs ≡ false → found (step (key l i) b) bs ≡ Refused (line_no l)
    go g true e f w = rw (key_same l i b g e) (f w)
    go g false e f w = rw (key_other l i b g e) (found_bad (line_no l) bs)

-- a line whose key stands there goes on with its first number; any other line is bad
pub key_on : (l : Line) (bs : List ℕ) → begins (key_of l) bs ≡ true → found (key l 0) bs ≡ found (gap l []) (drop (length (key_of l)) bs)
key_on l bs h = key_more l 0 bs h ∙ rw (sub-zero (length (key_of l)))

pub key_off : (l : Line) (bs : List ℕ) → begins (key_of l) bs ≡ false → found (key l 0) bs ≡ Refused (line_no l)
key_off l bs h = key_less l 0 bs h

-- an item line is read as the line of the kind that its first byte says
pub open_as : (h : Head) (is : List Item) (b : ℕ) (bs : List ℕ) → found (open' h is) (b ∷ bs) ≡ found (key (item h is (kind_of b)) 0) (b ∷ bs)
unfolding run step
open_as h is b bs = refl

-- a number's first digit, and what is none
pub gap_digit : (l : Line) (cs : List ℕ) (b : ℕ) (bs : List ℕ) → is_digit (base l) b ≡ true → found (gap l cs) (b ∷ bs) ≡ found (num l cs (digit_of b)) bs
unfolding run step begun
gap_digit l cs b bs e = rw e

pub gap_other : (l : Line) (cs : List ℕ) (b : ℕ) (bs : List ℕ) → is_digit (base l) b ≡ false → found (gap l cs) (b ∷ bs) ≡ Refused (line_no l)
unfolding run step begun
gap_other l cs b bs e = rw e (found_bad (line_no l) bs)

-- a further digit: none may follow a zero
pub num_digit : (l : Line) (cs : List ℕ) (n b : ℕ) (bs : List ℕ) → is_digit (base l) b ≡ true → eqb n 0 ≡ false → found (num l cs n) (b ∷ bs) ≡ found (num l cs (n * base l + digit_of b)) bs
unfolding run step numbered
num_digit l cs n b bs e f = rw (e, f)

pub num_zero : (l : Line) (cs : List ℕ) (n b : ℕ) (bs : List ℕ) → is_digit (base l) b ≡ true → eqb n 0 ≡ true → found (num l cs n) (b ∷ bs) ≡ Refused (line_no l)
unfolding run step numbered
num_zero l cs n b bs e f = rw (e, f) (found_bad (line_no l) bs)

-- what stands after a number: LF, or a space where more may follow, and the number breaks no rule
pub num_lf : (l : Line) (cs : List ℕ) (n : ℕ) (bs : List ℕ) → fits l cs n ≡ true → found (num l cs n) (10 ∷ bs) ≡ found (next l cs n) bs
unfolding run step numbered
num_lf l cs n bs f = rw (no_digit_lf (base l), f)

pub num_space : (l : Line) (cs : List ℕ) (n : ℕ) (bs : List ℕ) → several l ≡ true → fits l cs n ≡ true → found (num l cs n) (32 ∷ bs) ≡ found (gap l (cs ++ n ∷ [])) bs
unfolding run step numbered
num_space l cs n bs s f = rw (no_digit_space (base l), f, s)

pub num_unfit : (l : Line) (cs : List ℕ) (n b : ℕ) (bs : List ℕ) → is_digit (base l) b ≡ false → fits l cs n ≡ false → found (num l cs n) (b ∷ bs) ≡ Refused (line_no l)
unfolding run step numbered
num_unfit l cs n b bs e f = rw (e, f) (found_bad (line_no l) bs)

pub num_other : (l : Line) (cs : List ℕ) (n b : ℕ) (bs : List ℕ) → is_digit (base l) b ≡ false → eqb b 10 ≡ false → several l && eqb b 32 ≡ false → found (num l cs n) (b ∷ bs) ≡ Refused (line_no l)
unfolding run step numbered
num_other l cs n b bs e f g = rw (e, f, g) (go (fits l cs n))
  where
    go : (t : Bool) → found (pick t (bad (line_no l)) (bad (line_no l))) bs ≡ Refused (line_no l)
    go true = found_bad (line_no l) bs
    go false = found_bad (line_no l) bs
