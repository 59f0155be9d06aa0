-- The flat records of a file's items: three numbers each, and the records of one item more.
-- By induction on the items. Assumes nothing.
use mathlib.Core.Path.{◌≡◌, refl, sym, ◌∙◌}
use mathlib.Core.List.{List, [], ◌∷◌, ◌++◌, append_assoc, append-nil}
use Prim.Native.Nat.{ℕ, ◌+◌, ◌*◌}
use native.Mathlib.Nat.{add-zero, add_assoc}
use native.Mathlib.Omega.{arith}
use lib.ListN.{length, length-append}
use Rattle.edit_format.specs.Items.{Item, Keep, Drop, Add, added}
use Rattle.edit_format.specs.Records.{record_of, size, records_from, records_of}

pub length_record : (at : ℕ) (x : Item) → length (record_of at x) ≡ 3
unfolding record_of
length_record at (Keep n) = refl
length_record at (Drop n) = refl
length_record at (Add cs) = refl

length_from : (at : ℕ) (is : List Item) → length (records_from at is) ≡ 3 * length is
unfolding records_from
length_from at [] = refl
length_from at (x ∷ is) = length-append (record_of at x) (records_from (at + size x) is) ∙ omega (arith, length_record at x, length_from (at + size x) is)

pub length_records : (is : List Item) → length (records_of is) ≡ 3 * length is
unfolding records_of
length_records is = length_from 0 is

pub added_cons : (x : Item) (is : List Item) → added (x ∷ is) ≡ size x + added is
unfolding added size
added_cons (Keep n) is = omega arith
added_cons (Drop n) is = omega arith
added_cons (Add cs) is = refl

from_snoc : (at : ℕ) (is : List Item) (x : Item) → records_from at (is ++ x ∷ []) ≡ records_from at is ++ record_of (at + added is) x
unfolding records_from added
from_snoc at [] x = rw (add-zero at) (append-nil (record_of at x))
from_snoc at (y ∷ is) x =
    rw (from_snoc (at + size y) is x, added_cons y is, ← add_assoc at (size y) (added is))
    (sym (append_assoc (record_of at y) (records_from (at + size y) is) (record_of (at + size y + added is) x)))

pub records_snoc : (is : List Item) (x : Item) → records_of (is ++ x ∷ []) ≡ records_of is ++ record_of (added is) x
unfolding records_of
records_snoc is x = from_snoc 0 is x ∙ (let e : 0 + added is ≡ added is = omega arith in rw e)
