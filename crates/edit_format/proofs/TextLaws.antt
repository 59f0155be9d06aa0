-- The text of a file's items: its length, and the text of more items.
-- By induction on the items. Assumes nothing.
use mathlib.Core.Path.{◌≡◌, refl, sym}
use mathlib.Core.List.{List, [], ◌∷◌, ◌++◌, append_assoc}
use native.Mathlib.Omega.{arith}
use lib.ListN.{length, length-append}
use Rattle.edit_format.specs.Items.{Item, Keep, Drop, Add, added, texts}

pub texts_append : (p q : List Item) → texts (p ++ q) ≡ texts p ++ texts q
unfolding texts
texts_append [] q = refl
texts_append (Keep n ∷ p) q = texts_append p q
texts_append (Drop n ∷ p) q = texts_append p q
texts_append (Add cs ∷ p) q = rw (texts_append p q) (sym (append_assoc cs (texts p) (texts q)))

pub texts_length : (is : List Item) → length (texts is) ≡ added is
unfolding texts added
texts_length [] = refl
texts_length (Keep n ∷ is) = texts_length is
texts_length (Drop n ∷ is) = texts_length is
texts_length (Add cs ∷ is) = omega (arith, length-append cs (texts is), texts_length is)
