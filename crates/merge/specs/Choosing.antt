-- The side of a turn. Assumes nothing.
use Rattle.std.specs.Prelude.{true, false, List, ℕ, Option, Some, None}
use Rattle.merging.specs.declared.Op.{Op}
use Rattle.std.specs.declared.cmp.Ordering.{Ordering}
use Rattle.merging.specs.Lent.{Lent}
use Rattle.merging.specs.OrderRule.{goes_left}
use Rattle.order.specs.Readable.{Readable}
use Rattle.merge.specs.declared.Which.{Which}
use Rattle.merge.specs.declared.Which.TheVariants.{Left, Right}
use Rattle.merge.specs.declared.Choice.{Choice}

-- the tokens of what is next are lent
abbrev pub NextReadable : List ℕ → List ℕ → List ℕ → Option Op → Type 0
NextReadable text spans keys (Some a) = Readable text spans keys a
NextReadable text spans keys None = Unit {0}

-- "Each turn takes the smaller next operation; ties use stream priority; what is not less goes right."
unfoldable pub choice_of : Lent → Ordering → Option Op → Option Op → Option Choice
choice_of lent priority None None = None
choice_of lent priority None (Some b) = Some (record { side = Right; op = b })
choice_of lent priority (Some a) None = Some (record { side = Left; op = a })
choice_of lent priority (Some a) (Some b) =
    elim (goes_left lent priority a b) [ true ↦ Some (record { side = Left; op = a }) | false ↦ Some (record { side = Right; op = b }) ]

-- of what the left and the right have, that of a side
abbrev pub of_which : {A : Type 0} → Which → A → A → A
of_which Left x y = x
of_which Right x y = y

-- the number of a side in a record
abbrev pub number_of : Which → ℕ
number_of Left = 0
number_of Right = 1
